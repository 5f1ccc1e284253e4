-- Demands 2 and 3 of what the run in code returns: its contract ties rows and weights to the joint run of the case, and of that the demands are proved.
-- Assumes nothing.
use Rattle.std.specs.Prelude.{◌≡◌, List, map, ℕ, ◌+◌, ◌*◌, ◌≤◌, ◌<◌, take, get_or}
use Rattle.std.proofs.Common.{◌∙◌}
use Rattle.rules.specs.Lists.{keep, sum}
use Rattle.rules.specs.Refusals.Result.{answer}
use Rattle.rules.specs.Files.{Case, files}
use Rattle.rules.specs.Joint.{choices, weight_of, joint}
use Rattle.rules.specs.Demands.{Choice, Simulates, arrives_in}
use Rattle.theory_demands.specs.Demands.{demand_3, demand_2}
use Rattle.rows.specs.Rows.{words}
use Rattle.entries.specs.Encoded.{row_of}
use Rattle.entries.specs.Answer.{Answer}

-- the words that `joint::run` answers with r, and the weights that it leaves, for an accepted case and a stop minute of its window that meets no refusal
module _ (cs bk : List ℕ) (C : Case) (accepted : files cs bk ≡ answer C) (stop r : ℕ) (rows weights : List ℕ) (run : Answer C stop r rows weights)
    (in_window : stop ≤ C.head.last_minute) (unrefused : (joint C stop).met ≡ 0) where
  -- demand 3: the rows are those of a list of which each choice sees its single run
  pub rows_simulate : (take r rows ≡ words (map row_of (joint C stop).list)) × ((x : List ℕ) → Choice C x → Simulates C x stop)
  rows_simulate = (run.list unrefused, λ x choice. demand_3 cs bk C accepted x choice stop)

  -- demand 2: the weight at k · 720 + t is that of exactly the choices whose single run brings train k in in minute t
  pub weights_weigh : (k t : ℕ) → k < 8 → t < 720 → t ≤ stop → get_or weights (k * 720 + t) 0 ≡ sum (weight_of C) (keep (arrives_in C k t) (choices C))
  weights_weigh k t few short h = run.weight unrefused k t few short ∙ demand_2 cs bk C accepted stop in_window k t h
