-- The program's answers for the figures of 01: the enum and the structs that stand for each value. Assumes nothing: these are definitions.
use Rattle.std.specs.Prelude.{◌≡◌, List, ℕ, ◌≤◌}
use Rattle.std.proofs.Math.Option.{Option, none, some}
use Rattle.rules.specs.Files.{Case}
use Rattle.rules.specs.Turns.{Arrival}
use Rattle.rules.specs.Joint.{Entry, total, weight_at}
use Rattle.rules.specs.Figures as rules
use Rattle.rules.specs.Figures.Punctuality.{never, always, share}
use Rattle.rules.specs.Answers.{no_share}
use Rattle.out_figures.specs.declared.Punctuality.{Punctuality}
use Rattle.out_figures.specs.declared.Punctuality.TheVariants.{Refused, Never, Always, Share}
use Rattle.out_figures.specs.declared.Shares.{Shares}
use Rattle.out_figures.specs.declared.Figures.{Figures}
use Rattle.out_figures.specs.Sums.{word_of}

-- the case of 01 that the enum stands for, none where the call was refused
abbrev pub case_of : Punctuality → Option rules.Punctuality
case_of Refused = none
case_of Never = some never
case_of Always = some always
case_of (Share x) = some (share x)

abbrev pub punctuality_answer : rules.Punctuality → Punctuality
punctuality_answer never = Never
punctuality_answer always = Always
punctuality_answer (share x) = Share x

abbrev pub shares_answer : rules.Shares → Shares
shares_answer s = record { on_time = s.on_time_of; late = s.late; not_arrived = s.not_arrived_of }

abbrev pub figures_answer : rules.Figures → Figures
figures_answer f = record { punctuality = punctuality_answer f.punctuality; shares = shares_answer f.shares; sum = f.sum; weight = f.weight }

-- the figures of a refused call are all 0
abbrev pub no_figures : Figures
no_figures = record { punctuality = Refused; shares = record { on_time = no_share; late = no_share; not_arrived = no_share }; sum = 0; weight = 0 }

-- the words hold what has arrived of train k, and plan, last minute and whole are the case's
pub record Holds (C : Case) (arrived : List (Arrival Entry)) (ws : List ℕ) (k plan last total : ℕ) : Type 0 where
  pub weights : (t : ℕ) → t ≤ C.head.last_minute → word_of ws k t ≡ weight_at C arrived k t
  pub planned : plan ≡ rules.plan C k
  pub window : last ≡ C.head.last_minute
  pub whole : total ≡ Rattle.rules.specs.Joint.total C
