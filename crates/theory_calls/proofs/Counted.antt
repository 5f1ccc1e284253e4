-- The figures of an accepted case are counted over choices. Assumes nothing.
use Rattle.std.specs.Prelude.{◌≡◌, ℕ}
use mathlib.Core.List.{List}
use Rattle.rules.specs.Refusals.Result.{answer}
use Rattle.rules.specs.Files.{Case, files}
use Rattle.rules.specs.Joint.{joint}
use Rattle.rules.specs.Figures.{punctuality, shares, figures}
use Rattle.rules.specs.Promised.{counted_figures}
use Rattle.theory_weights.specs.Arrivals.{Seen}
use Rattle.theory_weights.specs.Figures.{on_time-weight, late-weight, lateness_sum-weight}
use Rattle.theory_demands.specs.Demands.{seen, demand_2_not-arrived}
use Rattle.theory_calls.specs.Counted.{arrived-counted}

module _ (cs bk : List ℕ) (C : Case) (accepted : files cs bk ≡ answer C) where
  -- the figures of an accepted case are the counted ones
  pub figures-counted : (k L : ℕ) → figures C (joint C C.head.last_minute).arrived k L ≡ counted_figures C k L
  unfolding figures punctuality shares counted_figures
  figures-counted k L =
      let s : Seen C C.head.last_minute = seen cs bk C accepted C.head.last_minute in
      rw (on_time-weight C s k L, late-weight C s k L, lateness_sum-weight C s k, demand_2_not-arrived cs bk C accepted k, arrived-counted cs bk C accepted k)
