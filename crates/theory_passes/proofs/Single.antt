-- The single run is the run by passes: in each minute, after the ended blocks went, for each element the passes of all trains in order.
-- The states of the run are in order, passes keep them so, and in order the walk of a train is its pass. Assumes nothing.
use Rattle.std.specs.Prelude.{◌≡◌, ℕ}
use Rattle.std.proofs.Math.Path.{refl, subst₂}
use Rattle.std.proofs.Common.{sym, ap, le_refl}
use mathlib.Core.List.{List, [], append-nil}
use Rattle.rules.specs.Files.{Case}
use Rattle.rules.specs.Turns.{Place, Mark, State}
use Rattle.rules.specs.Single.{first_marks, single_rules, single}
use Rattle.theory_sound.specs.Facts.{Sound}
use Rattle.theory_simulation.specs.Orderly.{Orderly}
use Rattle.theory_simulation.specs.Steps.{serve-orderly}
use Rattle.theory_simulation.specs.Start.{first-orderly}
use Rattle.theory_passes.specs.Passes.{pass_train, single_passes}
use Rattle.theory_passes.specs.Marks.{single-own}
use Rattle.theory_passes.specs.Walk.{walk_keeps}
use Rattle.theory_passes.proofs.Alone.{walk-pass_train}
use Rattle.theory_passes.proofs.Runs as runs
use Rattle.theory_passes.specs.Single.{InOrder, cleared-orderly}

module _ (C : Case) (sound : Sound C) where
  pub pass_train-orderly : (t : ℕ) (e : Place) (k : ℕ) (s : State Mark) → InOrder C s → InOrder C (pass_train C t e k s)
  unfolding single_rules
  pass_train-orderly t e k s o =
      subst₂ (Orderly C) (ap (λ (u : State Mark). u.list) (walk-pass_train C t e k s o)) (ap (λ (u : State Mark). u.arrived) (walk-pass_train C t e k s o))
      (walk_keeps C (single_rules C) t e (Orderly C) (λ b a c v ask h. serve-orderly C sound t e a ask b c v h)
      k [] s.list [] s.arrived s.met (subst₂ (Orderly C) (sym (append-nil s.list)) refl o))

  -- the single run is the run by passes
  pub single-passes : (x : List ℕ) (m : ℕ) → single C x m ≡ single_passes C x m
  unfolding single single_passes single_rules
  single-passes x m =
      runs.run_codes C (single_rules C) (pass_train C) m (InOrder C) (λ t h. pass_train-orderly t) (λ t h. cleared-orderly C sound t) sound (single-own C) (λ t h. walk-pass_train C t)
      (first_marks C x) (first-orderly C x) m (le_refl m)
