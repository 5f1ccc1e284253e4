-- The states that the single run can be in are in order, and the end of blocks keeps them so. Assumes nothing.
use Rattle.std.specs.Prelude.{ℕ}
use Rattle.rules.specs.Files.{Case}
use Rattle.rules.specs.Turns.{Mark, State}
use Rattle.theory_sound.specs.Facts.{Sound}
use Rattle.theory_simulation.specs.Orderly.{Orderly}
use Rattle.theory_simulation.specs.Steps.{end-orderly}
use Rattle.theory_passes.specs.Passes.{cleared}

-- a state that the single run can be in
abbrev pub InOrder : Case → State Mark → Type 0
InOrder C s = Orderly C s.list s.arrived

module _ (C : Case) (sound : Sound C) where
  pub cleared-orderly : (t : ℕ) (s : State Mark) → InOrder C s → InOrder C (cleared (λ m. m) t s)
  cleared-orderly t s o = end-orderly C t s.list s.arrived o
