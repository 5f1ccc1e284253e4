-- The number that a broken rule gives is one that a refusal can have. By cases on the first rule; assumes nothing.
use Rattle.std.specs.Prelude.{Bool, true, false, List, [], ◌∷◌, ◌≤◌}
use Rattle.std.proofs.Common.{arith}
use Rattle.rules.specs.Refusals.{number, Rule, first_of, verdict}
use Rattle.theory_sound.specs.Verdicts.{Given, number-given}

pub verdict-given : (rs : List Rule) → 1 ≤ verdict rs → Given (verdict rs)
verdict-given [] h = absurd (omega arith)
verdict-given (r ∷ rs) h = go r.broken h (verdict-given rs)
  where
    go : (b : Bool) → 1 ≤ first_of b (number r.fault) (verdict rs) → (1 ≤ verdict rs → Given (verdict rs)) → Given (first_of b (number r.fault) (verdict rs))
    go true h i = number-given r.fault
    go false h i = i h
