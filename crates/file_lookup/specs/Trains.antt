-- Where train k's field stands is within the case, or at its end where there is no train k. Assumes nothing.
use Rattle.std.specs.Prelude.{List, length}
use Prim.Native.Nat.{ℕ, ◌≤◌, ◌<◌}
use native.Mathlib.Omega.{arith}
use Rattle.std.proofs.Math.Dec.{eqb}
use Rattle.rules.specs.Files.{byte}
use Rattle.theory_lists.specs.Every.{every_more, every_keep, every_anywhere}
use Rattle.file_fields.specs.Fields.{places}
use Rattle.file_lookup.specs.Laws.{places-inside}
use Rattle.file_lookup.specs.Lookup.{train_places, train_place}

-- the walk never leaves the case
pub place_inside : (l : List ℕ) (k : ℕ) → train_place l k ≤ length l
unfolding train_place train_places
place_inside l k =
    every_anywhere (λ j. j ≤ length l) (train_places l) (length l) (omega arith)
    (every_more (λ j. j < length l) (λ j. j ≤ length l) (λ j h. omega arith) (train_places l) (every_keep (λ j. j < length l) (λ j. eqb (byte l j) 4) (places l) (places-inside l))) k
