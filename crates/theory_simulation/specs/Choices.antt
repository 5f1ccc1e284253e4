-- The choices of a case: the call of a single run accepts only those that the whole cover covers.
-- A choice is covered where it has a delay for each train, each of that train's table. Takes `Sound` as given, and assumes nothing else.
use Rattle.std.specs.Prelude.{◌≡◌, Bool, not, ◌||◌, ℕ, length, get_or, leb}
use Rattle.std.proofs.Math.Path.{refl, subst}
use Rattle.std.proofs.Common.{sym, arith}
use Rattle.std.proofs.Math.Bool.{true, false}
use Rattle.std.proofs.lemmas.Bool.{false≢true}
use mathlib.Core.List.{List, []}
use Rattle.std.proofs.Math.Dec.{eqb}
use borrow.Author.Tests.{eqb-true, leb-false}
use Rattle.rules.specs.Lists.{any, below, has}
use Rattle.rules.specs.Files.{Case}
use Rattle.rules.specs.Joint.{whole}
use Rattle.rules.specs.Calls.{choice_broken}
use Rattle.rules.specs.Demands.{Choice}
use Rattle.theory_sound.specs.Facts.{Sound}
use Rattle.theory_lists.specs.Every.{none_any}
use Rattle.theory_lists.specs.Below.{below_at, has-below}
use Rattle.theory_simulation.specs.Covers.{covers_by_lem}
use Rattle.theory_simulation.specs.Start.{whole-at, whole_length}

-- ---- the choices accepted

module _ (C : Case) (sound : Sound C) (x : List ℕ) where
  -- the delay of the choice for a train is past its table
  abbrev past : ℕ → Bool
  past k = leb (length (get_or C.tables k [])) (get_or x k 0)

  pub unbroken-choice : choice_broken C x ≡ false → Choice C x
  unfolding choice_broken
  unbroken-choice h = go (eqb (length x) (length C.trains)) (any past (below (length C.trains))) refl refl h
    where
      go : (a b : Bool) → eqb (length x) (length C.trains) ≡ a → any past (below (length C.trains)) ≡ b → (not a || b) ≡ false → Choice C x
      go true true q r h = absurd (false≢true (sym h))
      go false b q r h = absurd (false≢true (sym h))
      go true false q r h =
          covers_by_lem (whole C) x (omega (arith, whole_length C, sound.tabled, eqb-true (length x) (length C.trains) q))
          (λ k l. subst (λ (s : List ℕ). has s (get_or x k 0) ≡ true) (sym (whole-at C k))
          (has-below (length (get_or C.tables k [])) (get_or x k 0)
          (leb-false (length (get_or C.tables k [])) (get_or x k 0)
          (below_at (λ j. past j ≡ false) (length C.trains) (none_any past (below (length C.trains)) r) k
          (omega (arith, whole_length C, sound.tabled))))))
