-- The places of a file's whole fields are within it, and the body of the field at a place. Assumes nothing.
use Rattle.std.specs.Prelude.{◌≡◌, refl, Bool, true, false, cond, List, [], ◌∷◌, ℕ, zero, suc, ◌+◌, ◌-◌, ◌<◌, length, take, drop}
use native.Mathlib.Omega.{arith}
use Rattle.rules.specs.Files.{word}
use Rattle.theory_lists.specs.Every.{Every}
use Rattle.file_fields.specs.Fields.{past, whole, body_at, places_from, places}
use Rattle.file_fields.specs.At.{whole-inside}
use Rattle.file_lookup.specs.declared.Sizes.{Sizes}
use Rattle.file_lookup.specs.Told.Files.{Sound, Unsound}

-- sound files and refused ones are told apart
pub sound_unsound : (s : Sizes) (n f i : ℕ) → Sound s ≡ Unsound n f i → ⊥
sound_unsound s n f i e =
    let z : ◌≡◌ {A = ℕ} 0 1 = cc in
    omega arith

-- the places of a walk are within the file
pub places-inside : (l : List ℕ) → Every (λ j. j < length l) (places l)
unfolding places places_from
places-inside l = from (suc (length l)) 0
  where
    from : (n i : ℕ) → Every (λ j. j < length l) (places_from n l i)
    from zero i = tt
    from (suc n) i = go (whole l i) refl (from n (past l i))
      where
        go : (b : Bool) → whole l i ≡ b → Every (λ j. j < length l) (places_from n l (past l i)) → Every (λ j. j < length l) (cond b (i ∷ places_from n l (past l i)) [])
        go true e r = (omega (arith, whole-inside l i e), r)
        go false e r = tt

module _ (l : List ℕ) (i : ℕ) where
  pub body-whole : {e : ℕ} → whole l i ≡ true → e ≡ past l i → take (e - (i + 3)) (drop (i + 3) l) ≡ body_at l i
  unfolding body_at
  body-whole {e} h k = let q : e - (i + 3) ≡ word l (i + 1) = omega arith in rw (h, q)

  pub body-none : whole l i ≡ false → [] ≡ body_at l i
  unfolding body_at
  body-none h = rw h
