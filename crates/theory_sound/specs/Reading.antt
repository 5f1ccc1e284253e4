-- What every accepted field keeps holds of all that an accepted file holds, and at its end the rules of the end hold.
-- By induction on the turns left: each accepted field shortens the bytes, so the end is met before the turns are over. Assumes nothing.
use Rattle.std.specs.Prelude.{◌≡◌, length}
use Rattle.std.proofs.Common.{sym, not-suc-le-zero, add-zero, zero-add, le_refl, arith}
use Rattle.std.proofs.Math.Path.{subst}
use mathlib.Core.List.{List, [], ◌∷◌}
use Prim.Native.Nat.{ℕ, zero, suc, ◌+◌, ◌<◌}
use Rattle.rules.specs.Refusals.{verdict}
use Rattle.rules.specs.Refusals.Result.{answer}
use Rattle.rules.specs.Files.{File, spot, Contents, field_rules, end_rules, read_field, read_fields, empty, read}
use Rattle.theory_sound.specs.Verdicts.{unless_answer, onward-answer, Unbroken, verdict-unbroken, Field, field-accepted, past, rest, with_field, length_rest}

-- P holds at the offset of each field, of the bytes from there on and of what the fields before it hold
module _ (f : File) (P : ℕ → List ℕ → Contents → Type 0)
    (step : (c : Contents) (at : ℕ) (l : List ℕ) → verdict (field_rules f c at l) ≡ 0 → P at l c → P (past at l) (rest l) (with_field c at l)) where
  fields_follow : (n at : ℕ) (l : List ℕ) (c k : Contents) → length l < n → P at l c → read_fields n f at l c ≡ answer k
      → P (at + length l) [] k × Unbroken (end_rules f k)
  unfolding read_fields read_field
  fields_follow zero at l c k h p e = absurd (not-suc-le-zero h)
  fields_follow (suc n) at [] c k h p e =
      subst (λ (x : Contents). P (at + 0) [] x × Unbroken (end_rules f x)) u.1
      (subst (λ (m : ℕ). P m [] c) (sym (add-zero at)) p, verdict-unbroken (end_rules f c) u.0)
    where
      u : (verdict (end_rules f c) ≡ 0) × (c ≡ k)
      u = unless_answer (verdict (end_rules f c)) (spot f at) c k e
  fields_follow (suc n) at (b ∷ l) c k h p e =
      subst (λ (m : ℕ). P m [] k × Unbroken (end_rules f k)) offsets
      (fields_follow n (past at (b ∷ l)) (rest (b ∷ l)) (with_field c at (b ∷ l)) k shorter (step c at (b ∷ l) u.0 p) u.1)
    where
      u : (verdict (field_rules f c at (b ∷ l)) ≡ 0)
          × (read_fields n f (past at (b ∷ l)) (rest (b ∷ l)) (with_field c at (b ∷ l)) ≡ answer k)
      u = onward-answer (verdict (field_rules f c at (b ∷ l))) (spot f at) (with_field c at (b ∷ l)) (read_fields n f (past at (b ∷ l)) (rest (b ∷ l))) k e

      shorter : length (rest (b ∷ l)) < n
      shorter = omega (arith, length_rest (b ∷ l), h)

      offsets : past at (b ∷ l) + length (rest (b ∷ l)) ≡ at + length (b ∷ l)
      offsets = omega (arith, length_rest (b ∷ l), (field-accepted f c at (b ∷ l) u.0).whole)

  pub read_follows : (l : List ℕ) (k : Contents) → P 0 l empty → read f l ≡ answer k → P (length l) [] k × Unbroken (end_rules f k)
  unfolding read
  read_follows l k p e =
      subst (λ (m : ℕ). P m [] k × Unbroken (end_rules f k)) (zero-add (length l))
      (fields_follow (suc (length l)) 0 l empty k (le_refl (suc (length l))) p e)

-- the same of what an accepted field keeps whatever bytes follow
module _ (f : File) (P : ℕ → Contents → Type 0)
    (step : (c : Contents) (at : ℕ) (l : List ℕ) → Field f c at l → P at c → P (past at l) (with_field c at l)) where
  pub read_keeps : (l : List ℕ) (k : Contents) → P 0 empty → read f l ≡ answer k → P (length l) k × Unbroken (end_rules f k)
  read_keeps l k p e = read_follows f (λ at m c. P at c) (λ c at m v. step c at m (field-accepted f c at m v)) l k p e
