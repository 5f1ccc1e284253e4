-- The decimal digits that the listing prints denote the number: in base 10, the highest first, with no leading zero.
-- Each law goes digit by digit from the last on. Assumes nothing.
use Rattle.std.specs.Prelude.{◌≡◌, refl, Bool, true, false, cond, List, [], ◌∷◌, ◌++◌, ℕ, zero, suc, ◌+◌, ◌-◌, ◌*◌, ◌/◌, ◌%◌, ◌^◌, ◌≤◌, ◌<◌, length, get_or, ltb}
use Rattle.std.proofs.Common.{sym, ap, ◌∙◌, arith, length-append, ltb-true, ltb-false}
use Rattle.std.proofs.Math.Nat.{pow-succ'}
use Rattle.std.proofs.Math.ListN.{get_or-append}
use Rattle.rules.specs.Listing.{digits, decimal}
use Rattle.theory_lists.specs.Every.{Every, every_append}

-- ---- the definitions

-- the number that decimal digits denote, after those that denote n; byte 48 is the digit 0
abbrev denotes_from : ℕ → List ℕ → ℕ
denotes_from n [] = n
denotes_from n (d ∷ l) = denotes_from (n * 10 + (d - 48)) l

unfoldable pub denotes : List ℕ → ℕ
denotes l = denotes_from 0 l

-- bytes 48 to 57 are the digits
pub record Digit (b : ℕ) : Type 0 where
  pub low : 48 ≤ b
  pub high : b ≤ 57

-- ---- the laws

denotes-last : (n d : ℕ) (l : List ℕ) → denotes_from n (l ++ (d ∷ [])) ≡ denotes_from n l * 10 + (d - 48)
denotes-last n d [] = refl
denotes-last n d (e ∷ l) = denotes-last (n * 10 + (e - 48)) d l

digits_denote : (n v : ℕ) → v < 10 ^ n → denotes_from 0 (digits n v) ≡ v
digits_denote zero v h = omega arith
digits_denote (suc n) v h = go (ltb v 10) refl (digits_denote n (v / 10))
  where
    go : (b : Bool) → ltb v 10 ≡ b → (v / 10 < 10 ^ n → denotes_from 0 (digits n (v / 10)) ≡ v / 10)
        → denotes_from 0 (cond b [] (digits n (v / 10)) ++ ((48 + v % 10) ∷ [])) ≡ v
    go true q ih = omega (arith, ltb-true v 10 q)
    go false q ih =
        omega (arith, denotes-last 0 (48 + v % 10) (digits n (v / 10)), ih (omega (arith, pow-succ' 10 n)))

-- a number of at most 20 digits is read back
pub decimal-denotes : (v : ℕ) → v < 10 ^ 20 → denotes (decimal v) ≡ v
unfolding denotes decimal
decimal-denotes v h = digits_denote 20 v h

pub decimal-one : (v w : ℕ) → v < 10 ^ 20 → w < 10 ^ 20 → decimal v ≡ decimal w → v ≡ w
decimal-one v w h k e = sym (decimal-denotes v h) ∙ ap denotes e ∙ decimal-denotes w k

digits-digits : (n v : ℕ) → Every Digit (digits n v)
digits-digits zero v = tt
digits-digits (suc n) v = go (ltb v 10) (digits-digits n (v / 10))
  where
    go : (b : Bool) → Every Digit (digits n (v / 10)) → Every Digit (cond b [] (digits n (v / 10)) ++ ((48 + v % 10) ∷ []))
    go true ih = (record { low = omega arith; high = omega arith }, tt)
    go false ih = every_append Digit (digits n (v / 10)) ((48 + v % 10) ∷ []) ih (record { low = omega arith; high = omega arith }, tt)

pub decimal-digits : (v : ℕ) → Every Digit (decimal v)
unfolding decimal
decimal-digits v = digits-digits 20 v

some_digit : (n v : ℕ) → 0 < length (digits (suc n) v)
some_digit n v = omega (arith, length-append (cond (ltb v 10) [] (digits n (v / 10))) ((48 + v % 10) ∷ []))

digits-lead : (n v : ℕ) → v < 10 ^ n → 1 ≤ v → 48 < get_or (digits n v) 0 0
digits-lead zero v h some = absurd (omega arith)
digits-lead (suc n) v h some = go (ltb v 10) refl n h (digits-lead n (v / 10))
  where
    go : (b : Bool) → ltb v 10 ≡ b → (n : ℕ) → v < 10 ^ suc n → (v / 10 < 10 ^ n → 1 ≤ v / 10 → 48 < get_or (digits n (v / 10)) 0 0)
        → 48 < get_or (cond b [] (digits n (v / 10)) ++ ((48 + v % 10) ∷ [])) 0 0
    go true q n h ih = omega (arith, ltb-true v 10 q)
    go false q zero h ih = absurd (omega (arith, ltb-false v 10 q, pow-succ' 10 0))
    go false q (suc n) h ih =
        omega (
          arith,
          ltb-false v 10 q,
          ih (omega (arith, pow-succ' 10 (suc n))) (omega (arith, ltb-false v 10 q)),
          get_or-append (digits (suc n) (v / 10)) ((48 + v % 10) ∷ []) 0 0 (some_digit n (v / 10)),
        )

-- the first digit of a number that is not 0 is not 0
pub decimal-leads : (v : ℕ) → v < 10 ^ 20 → 1 ≤ v → 48 < get_or (decimal v) 0 0
unfolding decimal
decimal-leads v h some = digits-lead 20 v h some
