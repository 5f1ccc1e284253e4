-- What the field at a place says of a walk over whole fields: where one stands the walk goes on to its end, and else it stops.
-- Each case of the definition decides the test of a whole field. And that a walk has turns enough: each field has at least three bytes.
-- Assumes nothing.
use Rattle.std.specs.Prelude.{◌≡◌, refl, Bool, true, false, cond, List, ℕ, zero, suc, ◌+◌, ◌≤◌, ◌<◌, length, leb, ltb}
use Rattle.std.proofs.Common.{sym, arith, le-leb, leb-true, ltb-true, ltb-false}
use Rattle.std.proofs.lemmas.Bool.{lt-leb}
use Rattle.rules.specs.Files.{byte, word}
use Rattle.rules.specs.Viewer.{viewed}
use Rattle.rules.specs.Viewer.View.{field, ended, overruns}
use Rattle.file_fields.specs.declared.Field.TheVariants.{Whole}
use Rattle.file_fields.specs.Fields.{past, whole, field_of, field_at}

-- a whole field, with its tag and its end
pub record Here (l : List ℕ) (i tag end : ℕ) : Type 0 where
  pub stands : whole l i ≡ true
  pub tagged : tag ≡ byte l i
  pub ends : end ≡ past l i
  pub inside : end ≤ length l
  pub further : i + 3 ≤ end

pub field-here : (l : List ℕ) (i tag n end : ℕ) → field_at l i ≡ Whole tag n end → Here l i tag end
unfolding viewed whole
field-here l i tag n end h = go (leb (length l) i) (ltb (length l) (i + 3)) (ltb (length l) (past l i)) refl refl h
  where
    go : (a b c : Bool) → ltb (length l) (i + 3) ≡ b → ltb (length l) (past l i) ≡ c
        → field_of (cond a ended (cond b overruns (cond c overruns (field (byte l i) (word l (i + 1)) (past l i))))) ≡ Whole tag n end → Here l i tag end
    go true b c p q h = let z : ◌≡◌ {A = ℕ} 0 1 = cc in absurd (omega arith)
    go false true c p q h = let z : ◌≡◌ {A = ℕ} 0 1 = cc in absurd (omega arith)
    go false false true p q h = let z : ◌≡◌ {A = ℕ} 0 1 = cc in absurd (omega arith)
    go false false false p q h =
        let x : past l i ≡ end = cc h in
        let y : byte l i ≡ tag = cc h in
        let m = ltb-false (length l) (past l i) q in
        record { stands = rw (p, le-leb _ _ m); tagged = sym y; ends = sym x; inside = omega arith; further = omega arith }

-- no whole field
pub field-gone : (l : List ℕ) (i : ℕ) → ((tag n end : ℕ) → field_at l i ≡ Whole tag n end → ⊥) → whole l i ≡ false
unfolding viewed whole
field-gone l i h = go (leb (length l) i) (ltb (length l) (i + 3)) (ltb (length l) (past l i)) refl refl refl h
  where
    go : (a b c : Bool) → leb (length l) i ≡ a → ltb (length l) (i + 3) ≡ b → ltb (length l) (past l i) ≡ c
        → ((tag n end : ℕ) → field_of (cond a ended (cond b overruns (cond c overruns (field (byte l i) (word l (i + 1)) (past l i))))) ≡ Whole tag n end → ⊥) → cond b false (leb (past l i) (length l)) ≡ false
    go a true c o p q h = refl
    go true false c o p q h = let x = leb-true (length l) i o in let y = ltb-false (length l) (i + 3) p in absurd (omega arith)
    go false false true o p q h = lt-leb (past l i) (length l) (ltb-true (length l) (past l i) q)
    go false false false o p q h = absurd (h (byte l i) (word l (i + 1)) (past l i) refl)

-- ---- the turns of a walk

-- a walk over l that has come to i has turns enough to the end, and what it says of its turns is so
pub record Walked (l : List ℕ) (i : ℕ) (Says : ℕ → Type 0) : Type 0 where
  pub inside : i ≤ length l
  pub turns : ℕ
  pub enough : length l ≤ i + turns
  pub same : Says (suc turns)

pub walked_start : (l : List ℕ) (Says : ℕ → Type 0) → Says (suc (length l)) → Walked l 0 Says
walked_start l Says h = record { inside = omega arith; turns = length l; enough = omega arith; same = h }

-- one turn to a place further on
pub walked_next : {l : List ℕ} {i : ℕ} {Says : ℕ → Type 0} (Then : ℕ → Type 0) → Walked l i Says → (j : ℕ) → i < j → j ≤ length l → ((n : ℕ) → Says (suc n) → Then n) → Walked l j Then
walked_next {l} {i} Then h j a b f = go h.turns h.enough (f h.turns h.same)
  where
    go : (n : ℕ) → length l ≤ i + n → Then n → Walked l j Then
    go zero e t = absurd (omega arith)
    go (suc n) e t = record { inside = b; turns = n; enough = omega arith; same = t }
