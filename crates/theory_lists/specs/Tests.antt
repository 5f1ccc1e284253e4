-- Laws of tests: what `&&` and `||` tell of their two sides. Each is a case distinction. Assumes nothing.
use Rattle.std.specs.Prelude.{◌≡◌, refl, Bool, true, false, ◌&&◌, ◌||◌, ℕ, zero, suc, ◌≤◌, eqb}
use Rattle.std.proofs.Common.{sym, ap, ◌∙◌, arith, eqb-true, eq-eqb, ne_eqb}
use Rattle.std.proofs.Math.Bool.{or-true, or-false}
use Rattle.std.proofs.lemmas.Bool.{false≢true, eqb-false}

pub eqb-turn : (a b : ℕ) → eqb a b ≡ eqb b a
eqb-turn a b = go (eqb a b) refl
  where
    go : (t : Bool) → eqb a b ≡ t → t ≡ eqb b a
    go true h = sym (eq-eqb b a (sym (eqb-true a b h)))
    go false h = sym (ne_eqb b a (λ e. eqb-false a b h (sym e)))

pub eqb-zero-false : (n : ℕ) → eqb n 0 ≡ false → 1 ≤ n
eqb-zero-false zero h = absurd (eqb-false 0 0 h refl)
eqb-zero-false (suc n) h = omega arith

pub and_true-first : (a b : Bool) → (a && b) ≡ true → a ≡ true
and_true-first true b h = refl
and_true-first false b h = h

pub and_true-second : (a b : Bool) → (a && b) ≡ true → b ≡ true
and_true-second true b h = h
and_true-second false b h = absurd (false≢true h)

pub or_false-first : (a b : Bool) → (a || b) ≡ false → a ≡ false
or_false-first true b h = h
or_false-first false b h = refl

pub or_false-second : (a b : Bool) → (a || b) ≡ false → b ≡ false
or_false-second true b h = absurd (false≢true (sym h))
or_false-second false b h = h

pub or_three_false : (a b c : Bool) → (a || b || c) ≡ false → (a ≡ false) × (b ≡ false) × (c ≡ false)
or_three_false a b c h =
    let front = or_false-first (a || b) c h in
    (or_false-first a b front, or_false-second a b front, or_false-second (a || b) c h)

pub or_true-second : (a b : Bool) → b ≡ true → (a || b) ≡ true
or_true-second a b h = ap (λ (c : Bool). a || c) h ∙ or-true a

-- a test that brings another with it adds nothing to it
pub or_brings : (a b : Bool) → (a ≡ true → b ≡ true) → (b || a) ≡ b
or_brings true b h = ap (λ (c : Bool). c || true) (h refl) ∙ sym (h refl)
or_brings false b h = or-false b

pub or_middle : (a b c : Bool) → (b ≡ true → c ≡ true) → ((a || b) || c) ≡ (a || c)
or_middle a true c h = ap (λ (d : Bool). d || c) (or-true a) ∙ sym (ap (λ (d : Bool). a || d) (h refl) ∙ or-true a)
or_middle a false c h = ap (λ (d : Bool). d || c) (or-false a)
