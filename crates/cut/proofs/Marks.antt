-- The test of all bytes at once is the test of one byte after another. A byte's seven low bits and 127 carry into its high bit unless they
-- are all 0, no carry leaves the byte, and so one more byte on both sides is one more turn. Assumes nothing.
use mathlib.Core.Path.{◌≡◌, refl, ap, sym, ◌∙◌}
use mathlib.Core.Bool.{Bool, true, false, cond, ◌&&◌, and-eq-true_iff}
use Prim.Native.Nat.{ℕ, zero, suc, ◌+◌, ◌*◌, ◌/◌, ◌%◌, ◌^◌, ◌<◌}
use native.Mathlib.Nat.{pow-succ'}
use native.Mathlib.Omega.{arith}
use borrow.Author.Tests.{eq-eqb, ne_eqb, eqb-true, eqb-false}
use lib.Bits.{bit_and, bit_or, and_le_r, and_block, or_block, or_lt, and_zero_r}
use lib.Dec.{eqb}
use Rattle.cut.specs.Cut.{full_of}

-- the byte b, n times
abbrev pub bytes_of : ℕ → ℕ → ℕ
bytes_of zero b = 0
bytes_of (suc n) b = bytes_of n b * 256 + b

-- the high bits that are set where a byte is above 0
abbrev pub marks : ℕ → ℕ → ℕ → ℕ
marks low high v = bit_and (bit_or (bit_and v low + low) v) high

-- the test passes at each number below n
abbrev all_below : ℕ → (ℕ → Bool) → Bool
all_below zero test = true
all_below (suc n) test = test n && all_below n test

below-passes : (n : ℕ) (test : ℕ → Bool) → all_below n test ≡ true → (b : ℕ) → b < n → test b ≡ true
below-passes zero test h b l = absurd (omega arith)
below-passes (suc n) test h b l = go (below-passes n test ((and-eq-true_iff (test n) (all_below n test)).0 h).1 b) (eqb b n) refl
  where
    go : (b < n → test b ≡ true) → (t : Bool) → eqb b n ≡ t → test b ≡ true
    go less true e = ap test (eqb-true b n e) ∙ ((and-eq-true_iff (test n) (all_below n test)).0 h).0
    go less false e = less (omega (arith, eqb-false b n e))

-- one byte, by computing
byte-marks : (b : ℕ) → b < 256 → marks 127 128 b ≡ cond (eqb b 0) 0 128
byte-marks b h = eqb-true _ _ (below-passes 256 (λ k. eqb (marks 127 128 k) (cond (eqb k 0) 0 128)) refl b h)

marks-more : (n v b : ℕ) → b < 256 → marks (bytes_of (suc n) 127) (bytes_of (suc n) 128) (v * 256 + b) ≡ marks (bytes_of n 127) (bytes_of n 128) v * 256 + cond (eqb b 0) 0 128
marks-more n v b h =
    let low : ℕ = bytes_of n 127 in
    let a : ℕ = bit_and b 127 + 127 in
    let ah : a < 256 = omega (arith, and_le_r b 127) in
    let sum : bit_and v low * 256 + bit_and b 127 + (low * 256 + 127) ≡ (bit_and v low + low) * 256 + a = omega arith in
    ap (λ (k : ℕ). bit_and (bit_or (k + (low * 256 + 127)) (v * 256 + b)) (bytes_of n 128 * 256 + 128)) (and_block 8 v low b 127 h (omega arith))
    ∙ ap (λ (k : ℕ). bit_and (bit_or k (v * 256 + b)) (bytes_of n 128 * 256 + 128)) sum
    ∙ ap (λ (k : ℕ). bit_and k (bytes_of n 128 * 256 + 128)) (or_block 8 (bit_and v low + low) v a b ah h)
    ∙ and_block 8 (bit_or (bit_and v low + low) v) (bytes_of n 128) (bit_or a b) 128 (or_lt 8 a b ah h) (omega arith)
    ∙ ap (λ (k : ℕ). marks low (bytes_of n 128) v * 256 + k) (byte-marks b h)

eqb-more : (t : Bool) (a b : ℕ) → eqb (a * 256 + cond t 0 128) (b * 256 + 128) ≡ cond t false (eqb a b)
eqb-more true a b = ne_eqb _ _ (λ (e : a * 256 + 0 ≡ b * 256 + 128). omega arith)
eqb-more false a b = go (eqb a b) refl
  where
    go : (t : Bool) → eqb a b ≡ t → eqb (a * 256 + 128) (b * 256 + 128) ≡ t
    go true e = eq-eqb _ _ (ap (λ (k : ℕ). k * 256 + 128) (eqb-true a b e))
    go false e = ne_eqb _ _ (λ (h : a * 256 + 128 ≡ b * 256 + 128). eqb-false a b e (omega arith))

pub full-marks : (n v : ℕ) → v < 256 ^ n → eqb (marks (bytes_of n 127) (bytes_of n 128) v) (bytes_of n 128) ≡ full_of n v
unfolding full_of
full-marks zero v h = eq-eqb _ _ (and_zero_r (bit_or (bit_and v 0 + 0) v))
full-marks (suc n) v h =
    let e : v / 256 * 256 + v % 256 ≡ v = omega arith in
    ap (λ (k : ℕ). eqb (marks (bytes_of (suc n) 127) (bytes_of (suc n) 128) k) (bytes_of (suc n) 128)) (sym e)
    ∙ ap (λ (k : ℕ). eqb k (bytes_of (suc n) 128)) (marks-more n (v / 256) (v % 256) (omega arith))
    ∙ eqb-more (eqb (v % 256) 0) (marks (bytes_of n 127) (bytes_of n 128) (v / 256)) (bytes_of n 128)
    ∙ ap (λ (t : Bool). cond (eqb (v % 256) 0) false t) (full-marks n (v / 256) (omega (arith, pow-succ' 256 n)))
