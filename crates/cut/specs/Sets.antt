-- The bits of a set of delays: the common delays are the bits in common, and what a set loses is the difference.
-- Two sets are gone through together, delay by delay: what stands before a delay never matters to those after it. Assumes nothing.
use Rattle.std.specs.Prelude.{◌≡◌, refl, Bool, false, not, List, [], ◌∷◌, ℕ, zero, suc, ◌+◌, ◌-◌, ◌*◌, ◌^◌, ◌≤◌, ◌<◌, eqb}
use Rattle.std.proofs.Common.{ap, sym, ◌∙◌, mul_assoc, add-mul, add-zero, zero-add, pow-suc, arith, eq-eqb, ne_eqb, pow_pos}
use Rattle.std.proofs.Math.Nat.{pow-succ'}
use Rattle.std.specs.Int.Bits.{bit_and}
use Rattle.std.proofs.lemmas.Nat.{and_block, and_comm, and_le_l}
use Rattle.rules.specs.Lists.{keep, sum, has, span, below}
use Rattle.rules.specs.Joint.{common, without, is_empty}
use Rattle.rules.specs.Calls.{set_image}
use Rattle.cut.specs.Packed.{Delays}
use Rattle.cut.specs.Packed.Delays.{none, takes, skips}

-- the delays of s that f picks by whether u has them
abbrev picked_by : (Bool → Bool) → List ℕ → List ℕ → List ℕ
picked_by f s u = keep (λ d. f (has u d)) s

-- a delay before all of u is not in it
has-before : {n k : ℕ} {u : List ℕ} {x : ℕ} → Delays n k u x → (d : ℕ) → d < k → has u d ≡ false
has-before none d h = refl
has-before (takes {k = k} r) d h = simp (ne_eqb d k (λ e. omega arith), has-before r d (omega arith))
has-before (skips r) d h = has-before r d (omega arith)

-- a delay before all of s in u does not matter
picked_after : (f : Bool → Bool) (j : ℕ) (u : List ℕ) {n k : ℕ} {s : List ℕ} {v : ℕ} → Delays n k s v → j < k → picked_by f s (j ∷ u) ≡ picked_by f s u
picked_after f j u none h = refl
picked_after f j u (takes {k = k} r) h = simp (ne_eqb k j (λ e. omega arith), picked_after f j u r (omega arith))
picked_after f j u (skips r) h = picked_after f j u r (omega arith)

-- ---- bits, from the lowest on

and_low : (v x a b : ℕ) → a < 2 → b < 2 → bit_and (v * 2 + a) (x * 2 + b) ≡ bit_and v x * 2 + bit_and a b
and_low v x a b h k = and_block 1 v x a b h k

and_odd_odd : (v x : ℕ) → bit_and (v * 2 + 1) (x * 2 + 1) ≡ bit_and v x * 2 + 1
and_odd_odd v x = and_low v x 1 1 (omega arith) (omega arith)

and_odd_even : (v x : ℕ) → bit_and (v * 2 + 1) (x * 2) ≡ bit_and v x * 2
and_odd_even v x = ap (λ (m : ℕ). bit_and (v * 2 + 1) m) (sym (add-zero (x * 2))) ∙ and_low v x 1 0 (omega arith) (omega arith) ∙ add-zero (bit_and v x * 2)

and_even_odd : (v x : ℕ) → bit_and (v * 2) (x * 2 + 1) ≡ bit_and v x * 2
and_even_odd v x = and_comm (v * 2) (x * 2 + 1) ∙ and_odd_even x v ∙ ap (λ (m : ℕ). m * 2) (and_comm x v)

and_even-even : (v x : ℕ) → bit_and (v * 2) (x * 2) ≡ bit_and v x * 2
and_even-even v x =
    ap (λ (m : ℕ). bit_and m (x * 2)) (sym (add-zero (v * 2))) ∙ ap (λ (m : ℕ). bit_and (v * 2 + 0) m) (sym (add-zero (x * 2)))
    ∙ and_low v x 0 0 (omega arith) (omega arith) ∙ add-zero (bit_and v x * 2)

twice : (v k : ℕ) → v * 2 ^ suc k ≡ v * 2 * 2 ^ k
twice v k = ap (λ (m : ℕ). v * m) (pow-succ' 2 k) ∙ sym (mul_assoc v 2 (2 ^ k))

-- ---- sets

pub common-delays : {n k : ℕ} {s u : List ℕ} {v x : ℕ} → Delays n k s v → Delays n k u x → Delays n k (common s u) (bit_and v x)
unfolding common
common-delays none none = none
common-delays (takes {k = k} {v = v} r) (takes {s = u} {v = x} t) =
    rw (eq-eqb k k refl, picked_after (λ b. b) k u r (omega arith), and_odd_odd v x) (takes (common-delays r t))
common-delays (takes {k = k} {v = v} r) (skips {v = x} t) = rw (has-before t k (omega arith), and_odd_even v x) (skips (common-delays r t))
common-delays (skips {k = k} {v = v} r) (takes {s = u} {v = x} t) = rw (picked_after (λ b. b) k u r (omega arith), and_even_odd v x) (skips (common-delays r t))
common-delays (skips {v = v} r) (skips {v = x} t) = rw (and_even-even v x) (skips (common-delays r t))

pub without-delays : {n k : ℕ} {s u : List ℕ} {v x : ℕ} → Delays n k s v → Delays n k u x → Delays n k (without s u) (v - bit_and v x)
unfolding without
without-delays none none = none
without-delays (takes {k = k} {v = v} r) (takes {s = u} {v = x} t) =
    let e : v * 2 + 1 - (bit_and v x * 2 + 1) ≡ (v - bit_and v x) * 2 = omega arith in
    rw (eq-eqb k k refl, picked_after not k u r (omega arith), and_odd_odd v x, e) (skips (without-delays r t))
without-delays (takes {k = k} {v = v} r) (skips {v = x} t) =
    let e : v * 2 + 1 - bit_and v x * 2 ≡ (v - bit_and v x) * 2 + 1 = omega (arith, and_le_l v x) in
    rw (has-before t k (omega arith), and_odd_even v x, e) (takes (without-delays r t))
without-delays (skips {k = k} {v = v} r) (takes {s = u} {v = x} t) =
    let e : v * 2 - bit_and v x * 2 ≡ (v - bit_and v x) * 2 = omega arith in
    rw (picked_after not k u r (omega arith), and_even_odd v x, e) (skips (without-delays r t))
without-delays (skips {v = v} r) (skips {v = x} t) =
    let e : v * 2 - bit_and v x * 2 ≡ (v - bit_and v x) * 2 = omega arith in
    rw (and_even-even v x, e) (skips (without-delays r t))

-- the bits in common with those in common
common_again : {n k : ℕ} {s u : List ℕ} {v x : ℕ} → Delays n k s v → Delays n k u x → bit_and v (bit_and v x) ≡ bit_and v x
common_again none none = refl
common_again (takes {v = v} r) (takes {v = x} t) = rw (and_odd_odd v x, and_odd_odd v (bit_and v x), common_again r t)
common_again (takes {v = v} r) (skips {v = x} t) = rw (and_odd_even v x, and_odd_even v (bit_and v x), common_again r t)
common_again (skips {v = v} r) (takes {v = x} t) = rw (and_even_odd v x, and_even-even v (bit_and v x), common_again r t)
common_again (skips {v = v} r) (skips {v = x} t) = rw (and_even-even v x, and_even-even v (bit_and v x), common_again r t)

-- what a set loses to its common part
pub lost_delays : {n k : ℕ} {s u : List ℕ} {v x : ℕ} → Delays n k s v → Delays n k u x → Delays n k (without s (common s u)) (v - bit_and v x)
lost_delays {v = v} r t = rw (common_again r t) at (without-delays r (common-delays r t))

-- the image of a set is its bits
image_from : {n k : ℕ} {s : List ℕ} {v : ℕ} → Delays n k s v → set_image s ≡ v * 2 ^ k
unfolding set_image
image_from none = omega arith
image_from (takes {k = k} {v = v} r) = omega (arith, image_from r, twice v k, add-mul (v * 2) 1 (2 ^ k))
image_from (skips {k = k} {v = v} r) = omega (arith, image_from r, twice v k)

pub image_delays : {n : ℕ} {s : List ℕ} {v : ℕ} → Delays n 0 s v → set_image s ≡ v
image_delays r = omega (arith, image_from r)

-- n bits
pub delays-small : {n k : ℕ} {s : List ℕ} {v : ℕ} → Delays n k s v → v < 2 ^ n
delays-small none = omega arith
delays-small (takes {n = n} r) = omega (arith, delays-small r, pow-succ' 2 n)
delays-small (skips {n = n} r) = omega (arith, delays-small r, pow-succ' 2 n)

-- a set is empty where its image is 0
pub image_empty : (s : List ℕ) → eqb (set_image s) 0 ≡ is_empty s
unfolding set_image
image_empty [] = refl
image_empty (d ∷ s) = ne_eqb (2 ^ d + sum (λ k. 2 ^ k) s) 0 (λ (e : 2 ^ d + sum (λ k. 2 ^ k) s ≡ 0). omega (arith, pow_pos d))

-- ---- the sets that occur

span-delays : (n m k : ℕ) → n ≤ m → Delays m k (span n k) (2 ^ n - 1)
span-delays zero zero k h = none
span-delays zero (suc m) k h = skips (span-delays zero m (suc k) (omega arith))
span-delays (suc n) zero k h = absurd (omega arith)
span-delays (suc n) (suc m) k h =
    let e : 2 ^ suc n - 1 ≡ (2 ^ n - 1) * 2 + 1 = omega (arith, pow-succ' 2 n, pow_pos n) in
    rw e (takes (span-delays n m (suc k) (omega arith)))

one-delay : (d n k : ℕ) → d < n → Delays n k ((k + d) ∷ []) (2 ^ d)
one-delay d zero k h = absurd (omega arith)
one-delay zero (suc n) k h = rw (add-zero k) (takes (span-delays 0 n (suc k) (omega arith)))
one-delay (suc d) (suc n) k h =
    let e : k + suc d ≡ suc k + d = omega arith in
    rw (e, pow-suc 2 d) (skips (one-delay d n (suc k) (omega arith)))

-- a whole set of n delays
pub whole-delays : (n : ℕ) → n ≤ 8 → Delays 8 0 (below n) (2 ^ n - 1)
whole-delays n h = span-delays n 8 0 h

-- a set of one delay
pub single-delays : (d : ℕ) → d < 8 → Delays 8 0 (d ∷ []) (2 ^ d)
single-delays d h = rw (zero-add d) at (one-delay d 8 0 h)
