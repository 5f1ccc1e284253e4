-- Laws of the weights as code sums them: a set's weight delay by delay, a cover's train by train, and the covers' one after another.
-- Each turn of a loop takes the first delay, train or cover off what is still to be summed. Assumes nothing.
use Rattle.std.specs.Prelude.{◌≡◌, ℕ, zero, suc, ◌+◌, ◌-◌, ◌*◌, ◌/◌, ◌%◌, ◌^◌, ◌<◌, ◌≤◌, Bool, cond, List, [], ◌∷◌, length, take, ◌≢◌, slice_index, refl}
use Rattle.std.proofs.Common.{ap, ap₂, sym, ◌∙◌, mul_assoc, zero-add, mul-le-mul, arith, eq-eqb, ne_eqb}
use Rattle.std.proofs.Math.Nat.{pow-succ', pow-le-pow_right}
use Rattle.rules.specs.Lists.{sum}
use Rattle.theory_lists.specs.Sums.{sum-append}
use Rattle.theory_lists.specs.Writes.{take_more}
use Rattle.weigh.specs.Weigh.{set_weight, cover_weight, weight_of, brought_of, Small}

-- ---- a set

pub set-none : (T : List ℕ) (i x : ℕ) → set_weight T i 0 x ≡ 0
unfolding set_weight
set-none T i x = refl

pub set-taken : (T : List ℕ) (i n x : ℕ) → 0 < n → x % 2 ≡ 1 → set_weight T i n x ≡ slice_index T i + set_weight T (i + 1) (n - 1) (x / 2)
unfolding set_weight
set-taken T i zero x h e = absurd (omega arith)
set-taken T i (suc n) x h e =
    let a : suc i ≡ i + 1 = omega arith in
    let b : n ≡ suc n - 1 = omega arith in
    ap (λ (z : Bool). cond z (slice_index T i) 0 + set_weight T (suc i) n (x / 2)) (eq-eqb (x % 2) 1 e)
    ∙ ap₂ (λ (y z : ℕ). slice_index T i + set_weight T y z (x / 2)) a b

pub set-left : (T : List ℕ) (i n x : ℕ) → 0 < n → (x % 2 ≢ 1) → set_weight T i n x ≡ set_weight T (i + 1) (n - 1) (x / 2)
unfolding set_weight
set-left T i zero x h e = absurd (omega arith)
set-left T i (suc n) x h e =
    let a : suc i ≡ i + 1 = omega arith in
    let b : n ≡ suc n - 1 = omega arith in
    ap (λ (z : Bool). cond z (slice_index T i) 0 + set_weight T (suc i) n (x / 2)) (ne_eqb (x % 2) 1 e)
    ∙ zero-add (set_weight T (suc i) n (x / 2))
    ∙ ap₂ (λ (y z : ℕ). set_weight T y z (x / 2)) a b

-- a set of a train weighs at most 100
pub set_bound : (T : List ℕ) (j x : ℕ) {w : ℕ} → Small T → j < 8 → w ≡ set_weight T (112 + j * 8) 8 x → w ≤ 100
set_bound T j x small h e = omega (arith, e, small.weights j x h)

-- ---- a cover

pub cover-none : (T : List ℕ) (j c : ℕ) → cover_weight T j 0 c ≡ 1
unfolding cover_weight
cover-none T j c = refl

pub cover-more : (T : List ℕ) (j n p c : ℕ) → 0 < n
    → p * cover_weight T j n c ≡ p * set_weight T (112 + j * 8) 8 (c % 256) * cover_weight T (j + 1) (n - 1) (c / 256)
unfolding cover_weight
cover-more T j zero p c h = absurd (omega arith)
cover-more T j (suc n) p c h =
    let a : suc j ≡ j + 1 = omega arith in
    let b : n ≡ suc n - 1 = omega arith in
    sym (mul_assoc p (set_weight T (112 + j * 8) 8 (c % 256)) (cover_weight T (suc j) n (c / 256)))
    ∙ ap₂ (λ (y z : ℕ). p * set_weight T (112 + j * 8) 8 (c % 256) * cover_weight T y z (c / 256)) a b

-- a product of j numbers up to 100, with one more
pub product-more : (j p w : ℕ) → p ≤ 100 ^ j → w ≤ 100 → p * w ≤ 100 ^ (j + 1)
product-more j p w h k =
    let e : 100 ^ (j + 1) ≡ 100 * 100 ^ j = ap (λ (z : ℕ). 100 ^ z) (omega arith) ∙ pow-succ' 100 j in
    omega (arith, mul-le-mul h k, e)

pub product-fits : (j p : ℕ) → j ≤ 8 → p ≤ 100 ^ j → p < 2 ^ 64
product-fits j p h k = omega (arith, pow-le-pow_right {n = 100} (omega arith) {i = j} {j = 8} h)

-- ---- covers

pub brought-none : (T : List ℕ) → brought_of T [] ≡ 0
unfolding brought_of
brought-none T = refl

pub brought-more : (T : List ℕ) (i : ℕ) (l : List ℕ) → i < length l → brought_of T (take (i + 1) l) ≡ (brought_of T (take i l) + weight_of T (slice_index l i)) % 2 ^ 64
unfolding brought_of
brought-more T i l h =
    ap (λ (z : List ℕ). sum (weight_of T) z % 2 ^ 64) (take_more i l h)
    ∙ ap (λ (z : ℕ). z % 2 ^ 64) (sum-append (weight_of T) (take i l) (slice_index l i ∷ []))
    ∙ omega arith
