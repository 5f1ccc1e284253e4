-- Laws of the first list as code writes it: byte by byte, delay by delay, train by train. Each turn of a loop adds one. Assumes nothing.
use Rattle.std.specs.Prelude.{◌≡◌, refl, List, [], ◌∷◌, ◌++◌, map, ℕ, suc, ◌+◌, ◌*◌, ◌%◌, ◌^◌, ◌≤◌, ◌<◌, get_or}
use Rattle.std.proofs.Common.{ap, ◌∙◌, mod-eq_of_lt, one-mul, arith}
use Rattle.std.proofs.Math.Nat.{pow-succ', pow-le-pow_right}
use Rattle.rules.specs.Lists.{each, below}
use Rattle.theory_lists.specs.Each.{map-append}
use Rattle.theory_lists.specs.Below.{below_more, each-below-more}
use Rattle.rows.specs.Rows.{Row, words}
use Rattle.rows.specs.Written.{words_append}
use Rattle.opening.specs.First.{first_byte, first_bytes, first_row}

-- ---- bytes

-- a power of two that a byte holds
pub power_small : (d : ℕ) → d ≤ 8 → 2 ^ d ≤ 256
power_small d h = omega (arith, pow-le-pow_right {n = 2} (omega arith) {i = d} {j = 8} h)

pub power_byte : (d : ℕ) → d < 8 → 2 ^ d < 256
power_byte d h = omega (arith, pow-le-pow_right {n = 2} (omega arith) {i = d} {j = 7} (omega arith))

pub shift_one : (d : ℕ) → d ≤ 8 → 1 * 2 ^ d % 2 ^ 64 ≡ 2 ^ d
shift_one d h = ap (λ (z : ℕ). z % 2 ^ 64) (one-mul (2 ^ d)) ∙ mod-eq_of_lt (omega (arith, power_small d h))

pub bytes-none : (T : List ℕ) (k d j : ℕ) → first_bytes T k d 0 j ≡ 0
unfolding first_bytes
bytes-none T k d j = refl

pub bytes-more : (T : List ℕ) (k d n j : ℕ) → first_bytes T k d (n + 1) j ≡ first_bytes T k d n (j + 1) * 256 + first_byte T k d j
unfolding first_bytes
bytes-more T k d n j =
    let a : n + 1 ≡ suc n = omega arith in
    let b : suc j ≡ j + 1 = omega arith in
    ap (λ (z : ℕ). first_bytes T k d z j) a ∙ ap (λ (z : ℕ). first_bytes T k d n z * 256 + first_byte T k d j) b

-- one byte more
pub byte_fits : (n c b : ℕ) → n < 8 → c < 256 ^ n → b < 256 → (c * 256 + b < 256 ^ (n + 1)) × (c * 256 + b < 2 ^ 64)
byte_fits n c b h l k =
    let e : 256 ^ (n + 1) ≡ 256 * 256 ^ n = ap (λ (z : ℕ). 256 ^ z) (omega arith) ∙ pow-succ' 256 n in
    (omega arith, omega (arith, e, pow-le-pow_right {n = 256} (omega arith) {i = n + 1} {j = 8} (omega arith)))

-- ---- trains

pub train-none : (T : List ℕ) (k : ℕ) → words (map (first_row T k) (below 0)) ≡ []
unfolding words
train-none T k = refl

pub train-more : (T : List ℕ) (k d : ℕ) → words (map (first_row T k) (below (d + 1))) ≡ words (map (first_row T k) (below d)) ++ words (first_row T k d ∷ [])
train-more T k d =
    ap (λ (l : List ℕ). words (map (first_row T k) l)) (below_more d)
    ∙ ap words (map-append (first_row T k) (below d) (d ∷ []))
    ∙ words_append (map (first_row T k) (below d)) (first_row T k d ∷ [])

-- the first rows of the first n trains
abbrev pub first_trains : List ℕ → ℕ → List Row
first_trains T n = each (λ k. map (first_row T k) (below (get_or T (40 + k) 0))) (below n)

pub trains-none : (T : List ℕ) → words (first_trains T 0) ≡ []
unfolding words
trains-none T = refl

pub trains-more : (T : List ℕ) (n : ℕ) → words (first_trains T (n + 1)) ≡ words (first_trains T n) ++ words (map (first_row T n) (below (get_or T (40 + n) 0)))
trains-more T n =
    ap words (each-below-more (λ k. map (first_row T k) (below (get_or T (40 + k) 0))) n) ∙ words_append (first_trains T n) (map (first_row T n) (below (get_or T (40 + n) 0)))
