-- The outside pieces of a packed cover, train by train: what the first train loses, and the pieces of the others with what the first has in common.
-- `outs` comes to the same by going up the bytes: what stands below byte k is kept, and what stands above is still to be gone through. Assumes nothing.
use Rattle.std.specs.Prelude.{◌≡◌, refl, Bool, true, false, not, List, [], ◌∷◌, ◌++◌, map, ℕ, zero, suc, ◌+◌, ◌-◌, ◌*◌, ◌/◌, ◌%◌, ◌^◌, ◌≤◌, ◌<◌, eqb}
use Rattle.std.proofs.Common.{ap, sym, ◌∙◌, pow-suc, mul-suc, mul-le-mul_left, arith, pow-add}
use Rattle.std.proofs.Math.Nat.{pow-succ'}
use Rattle.std.specs.Int.Bits.{bit_and, and_zero_r}
use Rattle.std.proofs.lemmas.Nat.{and_block, and_le_l, and_mask, and_mod, and_shr}
use Rattle.rules.specs.Lists.{one}
use Rattle.cut.specs.Cut.{outside_of, outs}

-- ---- numbers

pub power : (k : ℕ) → 2 ^ (8 * k) ≡ 256 ^ k
power zero = refl
power (suc k) = ap (λ (e : ℕ). 2 ^ e) (mul-suc 8 k) ∙ pow-add 2 (8 * k) 8 ∙ ap (λ (m : ℕ). m * 256) (power k) ∙ sym (pow-suc 256 k)

pub first_of : (r x : ℕ) → x < 256 → (r * 256 + x) % 256 ≡ x
first_of r x h = omega arith

pub rest_of : (r x : ℕ) → x < 256 → (r * 256 + x) / 256 ≡ r
rest_of r x h = omega arith

-- nothing is lost, so there is no outside piece
pub outs-nothing : (n k c : ℕ) → outs n k c 0 ≡ []
unfolding outs
outs-nothing zero k c = refl
outs-nothing (suc n) k c = outs-nothing n (suc k) c

-- ---- train by train

-- of n trains, by the piece p and what it met, m
unfoldable pub outside_by : ℕ → ℕ → ℕ → List ℕ
outside_by zero p m = []
outside_by (suc n) p m =
    one (not (eqb (p % 256 - bit_and (p % 256) (m % 256)) 0)) (p / 256 * 256 + (p % 256 - bit_and (p % 256) (m % 256)))
    ++ map (λ q. q * 256 + bit_and (p % 256) (m % 256)) (outside_by n (p / 256) (m / 256))

-- the numbers of one turn: C and D are what the trains after this one have in common and lose, y and z what this one has
module _ (k pre C D y z : ℕ) (low : pre < 256 ^ k) (small : y < 256) where
  byte-common : bit_and (pre + 256 ^ k * (C * 256 + y)) (255 * 256 ^ k) ≡ y * 256 ^ k
  byte-common =
      let e : pre + 256 ^ k * (C * 256 + y) ≡ (C * 256 + y) * 2 ^ (8 * k) + pre = rw (power k) (omega arith) in
      let m : 255 * 256 ^ k ≡ 255 * 2 ^ (8 * k) + 0 = rw (power k) (omega arith) in
      let l : pre < 2 ^ (8 * k) = rw (power k) low in
      rw (e, m)
      (and_block (8 * k) (C * 256 + y) 255 pre 0 l (omega arith)
      ∙ rw (and_mask (C * 256 + y) 8, first_of C y small, and_zero_r pre, power k) (omega arith))

  outside-piece : outside_of k (pre + 256 ^ k * (C * 256 + y)) (D * 256 + z) ≡ pre + 256 ^ k * ((C + D) * 256 + z)
  unfolding outside_of
  outside-piece = rw byte-common (omega arith)

  next-common : (X : ℕ) → pre + 256 ^ k * (X * 256 + y) ≡ pre + 256 ^ k * y + 256 ^ suc k * X
  next-common X = rw (pow-succ' 256 k) (omega arith)

  next_low : pre + 256 ^ k * y < 256 ^ suc k
  next_low = rw (pow-succ' 256 k) (omega (arith, mul-le-mul_left {m = suc y} {n = 256} (256 ^ k) small, mul-suc (256 ^ k) y))

one_map : (t : Bool) (o : ℕ) (F : ℕ → ℕ) (w : ℕ) (A L : List ℕ) → o ≡ F w → A ≡ map F L → one t o ++ A ≡ map F (one t w ++ L)
one_map true o F w A L e g = rw (e, g)
one_map false o F w A L e g = g

map-after : (F G g : ℕ → ℕ) → ((q : ℕ) → F (g q) ≡ G q) → (L : List ℕ) → map G L ≡ map F (map g L)
map-after F G g h [] = refl
map-after F G g h (q ∷ L) = rw (h q, map-after F G g h L)

outs_by : (n k pre p m : ℕ) → pre < 256 ^ k → outs n k (pre + 256 ^ k * bit_and p m) (p - bit_and p m) ≡ map (λ q. pre + 256 ^ k * q) (outside_by n p m)
unfolding outs outside_by
outs_by zero k pre p m low = refl
outs_by (suc n) k pre p m low =
    let P : ℕ = p / 256 in
    let C : ℕ = bit_and (p / 256) (m / 256) in
    let x : ℕ = p % 256 in
    let y : ℕ = bit_and (p % 256) (m % 256) in
    let yx : y ≤ x = and_le_l (p % 256) (m % 256) in
    let CP : C ≤ P = and_le_l (p / 256) (m / 256) in
    let e : bit_and p m ≡ C * 256 + y = omega (arith, and_shr p m 8, and_mod p m 8) in
    let d : p - bit_and p m ≡ (P - C) * 256 + (x - y) = omega arith in
    let whole : C + (P - C) ≡ P = omega arith in
    rw (d, e, first_of (P - C) (x - y) (omega arith), rest_of (P - C) (x - y) (omega arith))
    (one_map (not (eqb (x - y) 0)) _ (λ q. pre + 256 ^ k * q) (P * 256 + (x - y)) _ (map (λ q. q * 256 + y) (outside_by n (p / 256) (m / 256)))
    (outside-piece k pre C (P - C) y (x - y) low (omega arith) ∙ ap (λ (z : ℕ). pre + 256 ^ k * (z * 256 + (x - y))) whole)
    (ap (λ (z : ℕ). outs n (suc k) z (P - C)) (next-common k pre C (P - C) y (x - y) low (omega arith) C)
    ∙ outs_by n (suc k) (pre + 256 ^ k * y) (p / 256) (m / 256) (next_low k pre C (P - C) y (x - y) low (omega arith))
    ∙ map-after (λ q. pre + 256 ^ k * q) (λ q. pre + 256 ^ k * y + 256 ^ suc k * q) (λ q. q * 256 + y)
    (λ q. next-common k pre C (P - C) y (x - y) low (omega arith) q) (outside_by n (p / 256) (m / 256))))

pub outs-whole : (p m : ℕ) → outs 8 0 (bit_and p m) (p - bit_and p m) ≡ outside_by 8 p m
outs-whole p m =
    ap (λ (c : ℕ). outs 8 0 c (p - bit_and p m)) (sym (alone (bit_and p m)))
    ∙ outs_by 8 0 0 p m (omega arith) ∙ map-alone (outside_by 8 p m)
  where
    alone : (x : ℕ) → 0 + 256 ^ 0 * x ≡ x
    alone x = omega arith

    map-alone : (L : List ℕ) → map (λ q. 0 + 256 ^ 0 * q) L ≡ L
    map-alone [] = refl
    map-alone (x ∷ L) = rw (alone x, map-alone L)
