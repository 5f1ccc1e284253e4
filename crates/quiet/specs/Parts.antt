-- Parts of a packed cover, and the outside pieces of a cut: each is a part of the piece, shares no choice with what the piece met, and has no empty set.
-- The outside pieces are gone through byte by byte, train by train. Assumes nothing.
use Rattle.std.specs.Prelude.{◌≡◌, refl, Bool, true, false, not, cond, map, ℕ, zero, suc, ◌+◌, ◌-◌, ◌*◌, ◌/◌, ◌%◌, ◌^◌, min, max, ◌≤◌, ◌<◌, eqb}
use Rattle.std.proofs.Common.{ap, ap₂, sym, ◌∙◌, arith, eq-eqb, eqb-true}
use Rattle.std.proofs.lemmas.Bool.{false≢true, not-true}
use Rattle.std.proofs.Math.Nat.{pow-succ'}
use Rattle.std.specs.Int.Bits.{bit_and, bit_or, and_step, or_step, and_self, and_zero_l, and_shr}
use Rattle.std.proofs.lemmas.Nat.{or_comm, and_comm, and_le_l, and_le_r, and_mod, and_block}
use Rattle.std.proofs.Math.Pow.{high, low}
use Rattle.rules.specs.Lists.{one}
use Rattle.theory_lists.specs.Every.{Every, every_append, every_map, every_one}
use Rattle.cut.specs.Cut.{full_of, outs}
use Rattle.cut.specs.Outside.{outside_by, outs-whole}

-- ---- bits in common

half_and : (a b : ℕ) → bit_and a b / 2 ≡ bit_and (a / 2) (b / 2)
half_and a b = omega (arith, and_step a b)

low_and : (a b : ℕ) → bit_and a b % 2 ≡ min (a % 2) (b % 2)
low_and a b = omega (arith, and_step a b)

assoc_by : (k a b c : ℕ) → a < 2 ^ k → bit_and (bit_and a b) c ≡ bit_and a (bit_and b c)
assoc_by zero a b c h =
    let z : a ≡ 0 = omega arith in
    rw z (ap (λ (x : ℕ). bit_and x c) (and_zero_l b) ∙ and_zero_l c ∙ sym (and_zero_l (bit_and b c)))
assoc_by (suc k) a b c h =
    and_step (bit_and a b) c
    ∙ ap₂ (λ (x y : ℕ). bit_and x (c / 2) * 2 + min y (c % 2)) (half_and a b) (low_and a b)
    ∙ ap₂ (λ (x y : ℕ). x * 2 + y) (assoc_by k (a / 2) (b / 2) (c / 2) (omega (arith, pow-succ' 2 k))) (omega arith)
    ∙ sym (and_step a (bit_and b c) ∙ ap₂ (λ (x y : ℕ). bit_and (a / 2) x * 2 + min (a % 2) y) (half_and b c) (low_and b c))

below_power : (n : ℕ) → n < 2 ^ n
below_power zero = omega arith
below_power (suc n) = omega (arith, below_power n, pow-succ' 2 n)

and_assoc : (a b c : ℕ) → bit_and (bit_and a b) c ≡ bit_and a (bit_and b c)
and_assoc a b c = assoc_by a a b c (below_power a)

-- what a loses of b is in a, and not in b
lost_bits : (k a b : ℕ) → a < 2 ^ k → (bit_and (a - bit_and a b) a ≡ a - bit_and a b) × (bit_and (a - bit_and a b) b ≡ 0)
lost_bits zero a b h =
    let z : a ≡ 0 = omega arith in
    let y : a - bit_and a b ≡ 0 = omega arith in
    (ap (λ (x : ℕ). bit_and x a) y ∙ and_zero_l a ∙ sym y, ap (λ (x : ℕ). bit_and x b) y ∙ and_zero_l b)
lost_bits (suc k) a b h =
    let ih = lost_bits k (a / 2) (b / 2) (omega (arith, pow-succ' 2 k)) in
    let le : bit_and (a / 2) (b / 2) ≤ a / 2 = and_le_l (a / 2) (b / 2) in
    let d : (a - bit_and a b) / 2 ≡ a / 2 - bit_and (a / 2) (b / 2) = omega (arith, and_step a b, le) in
    let e : (a - bit_and a b) % 2 ≡ a % 2 - min (a % 2) (b % 2) = omega (arith, and_step a b, le) in (
      and_step (a - bit_and a b) a ∙ ap₂ (λ (x y : ℕ). bit_and x (a / 2) * 2 + min y (a % 2)) d e ∙ ap (λ (x : ℕ). x * 2 + min (a % 2 - min (a % 2) (b % 2)) (a % 2)) ih.0 ∙ omega (arith, and_step a b, le),
      and_step (a - bit_and a b) b ∙ ap₂ (λ (x y : ℕ). bit_and x (b / 2) * 2 + min y (b % 2)) d e ∙ ap (λ (x : ℕ). x * 2 + min (a % 2 - min (a % 2) (b % 2)) (b % 2)) ih.1 ∙ omega arith,
    )

-- ---- parts

-- q is a part of p
abbrev pub Sub : ℕ → ℕ → Type 0
Sub q p = bit_and q p ≡ q

pub sub_trans : (q o p : ℕ) → Sub q o → Sub o p → Sub q p
sub_trans q o p h k = ap (λ (x : ℕ). bit_and x p) (sym h) ∙ and_assoc q o p ∙ ap (bit_and q) k ∙ h

pub sub_left : (p m : ℕ) → Sub (bit_and p m) p
sub_left p m = and_comm (bit_and p m) p ∙ sym (and_assoc p p m) ∙ ap (λ (x : ℕ). bit_and x m) (and_self p)

pub sub_right : (p m : ℕ) → Sub (bit_and p m) m
sub_right p m = and_assoc p m m ∙ ap (bit_and p) (and_self m)

sub_or_by : (k a b : ℕ) → a < 2 ^ k → bit_and a (bit_or a b) ≡ a
sub_or_by zero a b h =
    let z : a ≡ 0 = omega arith in
    rw z (and_zero_l (bit_or 0 b))
sub_or_by (suc k) a b h =
    let half : bit_or a b / 2 ≡ bit_or (a / 2) (b / 2) = omega (arith, or_step a b) in
    let low : bit_or a b % 2 ≡ max (a % 2) (b % 2) = omega (arith, or_step a b) in
    and_step a (bit_or a b)
    ∙ ap₂ (λ (x y : ℕ). bit_and (a / 2) x * 2 + min (a % 2) y) half low
    ∙ ap (λ (x : ℕ). x * 2 + min (a % 2) (max (a % 2) (b % 2))) (sub_or_by k (a / 2) (b / 2) (omega (arith, pow-succ' 2 k)))
    ∙ omega arith

pub sub_or_left : (a b : ℕ) → Sub a (bit_or a b)
sub_or_left a b = sub_or_by a a b (below_power a)

pub sub_or_right : (a b : ℕ) → Sub b (bit_or a b)
sub_or_right a b = ap (bit_and b) (or_comm a b) ∙ sub_or_left b a

-- ---- sets that are not empty

full-rest : (n v : ℕ) → full_of (suc n) v ≡ true → (eqb (v % 256) 0 ≡ false) × (full_of n (v / 256) ≡ true)
unfolding full_of
full-rest n v h = go (eqb (v % 256) 0) refl h
  where
    go : (b : Bool) → eqb (v % 256) 0 ≡ b → cond b false (full_of n (v / 256)) ≡ true → (eqb (v % 256) 0 ≡ false) × (full_of n (v / 256) ≡ true)
    go true e k = absurd (false≢true k)
    go false e k = (e, k)

cond-false : (b : Bool) → cond b false false ≡ false
cond-false true = refl
cond-false false = refl

-- what is empty in v is empty in a part of v
empty_and : (n q v : ℕ) → full_of n v ≡ false → full_of n (bit_and q v) ≡ false
unfolding full_of
empty_and zero q v h = h
empty_and (suc n) q v h = rw (and_mod q v 8, and_shr q v 8) (go (eqb (v % 256) 0) refl (empty_and n (q / 256) (v / 256)) h)
  where
    go : (b : Bool) → eqb (v % 256) 0 ≡ b → (full_of n (v / 256) ≡ false → full_of n (bit_and (q / 256) (v / 256)) ≡ false) → cond b false (full_of n (v / 256)) ≡ false
        → cond (eqb (bit_and (q % 256) (v % 256)) 0) false (full_of n (bit_and (q / 256) (v / 256))) ≡ false
    go true e ih l =
        ap (λ (x : Bool). cond x false (full_of n (bit_and (q / 256) (v / 256))))
        (eq-eqb (bit_and (q % 256) (v % 256)) 0 (omega (arith, and_le_r (q % 256) (v % 256), eqb-true (v % 256) 0 e)))
    go false e ih l = ap (λ (x : Bool). cond (eqb (bit_and (q % 256) (v % 256)) 0) false x) (ih l) ∙ cond-false (eqb (bit_and (q % 256) (v % 256)) 0)

-- a part of what shares no choice with m shares none
pub apart-part : (n q p m : ℕ) → Sub q p → full_of n (bit_and p m) ≡ false → full_of n (bit_and q m) ≡ false
apart-part n q p m s h = ap (λ (x : ℕ). full_of n (bit_and x m)) (sym s) ∙ ap (full_of n) (and_assoc q p m) ∙ empty_and n q (bit_and p m) h

-- ---- what an outside piece is

pub record Outside (n p m o : ℕ) : Type 0 where
  pub part : Sub o p
  pub apart : full_of n (bit_and o m) ≡ false
  pub full : full_of n p ≡ true → full_of n (bit_and p m) ≡ true → full_of n o ≡ true

module _ (n p m : ℕ) where
  abbrev a : ℕ
  a = p % 256

  abbrev b : ℕ
  b = bit_and (p % 256) (m % 256)

  small : a < 256
  small = omega arith

  -- put together of its first set d and the others, q
  part_put : (q d : ℕ) → d < 256 → Sub q (p / 256) → Sub d a → Sub (q * 256 + d) p
  part_put q d l s r =
      let split : p / 256 * 256 + a ≡ p = omega arith in
      ap (bit_and (q * 256 + d)) (sym split) ∙ and_block 8 q (p / 256) d a l small ∙ ap₂ (λ (x y : ℕ). x * 256 + y) s r

  apart_put : (q d : ℕ) → d < 256 → cond (eqb (bit_and d (m % 256)) 0) false (full_of n (bit_and q (m / 256))) ≡ false → full_of (suc n) (bit_and (q * 256 + d) m) ≡ false
  unfolding full_of
  apart_put q d l w = rw (and_mod (q * 256 + d) m 8, and_shr (q * 256 + d) m 8, low q 8 l, high q 8 l) w

  full_put : (q d : ℕ) → d < 256 → eqb d 0 ≡ false → full_of n q ≡ true → full_of (suc n) (q * 256 + d) ≡ true
  unfolding full_of
  full_put q d l w f = rw (low q 8 l, high q 8 l, w) f

  first-outside : eqb (a - b) 0 ≡ false → Outside (suc n) p m (p / 256 * 256 + (a - b))
  first-outside t = record {
    part = part_put (p / 256) (a - b) (omega arith) (and_self (p / 256)) (lost_bits 8 a (m % 256) small).0;
    apart = apart_put (p / 256) (a - b) (omega arith) (ap (λ (x : Bool). cond x false (full_of n (bit_and (p / 256) (m / 256)))) (eq-eqb (bit_and (a - b) (m % 256)) 0 (lost_bits 8 a (m % 256) small).1));
    full = λ f g. full_put (p / 256) (a - b) (omega arith) t (full-rest n p f).1;
  }

  later-outside : (q : ℕ) → Outside n (p / 256) (m / 256) q → Outside (suc n) p m (q * 256 + b)
  later-outside q h = record {
    part = part_put q b (omega (arith, and_le_l a (m % 256))) h.part (sub_left a (m % 256));
    apart = apart_put q b (omega (arith, and_le_l a (m % 256))) (ap (λ (x : Bool). cond (eqb (bit_and b (m % 256)) 0) false x) h.apart ∙ cond-false (eqb (bit_and b (m % 256)) 0));
    full = λ f g. full_put q b (omega (arith, and_le_l a (m % 256))) (ap (λ (x : ℕ). eqb x 0) (sym (and_mod p m 8)) ∙ (full-rest n (bit_and p m) g).0) (h.full (full-rest n p f).1 (ap (full_of n) (sym (and_shr p m 8)) ∙ (full-rest n (bit_and p m) g).1));
  }

outside_by_lem : (n p m : ℕ) → Every (Outside n p m) (outside_by n p m)
unfolding outside_by
outside_by_lem zero p m = tt
outside_by_lem (suc n) p m =
    every_append (Outside (suc n) p m) (one (not (eqb (a n p m - b n p m) 0)) (p / 256 * 256 + (a n p m - b n p m))) (map (λ q. q * 256 + b n p m) (outside_by n (p / 256) (m / 256)))
    (every_one (Outside (suc n) p m) (not (eqb (a n p m - b n p m) 0)) (p / 256 * 256 + (a n p m - b n p m)) (λ t. first-outside n p m (not-true (eqb (a n p m - b n p m) 0) t)))
    (every_map (Outside n (p / 256) (m / 256)) (Outside (suc n) p m) (λ q. q * 256 + b n p m) (later-outside n p m) (outside_by n (p / 256) (m / 256)) (outside_by_lem n (p / 256) (m / 256)))

pub outside-pieces : (p m : ℕ) → Every (Outside 8 p m) (outs 8 0 (bit_and p m) (p - bit_and p m))
outside-pieces p m = rw (outs-whole p m) (outside_by_lem 8 p m)
