-- The operations of the cutting rule on covers, on packed covers: the common part, whether it has a choice, and the outside pieces.
-- Each goes through the bytes: a byte is a set, or it is a train's that is not there, which has its delay in common and loses nothing. Assumes nothing.
use Rattle.std.specs.Prelude.{◌≡◌, refl, Bool, true, false, not, ◌||◌, cond, List, [], ◌∷◌, ◌++◌, map, ℕ, zero, suc, ◌+◌, ◌-◌, ◌*◌, ◌<◌, length, eqb}
use Rattle.std.proofs.Common.{ap, ap₂, sym, ◌∙◌, arith}
use Rattle.std.specs.Int.Bits.{bit_and, and_self}
use Rattle.std.proofs.lemmas.Nat.{and_block}
use Rattle.rules.specs.Lists.{one, any}
use Rattle.rules.specs.Joint.{Cover, common, without, is_empty, inside, apart, outsides}
use Rattle.rules.specs.Calls.{set_image}
use Rattle.theory_lists.specs.Every.{Every, every_append, every_one, every_map}
use Rattle.cut.specs.Cut.{full_of, outs}
use Rattle.cut.specs.Packed.{packed_in, packed, Delays, Sets, Packable}
use Rattle.cut.specs.Packed.Sets.{none, more}
use Rattle.cut.specs.Sets.{common-delays, lost_delays, image_delays, delays-small, image_empty}
use Rattle.cut.specs.Outside.{first_of, rest_of, outside_by, outs-whole}

-- ---- the common part

pub image_common : {n : ℕ} {s u : List ℕ} {v x : ℕ} → Delays n 0 s v → Delays n 0 u x → set_image (common s u) ≡ bit_and (set_image s) (set_image u)
image_common r t = rw (image_delays (common-delays r t), image_delays r, image_delays t)

image_small : {s : List ℕ} {v : ℕ} → Delays 8 0 s v → set_image s < 256
image_small r = omega (arith, image_delays r, delays-small r)

pub inside-packed : {b n : ℕ} {p q : Cover} → Sets b n p → Sets b n q → bit_and (packed_in b p) (packed_in b q) ≡ packed_in b (inside p q)
unfolding packed_in inside
inside-packed {b} none none = and_self (packed_in b [])
inside-packed (more {b} {s = s} {p = p} r f) (more {s = u} {p = q} t g) =
    and_block 8 (packed_in b p) (packed_in b q) (set_image s) (set_image u) (image_small r) (image_small t)
    ∙ rw (inside-packed f g, image_common r t)

pub inside-sets : {b n : ℕ} {p q : Cover} → Sets b n p → Sets b n q → Sets b n (inside p q)
unfolding inside
inside-sets none none = none
inside-sets (more r f) (more t g) = more (common-delays r t) (inside-sets f g)

-- ---- no common choice

pub full-packed : {b n : ℕ} {p : Cover} → Sets b n p → full_of b (packed_in b p) ≡ not (apart p)
unfolding full_of packed_in apart
full-packed {b} none = go b
  where
    go : (b : ℕ) → full_of b (packed_in b []) ≡ true
    go zero = refl
    go (suc b) = simp (first_of (packed_in b []) 1 (omega arith), rest_of (packed_in b []) 1 (omega arith), go b)
full-packed (more {b} {s = s} {p = p} r f) =
    rw (first_of (packed_in b p) (set_image s) (image_small r), rest_of (packed_in b p) (set_image s) (image_small r), image_empty s, full-packed f)
    (case-of (is_empty s))
  where
    case-of : (t : Bool) → cond t false (not (any is_empty p)) ≡ not (t || any is_empty p)
    case-of true = refl
    case-of false = refl

-- ---- the outside pieces

image_lost : {s u : List ℕ} {v x : ℕ} → Delays 8 0 s v → Delays 8 0 u x → set_image (without s (common s u)) ≡ set_image s - set_image (common s u)
image_lost r t = rw (image_delays (lost_delays r t), image_delays r, image_delays (common-delays r t))

-- a train that is not there loses nothing
outside-none : (b : ℕ) → outside_by b (packed_in b []) (packed_in b []) ≡ []
unfolding outside_by packed_in
outside-none zero = refl
outside-none (suc b) = rw (first_of (packed_in b []) 1 (omega arith), rest_of (packed_in b []) 1 (omega arith), outside-none b)

-- the pieces of the others, with the first train's common set
others-packed : (b : ℕ) (s : List ℕ) (L : List Cover) → map (λ q. q * 256 + set_image s) (map (packed_in b) L) ≡ map (packed_in (suc b)) (map (λ q. s ∷ q) L)
unfolding packed_in
others-packed b s [] = refl
others-packed b s (q ∷ L) = ap (λ (l : List ℕ). (packed_in b q * 256 + set_image s) ∷ l) (others-packed b s L)

-- with the first train's own piece, if it loses something
pieces-packed : (b x : ℕ) (lost s : List ℕ) (p : Cover) (empty : Bool) → set_image lost ≡ x → (L : List Cover)
    → one (not empty) (packed_in b p * 256 + x) ++ map (λ q. q * 256 + set_image s) (map (packed_in b) L) ≡ map (packed_in (suc b)) (one (not empty) (lost ∷ p) ++ map (λ q. s ∷ q) L)
unfolding packed_in
pieces-packed b x lost s p true e L = others-packed b s L
pieces-packed b x lost s p false e L = ap₂ (λ (z : ℕ) (l : List ℕ). (packed_in b p * 256 + z) ∷ l) (sym e) (others-packed b s L)

outside-packed : {b n : ℕ} {p q : Cover} → Sets b n p → Sets b n q → outside_by b (packed_in b p) (packed_in b q) ≡ map (packed_in b) (outsides p (inside p q))
unfolding outside_by packed_in inside outsides
outside-packed {b} none none = outside-none b
outside-packed (more {b} {s = s} {p = p} r f) (more {s = u} {p = q} t g) =
    let common-is = image_common r t in
    let lost-is = image_lost r t in
    let empty : eqb (set_image s - set_image (common s u)) 0 ≡ is_empty (without s (common s u)) = ap (λ (m : ℕ). eqb m 0) (sym lost-is) ∙ image_empty (without s (common s u)) in
    rw (first_of (packed_in b p) (set_image s) (image_small r), rest_of (packed_in b p) (set_image s) (image_small r), first_of (packed_in b q) (set_image u) (image_small t), rest_of (packed_in b q) (set_image u) (image_small t), ← common-is, empty, outside-packed f g)
    (pieces-packed b (set_image s - set_image (common s u)) (without s (common s u)) (common s u) p (is_empty (without s (common s u))) lost-is (outsides p (inside p q)))

pub outs_are : {n : ℕ} {p q : Cover} → Packable n p → Packable n q → outs 8 0 (packed (inside p q)) (packed p - packed (inside p q)) ≡ map packed (outsides p (inside p q))
outs_are {p = p} {q = q} f g =
    ap (λ (c : ℕ). outs 8 0 c (packed p - c)) (sym (inside-packed f g)) ∙ outs-whole (packed p) (packed q) ∙ outside-packed f g

-- ---- outside pieces are covers of the same trains

pub outsides-sets : {b n : ℕ} {p q : Cover} → Sets b n p → Sets b n q → Every (Sets b n) (outsides p (inside p q))
unfolding outsides inside
outsides-sets none none = tt
outsides-sets {b} {n} (more {s = s} {p = p} r f) (more {s = u} {p = q} t g) =
    every_append (Sets b n) (one (not (is_empty (without s (common s u)))) (without s (common s u) ∷ p)) (map (λ w. common s u ∷ w) (outsides p (inside p q)))
    (every_one (Sets b n) (not (is_empty (without s (common s u)))) (without s (common s u) ∷ p) (λ e. more (lost_delays r t) f))
    (every_map (Sets _ _) (Sets b n) (λ w. common s u ∷ w) (λ w h. more (common-delays r t) h) (outsides p (inside p q)) (outsides-sets f g))

-- a packable cover has a set for each of n trains, and a byte holds each
pub sets_fit : {b n : ℕ} {p : Cover} → Sets b n p → (length p ≡ n) × Every (λ s. set_image s < 256) p
sets_fit none = (refl, tt)
sets_fit (more r f) = (ap suc (sets_fit f).0, (image_small r, (sets_fit f).1))
