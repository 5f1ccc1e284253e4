-- The choices of a cover and their weights: a cover's weight is a product, train by train, and a sum over all choices; all choices weigh 100^n.
-- A sum over the choices of a cover, one delay and then the rest, is the product of two sums; every law here is that, train by train.
-- Assumes nothing.
use Rattle.std.specs.Prelude.{◌≡◌, refl, Bool, true, false, ◌&&◌, List, [], ◌∷◌, map, ℕ, suc, ◌+◌, ◌*◌, ◌^◌, ◌≤◌, ◌<◌, length, get_or, eqb}
use Rattle.std.proofs.Common.{sym, ap, ap₂, ◌∙◌, mul_comm, zero-mul, arith, eqb-true}
use Rattle.std.proofs.lemmas.Bool.{false≢true}
use Rattle.std.proofs.Math.Nat.{pow-succ'}
use Rattle.rules.specs.Lists.{each, tick, sum, count, below, has}
use Rattle.rules.specs.Files.{Case, Pair}
use Rattle.rules.specs.Single.{pair_at}
use Rattle.rules.specs.Joint.{Cover, covers, choices_in, choices, whole, weight_from, weight_of, weight, total}
use Rattle.theory_sound.specs.Facts.{Sound}
use Rattle.theory_lists.specs.Sums.{tick_and, sum_same, sum-times, sum-zero, sum-map, sum-each, sum-keep, count-any}
use Rattle.theory_lists.specs.Below.{sum-places, below-once, every_has}
use Rattle.theory_lists.specs.Every.{Every, every_map, every_each, every_all}
use Rattle.theory_simulation.specs.Parts.{Part, Parts}

-- the product, from train k on, of the sums of the weights of each set's delays
abbrev pub product : Case → ℕ → Cover → ℕ
product C k [] = 1
product C k (s ∷ p) = sum (λ d. (pair_at C k d).weight) s * product C (suc k) p

-- a sum over one delay and then the rest is a product
sum-choices : (f h : List ℕ → ℕ) (g : ℕ → ℕ) → ((d : ℕ) (x : List ℕ) → f (d ∷ x) ≡ g d * h x) → (s : List ℕ) (xs : List (List ℕ))
    → sum f (each (λ d. map (λ x. d ∷ x) xs) s) ≡ sum g s * sum h xs
sum-choices f h g e s xs =
    sum-each f (λ d. map (λ x. d ∷ x) xs) s
    ∙ sum_same (λ d. sum f (map (λ x. d ∷ x) xs)) (λ d. sum h xs * g d) first s
    ∙ sum-times (sum h xs) g s
    ∙ mul_comm (sum h xs) (sum g s)
  where
    first : (d : ℕ) → sum f (map (λ x. d ∷ x) xs) ≡ sum h xs * g d
    first d =
        sum-map f (λ x. d ∷ x) xs ∙ sum_same (λ x. f (d ∷ x)) (λ x. g d * h x) (e d) xs ∙ sum-times (g d) h xs ∙ mul_comm (g d) (sum h xs)

-- ---- the weight of a cover

weight-from : (C : Case) (k : ℕ) (p : Cover) → sum (weight_from C k) (choices_in p) ≡ product C k p
unfolding choices_in
weight-from C k [] = refl
weight-from C k (s ∷ p) =
    sum-choices (weight_from C k) (weight_from C (suc k)) (λ d. (pair_at C k d).weight) (λ d x. refl) s (choices_in p)
    ∙ ap (λ (z : ℕ). sum (λ d. (pair_at C k d).weight) s * z) (weight-from C (suc k) p)

-- a cover's weight is the product, train by train, of the sums of the weights of its sets' delays
pub weight-product : (C : Case) (p : Cover) → weight C p ≡ product C 0 p
unfolding weight weight_of
weight-product C p = weight-from C 0 p

-- a sum over a part is a sum over the set, of the delays that the part has
sum-part : (f : ℕ → ℕ) (w s : List ℕ) → Part w s → sum f s ≡ sum (λ d. tick (has s d) * f d) w
sum-part f w s p = ap (sum f) (sym p.listed) ∙ sum-keep f (has s) w

product-covers : (C : Case) (k : ℕ) (w p : Cover) → Parts w p
    → product C k p ≡ sum (λ x. tick (covers p x) * weight_from C k x) (choices_in w)
unfolding choices_in covers
product-covers C k [] [] h = refl
product-covers C k [] (s ∷ p) h = absurd h
product-covers C k (u ∷ w) [] h = absurd h
product-covers C k (u ∷ w) (s ∷ p) h =
    ap₂ ◌*◌ (sum-part (λ i. (pair_at C k i).weight) u s h.0) (product-covers C (suc k) w p h.1)
    ∙ sym
    (sum-choices (λ x. tick (covers (s ∷ p) x) * weight_from C k x) (λ x. tick (covers p x) * weight_from C (suc k) x)
    (λ i. tick (has s i) * (pair_at C k i).weight)
    (λ i x. tick_and (has s i) (covers p x) (pair_at C k i).weight (weight_from C (suc k) x)) u (choices_in w))

-- a cover's weight is the sum of the weights of those of all choices that it covers
pub weight-covers : (C : Case) (p : Cover) → Parts (whole C) p → weight C p ≡ sum (λ x. tick (covers p x) * weight_of C x) (choices C)
unfolding choices weight_of
weight-covers C p h = weight-product C p ∙ product-covers C 0 (whole C) p h

-- ---- all choices weigh 100^n

product_whole : (C : Case) (k : ℕ) (ts : List (List Pair)) → ((i : ℕ) → i < length ts → get_or C.tables (k + i) [] ≡ get_or ts i [])
    → ((i : ℕ) → i < length ts → sum (λ p. p.weight) (get_or ts i []) ≡ 100)
    → product C k (map (λ pairs. below (length pairs)) ts) ≡ 100 ^ length ts
product_whole C k [] same full = refl
product_whole C k (t ∷ ts) same full =
    ap₂ ◌*◌ first
    (product_whole C (suc k) ts (λ i h. ap (λ (n : ℕ). get_or C.tables n []) (shift i) ∙ same (suc i) (omega arith)) (λ i h. full (suc i) (omega arith)))
    ∙ sym (pow-succ' 100 (length ts))
  where
    shift : (i : ℕ) → suc k + i ≡ k + suc i
    shift i = omega arith

    here : get_or C.tables k [] ≡ t
    here = ap (λ (n : ℕ). get_or C.tables n []) (omega arith) ∙ same 0 (omega arith)

    first : sum (λ d. (pair_at C k d).weight) (below (length t)) ≡ 100
    first =
        ap (λ (l : List Pair). sum (λ d. (get_or l d (record { delay = 0; weight = 0 })).weight) (below (length t))) here
        ∙ sum-places (λ p. p.weight) t (record { delay = 0; weight = 0 })
        ∙ full 0 (omega arith)

-- all choices of n trains together weigh 100^n
pub weight-all : (C : Case) → Sound C → sum (weight_of C) (choices C) ≡ total C
unfolding choices whole total weight
weight-all C S =
    weight-product C (whole C)
    ∙ product_whole C 0 C.tables (λ i h. ap (λ (n : ℕ). get_or C.tables n []) (omega arith)) (λ i h. S.hundred i (omega (arith, S.tabled)))
    ∙ ap (λ (n : ℕ). 100 ^ n) S.tabled

-- ---- which choices there are

-- a cover covers each of its choices
pub choices-covered : (p : Cover) → Every (λ x. covers p x ≡ true) (choices_in p)
unfolding choices_in covers
choices-covered [] = (refl, tt)
choices-covered (s ∷ p) =
    every_each (λ d. has s d ≡ true) (λ x. covers (s ∷ p) x ≡ true) (λ d. map (λ x. d ∷ x) (choices_in p))
    (λ d i. every_map (λ x. covers p x ≡ true) (λ x. covers (s ∷ p) x ≡ true) (λ x. d ∷ x) (λ x c. ap₂ ◌&&◌ i c) (choices_in p) (choices-covered p)) s (every_has s)

-- each of all choices is covered by the whole
pub choices-whole : (C : Case) → Every (λ x. covers (whole C) x ≡ true) (choices C)
unfolding choices
choices-whole C = choices-covered (whole C)

-- whether two choices are the same
abbrev pub alike : List ℕ → List ℕ → Bool
alike [] [] = true
alike [] (e ∷ y) = false
alike (d ∷ x) [] = false
alike (d ∷ x) (e ∷ y) = eqb d e && alike x y

pub alike-true : (x y : List ℕ) → alike x y ≡ true → x ≡ y
alike-true [] [] h = refl
alike-true [] (e ∷ y) h = absurd (false≢true h)
alike-true (d ∷ x) [] h = absurd (false≢true h)
alike-true (d ∷ x) (e ∷ y) h = go (eqb d e) refl h (alike-true x y)
  where
    go : (b : Bool) → eqb d e ≡ b → (b && alike x y) ≡ true → (alike x y ≡ true → x ≡ y) → d ∷ x ≡ e ∷ y
    go true q r ih = ap₂ (λ (a : ℕ) (l : List ℕ). a ∷ l) (eqb-true d e q) (ih r)
    go false q r ih = absurd (false≢true r)

-- each delay of each set once at most
abbrev pub Once : Cover → Type 0
Once p = Every (λ s. (d : ℕ) → count (eqb d) s ≤ 1) p

-- a choice that the cover covers is among its choices once, and any other never
pub choices-once : (p : Cover) → Once p → (x : List ℕ) → count (alike x) (choices_in p) ≡ tick (covers p x)
unfolding choices_in covers
choices-once [] h [] = refl
choices-once [] h (d ∷ x) = refl
choices-once (s ∷ p) h [] =
    sum-choices (λ y. tick (alike [] y)) (λ y. 0) (λ d. 0) (λ d y. refl) s (choices_in p)
    ∙ ap (λ (n : ℕ). n * sum (λ y. 0) (choices_in p)) (sum-zero s)
    ∙ zero-mul (sum (λ y. 0) (choices_in p))
choices-once (s ∷ p) h (d ∷ x) =
    sum-choices (λ y. tick (alike (d ∷ x) y)) (λ y. tick (alike x y)) (λ e. tick (eqb d e)) (λ e y. both (eqb d e) (alike x y)) s (choices_in p)
    ∙ ap₂ ◌*◌ (sym (count-any (eqb d) s (h.0 d))) (choices-once p h.1 x)
    ∙ sym (both (has s d) (covers p x))
  where
    both : (a b : Bool) → tick (a && b) ≡ tick a * tick b
    both true b = omega arith
    both false b = omega arith

whole-once : (C : Case) → Once (whole C)
unfolding whole
whole-once C = every_map (λ pairs. Unit) (λ s. (d : ℕ) → count (eqb d) s ≤ 1) (λ pairs. below (length pairs)) (λ pairs u d. below-once (length pairs) d) C.tables
    (every_all (λ pairs. Unit) (λ pairs. tt) C.tables)

-- a choice that the whole covers is among all choices once, and any other never
pub choices-all : (C : Case) (x : List ℕ) → count (alike x) (choices C) ≡ tick (covers (whole C) x)
unfolding choices
choices-all C x = choices-once (whole C) (whole-once C) x
