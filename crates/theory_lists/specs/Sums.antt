-- Laws of `sum`, `count` and of how many are kept. Each is shown by induction on the list. Assumes nothing.
use Rattle.std.specs.Prelude.{◌≡◌, refl, Bool, true, false, ◌&&◌, ◌||◌, not, cond, List, [], ◌∷◌, ◌++◌, map, ℕ, ◌+◌, ◌*◌, ◌≤◌, length}
use Rattle.std.proofs.Common.{sym, ap, ◌∙◌, mul-add, mul-zero, zero-mul, one-mul, mul_left_comm, arith}
use Rattle.rules.specs.Lists.{one, each, keep, any, tick, sum, count}
use Rattle.theory_lists.specs.Every.{Every}

-- ---- sums and counts

pub tick-le : (b : Bool) → tick b ≤ 1
tick-le true = omega arith
tick-le false = omega arith

pub tick_and : (a b : Bool) (c d : ℕ) → tick (a && b) * (c * d) ≡ tick a * c * (tick b * d)
tick_and true b c d = mul_left_comm (tick b) c d ∙ ap (λ (z : ℕ). z * (tick b * d)) (sym (one-mul c))
tick_and false b c d = zero-mul (c * d) ∙ sym (zero-mul (tick b * d)) ∙ ap (λ (z : ℕ). z * (tick b * d)) (sym (zero-mul c))

pub tick-times : (b : Bool) (n : ℕ) → tick b * n ≤ n
tick-times true n = omega (arith, one-mul n)
tick-times false n = omega (arith, zero-mul n)

-- a test splits a number in two
pub tick-split : (b : Bool) (n : ℕ) → tick b * n + tick (not b) * n ≡ n
tick-split true n = omega arith
tick-split false n = omega arith

pub sum-append {ℓ} : {A : Type ℓ} (f : A → ℕ) (s t : List A) → sum f (s ++ t) ≡ sum f s + sum f t
sum-append f [] t = omega arith
sum-append f (a ∷ s) t = omega (arith, sum-append f s t)

pub sum-each {ℓ κ} : {A : Type ℓ} {B : Type κ} (f : B → ℕ) (g : A → List B) (s : List A) → sum f (each g s) ≡ sum (λ a. sum f (g a)) s
sum-each f g [] = refl
sum-each f g (a ∷ s) = omega (arith, sum-append f (g a) (each g s), sum-each f g s)

pub sum-map {ℓ κ} : {A : Type ℓ} {B : Type κ} (f : B → ℕ) (g : A → B) (s : List A) → sum f (map g s) ≡ sum (λ a. f (g a)) s
sum-map f g [] = refl
sum-map f g (a ∷ s) = omega (arith, sum-map f g s)

pub sum_same {ℓ} : {A : Type ℓ} (f g : A → ℕ) → ((a : A) → f a ≡ g a) → (l : List A) → sum f l ≡ sum g l
sum_same f g e [] = refl
sum_same f g e (a ∷ l) = omega (arith, e a, sum_same f g e l)

pub sum_every {ℓ} : {A : Type ℓ} (P : A → Type 0) (f g : A → ℕ) → ((a : A) → P a → f a ≡ g a) → (l : List A) → Every P l → sum f l ≡ sum g l
sum_every P f g e [] h = refl
sum_every P f g e (a ∷ l) h = omega (arith, e a h.0, sum_every P f g e l h.1)

pub sum_less {ℓ} : {A : Type ℓ} (f g : A → ℕ) → ((a : A) → f a ≤ g a) → (l : List A) → sum f l ≤ sum g l
sum_less f g e [] = omega arith
sum_less f g e (a ∷ l) = omega (arith, e a, sum_less f g e l)

pub sum_plus {ℓ} : {A : Type ℓ} (f g : A → ℕ) (l : List A) → sum (λ a. f a + g a) l ≡ sum f l + sum g l
sum_plus f g [] = refl
sum_plus f g (a ∷ l) = omega (arith, sum_plus f g l)

pub sum-times {ℓ} : {A : Type ℓ} (c : ℕ) (f : A → ℕ) (l : List A) → sum (λ a. c * f a) l ≡ c * sum f l
sum-times c f [] = sym (mul-zero c)
sum-times c f (a ∷ l) = ap (λ (z : ℕ). c * f a + z) (sum-times c f l) ∙ sym (mul-add c (f a) (sum f l))

pub sum-zero {ℓ} : {A : Type ℓ} (l : List A) → sum {A = A} (λ a. 0) l ≡ 0
sum-zero [] = refl
sum-zero (a ∷ l) = omega (arith, sum-zero l)

pub sum_ones : {A : Type 0} (l : List A) → sum {A = A} (λ a. 1) l ≡ length l
sum_ones [] = refl
sum_ones (a ∷ l) = omega (arith, sum_ones l)

pub sum_swap {ℓ κ} : {A : Type ℓ} {B : Type κ} (f : A → B → ℕ) (s : List A) (t : List B) → sum (λ a. sum (f a) t) s ≡ sum (λ b. sum (λ a. f a b) s) t
sum_swap f [] t = sym (sum-zero t)
sum_swap f (a ∷ s) t = ap (λ (z : ℕ). sum (f a) t + z) (sum_swap f s t) ∙ sym (sum_plus (f a) (λ b. sum (λ c. f c b) s) t)

-- each adds at most the sum
pub sum-at : {A : Type 0} (f : A → ℕ) (l : List A) (n : ℕ) → sum f l ≤ n → Every (λ a. f a ≤ n) l
sum-at f [] n h = tt
sum-at f (a ∷ l) n h = (omega arith, sum-at f l n (omega arith))

pub sum_one {ℓ} : {A : Type ℓ} (f : A → ℕ) (c : Bool) (a : A) → sum f (one c a) ≡ cond c (f a) 0
sum_one f true a = omega arith
sum_one f false a = refl

pub sum-one-le {ℓ} : {A : Type ℓ} (f : A → ℕ) (c : Bool) (a : A) → sum f (one c a) ≤ f a
sum-one-le f true a = omega arith
sum-one-le f false a = omega arith

-- a sum over those that pass a test
pub sum-keep {ℓ} : {A : Type ℓ} (f : A → ℕ) (test : A → Bool) (l : List A) → sum f (keep test l) ≡ sum (λ a. tick (test a) * f a) l
sum-keep f test [] = refl
sum-keep f test (a ∷ l) = go (test a) (sum-keep f test l)
  where
    go : (b : Bool) → sum f (keep test l) ≡ sum (λ a. tick (test a) * f a) l → sum f (one b a ++ keep test l) ≡ tick b * f a + sum (λ a. tick (test a) * f a) l
    go true h = omega arith
    go false h = omega arith

pub sum-keep-le {ℓ} : {A : Type ℓ} (f : A → ℕ) (test : A → Bool) (l : List A) → sum f (keep test l) ≤ sum f l
sum-keep-le f test l = omega (arith, sum-each f (λ a. one (test a) a) l, sum_less (λ a. sum f (one (test a) a)) f (λ a. sum-one-le f (test a) a) l)

-- where at most one passes, whether one passes says how many do
pub count-any {ℓ} : {A : Type ℓ} (test : A → Bool) (l : List A) → count test l ≤ 1 → tick (any test l) ≡ count test l
count-any test [] h = refl
count-any test (a ∷ l) h = go (test a) h (count-any test l)
  where
    go : (b : Bool) → tick b + count test l ≤ 1 → (count test l ≤ 1 → tick (any test l) ≡ count test l) → tick (b || any test l) ≡ tick b + count test l
    go true h ih = omega arith
    go false h ih = omega (arith, ih (omega arith))

pub count-le : {A : Type 0} (test : A → Bool) (l : List A) → count test l ≤ length l
count-le test [] = omega arith
count-le test (a ∷ l) = omega (arith, tick-le (test a), count-le test l)

pub count_none : {A : Type 0} (test : A → Bool) (l : List A) → count test l ≤ 0 → Every (λ a. test a ≡ false) l
count_none test [] h = tt
count_none test (a ∷ l) h = (go (test a) h, count_none test l (omega arith))
  where
    go : (b : Bool) → tick b + count test l ≤ 0 → b ≡ false
    go true k = absurd (omega arith)
    go false k = refl

-- ---- those that are kept

pub length-keep : {A : Type 0} (test : A → Bool) (l : List A) → length (keep test l) ≡ count test l
length-keep test [] = refl
length-keep test (a ∷ l) = go (test a) (length-keep test l)
  where
    go : (b : Bool) → length (keep test l) ≡ count test l → length (one b a ++ keep test l) ≡ tick b + count test l
    go true ih = omega (arith, ih)
    go false ih = omega (arith, ih)

pub length-one : {A : Type 0} (l : List A) → length l ≡ 1 → (a : A) × (l ≡ a ∷ [])
length-one [] h = absurd (omega arith)
length-one (a ∷ []) h = (a, refl)
length-one (a ∷ (b ∷ l)) h = absurd (omega arith)
