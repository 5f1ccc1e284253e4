-- Laws of `span` and `below`: one number more, numbers by blocks, what holds of every number in a row, one number among them, and the numbers below n as a set.
-- Each is shown by induction on how many there are. Assumes nothing.
use Rattle.std.proofs.Common.{subst, sym, ap, ap₂, ◌∙◌, append-nil, not-suc-le-zero, le_of_suc-le-suc, add-zero, zero-add, suc-mul, add-one, arith, length-append, eqb-true, eq-eqb, ne_eqb, ltb-true, ltb-false}
use Rattle.std.specs.Prelude.{◌≡◌, refl, Bool, true, false, ◌||◌, List, [], ◌∷◌, ◌++◌, map, ℕ, zero, suc, ◌+◌, ◌*◌, ◌≤◌, ◌<◌, length, get_or, eqb, ltb}
use Rattle.std.proofs.Math.Bool.{or-true, or-false}
use Rattle.std.proofs.lemmas.Bool.{eqb-false}
use Rattle.rules.specs.Lists.{each, any, tick, sum, count, span, below, has}
use Rattle.theory_lists.specs.Each.{each_append, each_same, each_none, each-alone}
use Rattle.theory_lists.specs.Every.{Every, every_right, every_more, each_every, any_append, any_every}
use Rattle.theory_lists.specs.Sums.{tick-le, sum-append, sum_every, sum-zero}

-- ---- numbers in a row

pub length-span : (n k : ℕ) → length (span n k) ≡ n
length-span zero k = refl
length-span (suc n) k = omega (arith, length-span n (suc k))

-- m numbers in a row and then n more
pub span-append : (m n k : ℕ) → span (m + n) k ≡ span m k ++ span n (m + k)
span-append zero n k =
    let all : zero + n ≡ n = omega arith in
    let at : k ≡ zero + k = omega arith in
    ap (λ (i : ℕ). span i k) all ∙ ap (span n) at
span-append (suc m) n k =
    let all : suc m + n ≡ suc (m + n) = omega arith in
    let at : m + suc k ≡ suc m + k = omega arith in
    ap (λ (i : ℕ). span i k) all ∙ ap (λ (l : List ℕ). k ∷ l) (span-append m n (suc k) ∙ ap (λ (i : ℕ). span m (suc k) ++ span n i) at)

-- one number more stands at the end
pub span_last : (n k : ℕ) → span (suc n) k ≡ span n k ++ ((n + k) ∷ [])
span_last n k = let all : suc n ≡ n + 1 = omega arith in ap (λ (i : ℕ). span i k) all ∙ span-append n 1 k

pub below_last : (n : ℕ) → below (suc n) ≡ below n ++ (n ∷ [])
below_last n = span_last n 0 ∙ ap (λ (i : ℕ). below n ++ (i ∷ [])) (add-zero n)

pub below_more : (n : ℕ) → below (n + 1) ≡ below n ++ (n ∷ [])
below_more n = ap below (add-one n) ∙ below_last n

pub every_span : (P : ℕ → Type 0) (n i : ℕ) → ((k : ℕ) → k < n + i → P k) → Every P (span n i)
every_span P zero i h = tt
every_span P (suc n) i h = (h i (omega arith), every_span P n (suc i) (λ k l. h k (omega arith)))

pub every_below : (n : ℕ) → Every (λ k. k < n) (below n)
every_below n = every_span (λ k. k < n) n 0 (λ k h. omega arith)

-- ---- what is made of each number in a row

module _ {ℓ} {A : Type ℓ} (f : ℕ → List A) where
  -- one number more
  pub each-below-more : (n : ℕ) → each f (below (n + 1)) ≡ each f (below n) ++ f n
  each-below-more n =
      ap (each f) (below_more n) ∙ each_append f (below n) (n ∷ []) ∙ ap (λ (l : List A). each f (below n) ++ l) (append-nil (f n))

  -- numbers from the next one on
  pub each-span-next : (n k : ℕ) → each f (span n (suc k)) ≡ each (λ i. f (suc i)) (span n k)
  each-span-next zero k = refl
  each-span-next (suc n) k = ap (λ (z : List A). f (suc k) ++ z) (each-span-next n (suc k))

-- what is made alike of each number below n
pub each-below-same {ℓ} : {A : Type ℓ} (f g : ℕ → List A) (n : ℕ) → ((i : ℕ) → i < n → f i ≡ g i) → each f (below n) ≡ each g (below n)
each-below-same f g n h = each_every (λ i. i < n) f g h (below n) (every_below n)

module _ {ℓ} {A : Type ℓ} (f : ℕ → List A) where
  -- parts of one width
  pub length-parts : (w : ℕ) → ((i : ℕ) → length (f i) ≡ w) → (n : ℕ) → length (each f (below n)) ≡ n * w
  length-parts w h n = go n 0
    where
      go : (n k : ℕ) → length (each f (span n k)) ≡ n * w
      go zero k = omega arith
      go (suc n) k = omega (arith, length-append (f k) (each f (span n (suc k))), h k, go n (suc k), suc-mul n w)

-- numbers from j on, by their distance from j
pub each-span-from {ℓ} : {A : Type ℓ} (f : ℕ → List A) (n j : ℕ) → each f (span n j) ≡ each (λ t. f (j + t)) (below n)
each-span-from f n zero = each-below-same f (λ t. f (zero + t)) n (λ t h. ap f (omega arith))
each-span-from f n (suc j) =
    each-span-next f n j ∙ each-span-from (λ i. f (suc i)) n j ∙ each-below-same (λ t. f (suc (j + t))) (λ t. f (suc j + t)) n (λ t h. ap f (omega arith))

-- numbers by blocks of b
pub each-blocks {ℓ} : {A : Type ℓ} (f : ℕ → List A) (a b : ℕ) → each f (below (a * b)) ≡ each (λ k. each (λ t. f (k * b + t)) (below b)) (below a)
each-blocks f zero b =
    let none : zero * b ≡ zero = omega arith in
    ap (λ (n : ℕ). each f (below n)) none
each-blocks f (suc a) b =
    let all : suc a * b ≡ a * b + b = suc-mul a b in
    let at : a * b + 0 ≡ a * b = omega arith in
    ap (λ (n : ℕ). each f (below n)) all
    ∙ ap (each f) (span-append (a * b) b 0)
    ∙ each_append f (below (a * b)) (span b (a * b + 0))
    ∙ ap₂ ◌++◌ (each-blocks f a b) (ap (λ (j : ℕ). each f (span b j)) at ∙ each-span-from f b (a * b))
    ∙ sym (each-below-more (λ k. each (λ t. f (k * b + t)) (below b)) a)
    ∙ ap (λ (n : ℕ). each (λ k. each (λ t. f (k * b + t)) (below b)) (below n)) (add-one a)

-- one item made of each number, by blocks of b
pub map-blocks {ℓ} : {A : Type ℓ} (f : ℕ → A) (a b : ℕ) → map f (below (a * b)) ≡ each (λ k. map (λ t. f (k * b + t)) (below b)) (below a)
map-blocks f a b =
    sym (each-alone f (below (a * b)))
    ∙ each-blocks (λ i. f i ∷ []) a b
    ∙ each_same (λ k. each (λ t. f (k * b + t) ∷ []) (below b)) (λ k. map (λ t. f (k * b + t)) (below b))
    (λ k. each-alone (λ t. f (k * b + t)) (below b)) (below a)

module _ {ℓ} {A : Type ℓ} (f : ℕ → A) where
  pub length-span-map : (n i : ℕ) → length (map f (span n i)) ≡ n
  length-span-map zero i = refl
  length-span-map (suc n) i = ap suc (length-span-map n (suc i))

  pub get_d_span : (n i k : ℕ) (d : A) → k < n → get_or (map f (span n i)) k d ≡ f (i + k)
  get_d_span zero i k d h = absurd (not-suc-le-zero h)
  get_d_span (suc n) i zero d h = ap f (sym (add-zero i))
  get_d_span (suc n) i (suc k) d h =
      let e : suc i + k ≡ i + suc k = omega arith in
      get_d_span n (suc i) k d (le_of_suc-le-suc h) ∙ ap f e

  pub get_d_below : (n k : ℕ) (d : A) → k < n → get_or (map f (below n)) k d ≡ f k
  get_d_below n k d h = get_d_span n 0 k d h ∙ ap f (zero-add k)

-- ---- one number among others

-- a number in a list of others
pub record Amid (j : ℕ) (l : List ℕ) : Type 0 where
  pub front : List ℕ
  pub back : List ℕ
  pub split : l ≡ front ++ (j ∷ back)
  pub front_others : Every (λ k. k ≡ j → ⊥) front
  pub back_others : Every (λ k. k ≡ j → ⊥) back

span-past : (n i j : ℕ) → j < i → Every (λ k. k ≡ j → ⊥) (span n i)
span-past zero i j h = tt
span-past (suc n) i j h = (λ e. omega arith, span-past n (suc i) j (omega arith))

span_amid : (n i j : ℕ) → i ≤ j → j < n + i → Amid j (span n i)
span_amid zero i j h l = absurd (omega arith)
span_amid (suc n) i j h l = go (eqb i j) refl (λ k. span_amid n (suc i) j k (omega arith))
  where
    less : (i j : ℕ) → i ≤ j → (i ≡ j → ⊥) → suc i ≤ j
    less i j h q = omega arith

    go : (b : Bool) → eqb i j ≡ b → (suc i ≤ j → Amid j (span n (suc i))) → Amid j (i ∷ span n (suc i))
    go true q ih = record {
      front = [];
      back = span n (suc i);
      split = ap (λ (k : ℕ). k ∷ span n (suc i)) (eqb-true i j q);
      front_others = tt;
      back_others = span-past n (suc i) j (omega (arith, eqb-true i j q));
    }
    go false q ih =
        let a = ih (less i j h (eqb-false i j q)) in
        record {
          front = i ∷ a.front;
          back = a.back;
          split = ap (λ (l : List ℕ). i ∷ l) a.split;
          front_others = (eqb-false i j q, a.front_others);
          back_others = a.back_others;
        }

pub below_amid : (n j : ℕ) → j < n → Amid j (below n)
below_amid n j h = span_amid n 0 j (omega arith) (omega arith)

-- what every number below n has, each has
pub below_at : (P : ℕ → Type 0) (n : ℕ) → Every P (below n) → (j : ℕ) → j < n → P j
below_at P n q j h = let a = below_amid n j h in (every_right P a.front (j ∷ a.back) (subst (Every P) a.split q)).0

-- where one number alone makes something, that is all there is
pub each-below_in {ℓ} : {B : Type ℓ} (f : ℕ → List B) (j : ℕ) → ((k : ℕ) → (k ≡ j → ⊥) → f k ≡ []) → (n : ℕ) → j < n → each f (below n) ≡ f j
each-below_in f j other n h =
    let a = below_amid n j h in
    ap (each f) a.split
    ∙ each_append f a.front (j ∷ a.back)
    ∙ ap₂ ◌++◌ (none a.front a.front_others) (ap (λ z. f j ++ z) (none a.back a.back_others) ∙ append-nil (f j))
  where
    none : (l : List ℕ) → Every (λ k. k ≡ j → ⊥) l → each f l ≡ []
    none l q = each_every (λ k. k ≡ j → ⊥) f (λ k. []) other l q ∙ each_none l

module _ (f : ℕ → ℕ) (j : ℕ) (other : (k : ℕ) → (k ≡ j → ⊥) → f k ≡ 0) where
  none_else : (l : List ℕ) → Every (λ k. k ≡ j → ⊥) l → sum f l ≡ 0
  none_else l q = sum_every (λ k. k ≡ j → ⊥) f (λ k. 0) other l q ∙ sum-zero l

  -- where one number alone counts, the sum is what it counts
  pub sum-below_in : (n : ℕ) → j < n → sum f (below n) ≡ f j
  sum-below_in n h =
      let a = below_amid n j h in
      omega (arith, ap (sum f) a.split, sum-append f a.front (j ∷ a.back), none_else a.front a.front_others, none_else a.back a.back_others)

  pub sum-below-le : (n : ℕ) → sum f (below n) ≤ f j
  sum-below-le n = go (ltb j n) refl
    where
      go : (b : Bool) → ltb j n ≡ b → sum f (below n) ≤ f j
      go true q = omega (arith, sum-below_in n (ltb-true j n q))
      go false q =
          omega (arith, none_else (below n) (every_more (λ k. k < n) (λ k. k ≡ j → ⊥) (λ k h e. omega (arith, ltb-false j n q)) (below n) (every_below n)))

pub sum-span-suc : (f : ℕ → ℕ) (n k : ℕ) → sum f (span n (suc k)) ≡ sum (λ i. f (suc i)) (span n k)
sum-span-suc f zero k = refl
sum-span-suc f (suc n) k = ap (λ (z : ℕ). f (suc k) + z) (sum-span-suc f n (suc k))

-- a sum over a list is a sum over its places
pub sum-places {ℓ} : {A : Type ℓ} (f : A → ℕ) (l : List A) (z : A) → sum (λ i. f (get_or l i z)) (below (length l)) ≡ sum f l
sum-places f [] z = refl
sum-places f (a ∷ l) z =
    ap (λ (n : ℕ). f a + n) (sum-span-suc (λ i. f (get_or (a ∷ l) i z)) (length l) 0 ∙ sum-places f l z)

-- ---- a test of the numbers below n

-- the numbers below n + 1 are those below n, and n
pub any_below_lem : (f : ℕ → Bool) (n : ℕ) → any f (below (suc n)) ≡ (any f (below n) || f n)
any_below_lem f n = ap (any f) (below_last n) ∙ any_append f (below n) (n ∷ []) ∙ ap (λ (b : Bool). any f (below n) || b) (or-false (f n))

-- ---- the numbers below n, as a set

pub has-below : (n d : ℕ) → d < n → has (below n) d ≡ true
has-below n d h =
    let a = below_amid n d h in
    ap (λ (l : List ℕ). has l d) a.split
    ∙ any_append (eqb d) a.front (d ∷ a.back)
    ∙ ap (λ (z : Bool). any (eqb d) a.front || (z || any (eqb d) a.back)) (eq-eqb d d refl)
    ∙ or-true (any (eqb d) a.front)

pub below-has : (n d : ℕ) → has (below n) d ≡ true → d < n
below-has n d h = any_every (eqb d) (λ k. k < n) (d < n) (λ k q l. omega (arith, eqb-true d k q)) (below n) (every_below n) h

pub below-once : (n d : ℕ) → count (eqb d) (below n) ≤ 1
below-once n d = omega (arith, sum-below-le (λ k. tick (eqb d k)) d (λ k q. ap tick (ne_eqb d k (λ r. q (sym r)))) n, tick-le (eqb d d))

-- a set has each of its numbers
pub every_has : (s : List ℕ) → Every (λ d. has s d ≡ true) s
every_has [] = tt
every_has (a ∷ s) = (
  ap (λ (z : Bool). z || has s a) (eq-eqb a a refl),
  every_more (λ d. has s d ≡ true) (λ d. has (a ∷ s) d ≡ true) (λ d h. ap (λ (z : Bool). eqb d a || z) h ∙ or-true (eqb d a)) s (every_has s),
)
