-- The words for lists that the definitions use. Of numbers, `a - b` is 0 where b is above a, `a / b` is rounded down, and `a % b` is what is
-- left over. From the library: `leb`, `ltb` and `eqb` test a ≤ b, a < b and a = b; `cond b x y` is x if b, otherwise y; `get_or l i d` is the item of
-- l at i, counted from 0, and d past its end; `take n l` has the first n items and `drop n l` the others; `set l i v` has v at i; `replicate n v` is
-- n times v; `l ++ m` is l and then m. Assumes nothing: these are definitions.
use Rattle.std.specs.Prelude.{Bool, true, false, ◌||◌, List, [], ◌∷◌, ◌++◌, ℕ, zero, suc, ◌+◌, ◌*◌, eqb}

-- v alone, or nothing
abbrev pub one {ℓ} : {A : Type ℓ} → Bool → A → List A
one true v = v ∷ []
one false v = []

-- what f makes of each, one list after another
abbrev pub each {ℓ κ} : {A : Type ℓ} {B : Type κ} → (A → List B) → List A → List B
each f [] = []
each f (a ∷ l) = f a ++ each f l

-- those that pass the test
abbrev pub keep {ℓ} : {A : Type ℓ} → (A → Bool) → List A → List A
keep test l = each (λ a. one (test a) a) l

-- whether one passes the test
abbrev pub any {ℓ} : {A : Type ℓ} → (A → Bool) → List A → Bool
any test [] = false
any test (a ∷ l) = test a || any test l

-- 1 if it is so, 0 if not
abbrev pub tick : Bool → ℕ
tick true = 1
tick false = 0

-- the sum of what f says of each
abbrev pub sum {ℓ} : {A : Type ℓ} → (A → ℕ) → List A → ℕ
sum f [] = 0
sum f (a ∷ l) = f a + sum f l

-- the product of what f says of each
abbrev pub product {ℓ} : {A : Type ℓ} → (A → ℕ) → List A → ℕ
product f [] = 1
product f (a ∷ l) = f a * product f l

-- how many pass the test
abbrev pub count {ℓ} : {A : Type ℓ} → (A → Bool) → List A → ℕ
count test l = sum (λ a. tick (test a)) l

-- from s on, one step f for each, one after another
abbrev pub fold {ℓ κ} : {A : Type ℓ} {S : Type κ} → (A → S → S) → List A → S → S
fold f [] s = s
fold f (a ∷ l) s = fold f l (f a s)

-- n numbers from k on
abbrev pub span : ℕ → ℕ → List ℕ
span zero k = []
span (suc n) k = k ∷ span n (suc k)

-- the numbers below n
abbrev pub below : ℕ → List ℕ
below n = span n 0

-- whether the number is in the list
abbrev pub has : List ℕ → ℕ → Bool
has l n = any (eqb n) l
