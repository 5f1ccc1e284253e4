-- A search, a sum and a step by index over the numbers below n are the same as over the list of what stands at those numbers:
-- each list is taken apart at its last element, as the search by index is. Assumes nothing.
use Rattle.std.specs.Prelude.{◌≡◌, Bool, not, ◌&&◌, ◌||◌, List, [], ◌∷◌, ◌++◌, map, leb, ltb, eqb}
use Rattle.std.proofs.Math.Path.{refl, ap}
use Rattle.std.proofs.Common.{sym, ◌∙◌, add-one, arith, le-leb, ne_eqb, ltb-true, ltb-false}
use Rattle.std.proofs.Math.Bool.{true, false, cond, or-false, true≢false}
use Prim.Native.Nat.{ℕ, zero, suc, ◌+◌, ◌-◌, ◌≤◌, ◌<◌}
use Rattle.std.proofs.lemmas.Bool.{lt-leb}
use Rattle.rules.specs.Lists.{any, sum, below, has}
use Rattle.rules.specs.Files.{Stop, any_step, repeats, last_of, rising}
use Rattle.theory_lists.specs.Each.{map-append}
use Rattle.theory_lists.specs.Every.{any_append}
use Rattle.theory_lists.specs.Sums.{sum-append}
use Rattle.theory_lists.specs.Below.{below_last}
use Rattle.file_bodies.specs.Bodies.{any_below, sum_below}

-- ---- a search by index

module _ (f : ℕ → Bool) where
  -- nothing yet
  pub any_none : any_below f 0 ≡ false
  unfolding any_below
  any_none = refl

  pub any-suc : (n : ℕ) → any_below f (suc n) ≡ cond (f n) true (any_below f n)
  unfolding any_below
  any-suc n = refl

  pub any-more : (n : ℕ) → any_below f n ≡ false → f n ≡ false → any_below f (n + 1) ≡ false
  unfolding any_below
  any-more n h e = rw (add-one, e) h

  pub any_here : (k n : ℕ) → k < n → f k ≡ true → any_below f n ≡ true
  unfolding any_below
  any_here k zero h e = absurd (omega arith)
  any_here k (suc n) h e = go (f n) refl (λ l. any_here k n l e)
    where
      go : (b : Bool) → f n ≡ b → (k < n → any_below f n ≡ true) → cond (f n) true (any_below f n) ≡ true
      go true p ih = rw p
      go false p ih =
          let ne : k ≡ n → ⊥ = λ q. true≢false (sym e ∙ ap f q ∙ p) in
          rw p (ih (omega arith))

  -- all passed
  pub any-end : (k n : ℕ) → k ≤ n → n ≤ k → any_below f k ≡ false → any_below f n ≡ false
  any-end k n a b h = let e : n ≡ k = omega arith in rw e h

-- the same test at each index below n
pub any_same : (f g : ℕ → Bool) (n : ℕ) → ((k : ℕ) → k < n → f k ≡ g k) → any_below f n ≡ any_below g n
unfolding any_below
any_same f g zero h = refl
any_same f g (suc n) h = rw (h n (omega arith), any_same f g n (λ k p. h k (omega arith)))

-- one search for either of two
pub any_or : (f g : ℕ → Bool) (n : ℕ) → any_below f n || any_below g n ≡ any_below (λ k. f k || g k) n
unfolding any_below
any_or f g zero = refl
any_or f g (suc n) = go (f n) (g n) (any_below f n) (any_below g n) (any_below (λ k. f k || g k) n) (any_or f g n)
  where
    go : (a b x y z : Bool) → x || y ≡ z → cond a true x || cond b true y ≡ cond (a || b) true z
    go true b x y z h = refl
    go false true true y z h = refl
    go false true false y z h = refl
    go false false x y z h = h

-- the last test of a search, put first
or_last : (b x : Bool) → x || b ≡ cond b true x
or_last true true = refl
or_last true false = refl
or_last false true = refl
or_last false false = refl

-- ---- a sum by index

pub sum_more : (f : ℕ → ℕ) (n : ℕ) → sum_below f (n + 1) ≡ sum_below f n + f n
unfolding sum_below
sum_more f n = rw add-one

pub sum-none : (f : ℕ → ℕ) → sum_below f 0 ≡ 0
unfolding sum_below
sum-none f = refl

pub sum-end : (f : ℕ → ℕ) (k n : ℕ) {t : ℕ} → k ≤ n → n ≤ k → t ≡ sum_below f k → sum_below f n ≡ t
sum-end f k n a b h = let e : n ≡ k = omega arith in rw e (sym h)

pub sum_same : (f g : ℕ → ℕ) (n : ℕ) → ((k : ℕ) → k < n → f k ≡ g k) → sum_below f n ≡ sum_below g n
unfolding sum_below
sum_same f g zero h = refl
sum_same f g (suc n) h = rw (h n (omega arith), sum_same f g n (λ k p. h k (omega arith)))

-- ---- lists taken apart at the last element

module _ {A : Type 0} where
  -- what stands at the numbers below n, the last apart
  map_last : (g : ℕ → A) (n : ℕ) → map g (below (suc n)) ≡ map g (below n) ++ (g n ∷ [])
  map_last g n = ap (map g) (below_last n) ∙ map-append g (below n) (n ∷ [])

  -- ---- what is searched by index is what is searched in the list

  pub any_below_lem : (t : A → Bool) (g : ℕ → A) (n : ℕ) → any t (map g (below n)) ≡ any_below (λ k. t (g k)) n
  unfolding any_below
  any_below_lem t g zero = refl
  any_below_lem t g (suc n) =
      ap (any t) (map_last g n) ∙ any_append t (map g (below n)) (g n ∷ []) ∙ ap (λ (x : Bool). any t (map g (below n)) || x) (or-false (t (g n)))
      ∙ ap (λ (x : Bool). x || t (g n)) (any_below_lem t g n) ∙ or_last (t (g n)) (any_below (λ k. t (g k)) n)

  pub sum_below_lem : (f : A → ℕ) (g : ℕ → A) (n : ℕ) → sum f (map g (below n)) ≡ sum_below (λ k. f (g k)) n
  unfolding sum_below
  sum_below_lem f g zero = refl
  sum_below_lem f g (suc n) = ap (sum f) (map_last g n) ∙ sum-append f (map g (below n)) (g n ∷ []) ∙ omega (arith, sum_below_lem f g n)

-- ---- steps from one to the next, and what stands twice

-- the test of a number and the one before it; the first has none before it
abbrev pub after_first : (ℕ → ℕ → Bool) → ℕ → Bool
after_first f k = cond (eqb k 0) false (f (k - 1) k)

pub after-suc : (f : ℕ → ℕ → Bool) (n : ℕ) → after_first f (suc n) ≡ f n (suc n)
after-suc f n =
    let z : suc n ≡ 0 → ⊥ = λ q. omega arith in
    let e : suc n - 1 ≡ n = omega arith in
    rw (ne_eqb (suc n) 0 z, e)

step-last : (f : Stop → Stop → Bool) (l : List Stop) (a b : Stop) → any_step f (l ++ (a ∷ []) ++ (b ∷ [])) ≡ any_step f (l ++ (a ∷ [])) || f a b
step-last f [] a b = or-false (f a b)
step-last f (x ∷ []) a b = rw (or-false (f a b), or-false (f x a))
step-last f (x ∷ (y ∷ l)) a b = go (f x y) _ _ _ (step-last f (y ∷ l) a b)
  where
    go : (x p q r : Bool) → p ≡ q || r → x || p ≡ (x || q) || r
    go true p q r h = refl
    go false p q r h = h

pub step-below : (f : Stop → Stop → Bool) (g : ℕ → Stop) (n : ℕ) → any_step f (map g (below n)) ≡ any_below (after_first (λ i k. f (g i) (g k))) n
unfolding any_below
step-below f g zero = refl
step-below f g (suc zero) = refl
step-below f g (suc (suc n)) =
    ap (any_step f) (map_last g (suc n) ∙ ap (λ (l : List Stop). l ++ (g (suc n) ∷ [])) (map_last g n))
    ∙ step-last f (map g (below n)) (g n) (g (suc n))
    ∙ ap (λ (x : Bool). x || f (g n) (g (suc n))) (sym (ap (any_step f) (map_last g n)) ∙ step-below f g (suc n))
    ∙ or_last (f (g n) (g (suc n))) (any_below (after_first (λ i k. f (g i) (g k))) (suc n))
    ∙ ap (λ (x : Bool). cond x true (any_below (after_first (λ i k. f (g i) (g k))) (suc n))) (sym (after-suc (λ i k. f (g i) (g k)) n))

repeats-last : (l : List ℕ) (a : ℕ) → repeats (l ++ (a ∷ [])) ≡ repeats l || any (λ x. eqb x a) l
repeats-last [] a = refl
repeats-last (x ∷ l) a = rw (any_append (eqb x) l (a ∷ []), repeats-last l a) (go (has l x) (eqb x a) (repeats l) (any (λ y. eqb y a) l))
  where
    go : (p q r s : Bool) → (p || (q || false)) || (r || s) ≡ (p || r) || (q || s)
    go true q r s = refl
    go false true true s = refl
    go false true false s = refl
    go false false r s = refl

pub repeats-below : (g : ℕ → ℕ) (n : ℕ) → repeats (map g (below n)) ≡ any_below (λ k. any_below (λ i. eqb (g i) (g k)) k) n
unfolding any_below
repeats-below g zero = refl
repeats-below g (suc n) =
    ap repeats (map_last g n)
    ∙ repeats-last (map g (below n)) (g n)
    ∙ ap (λ (x : Bool). x || any (λ y. eqb y (g n)) (map g (below n))) (repeats-below g n)
    ∙ ap (λ (x : Bool). any_below (λ k. any_below (λ i. eqb (g i) (g k)) k) n || x) (any_below_lem (λ y. eqb y (g n)) g n)
    ∙ or_last (any_below (λ i. eqb (g i) (g n)) n) (any_below (λ k. any_below (λ i. eqb (g i) (g k)) k) n)

-- ---- lists that rise, and the last of a list

not-below : (a b : ℕ) → not (ltb a b) ≡ leb b a
not-below a b = go (ltb a b) refl
  where
    go : (x : Bool) → ltb a b ≡ x → not x ≡ leb b a
    go true e = sym (lt-leb b a (ltb-true a b e))
    go false e = sym (le-leb b a (ltb-false a b e))

rising-last : (l : List ℕ) (a b : ℕ) → not (rising (l ++ (a ∷ []) ++ (b ∷ []))) ≡ not (rising (l ++ (a ∷ []))) || leb b a
rising-last [] a b = rw (← not-below a b) (go (ltb a b))
  where
    go : (x : Bool) → not (x && true) ≡ false || not x
    go true = refl
    go false = refl
rising-last (x ∷ []) a b = rw (← not-below a b) (go (ltb x a) (ltb a b))
  where
    go : (x y : Bool) → not (x && (y && true)) ≡ not (x && true) || not y
    go true true = refl
    go true false = refl
    go false y = refl
rising-last (x ∷ (y ∷ l)) a b = go (ltb x y) (rising (y ∷ l ++ (a ∷ []) ++ (b ∷ []))) (rising (y ∷ l ++ (a ∷ []))) _ (rising-last (y ∷ l) a b)
  where
    go : (x p q r : Bool) → not p ≡ not q || r → not (x && p) ≡ not (x && q) || r
    go true p q r h = h
    go false p q r h = refl

pub rising-below : (g : ℕ → ℕ) (n : ℕ) → not (rising (map g (below n))) ≡ any_below (after_first (λ i k. leb (g k) (g i))) n
unfolding any_below
rising-below g zero = refl
rising-below g (suc zero) = refl
rising-below g (suc (suc n)) =
    ap (λ (l : List ℕ). not (rising l)) (map_last g (suc n) ∙ ap (λ (l : List ℕ). l ++ (g (suc n) ∷ [])) (map_last g n))
    ∙ rising-last (map g (below n)) (g n) (g (suc n))
    ∙ ap (λ (x : Bool). x || leb (g (suc n)) (g n)) (sym (ap (λ (l : List ℕ). not (rising l)) (map_last g n)) ∙ rising-below g (suc n))
    ∙ or_last (leb (g (suc n)) (g n)) (any_below (after_first (λ i k. leb (g k) (g i))) (suc n))
    ∙ ap (λ (x : Bool). cond x true (any_below (after_first (λ i k. leb (g k) (g i))) (suc n))) (sym (after-suc (λ i k. leb (g k) (g i)) n))

last_of-last : (l : List Stop) (a : Stop) → last_of (l ++ (a ∷ [])) ≡ a
last_of-last [] a = refl
last_of-last (x ∷ []) a = refl
last_of-last (x ∷ (y ∷ l)) a = last_of-last (y ∷ l) a

pub last_of-below : (g : ℕ → Stop) (n : ℕ) → last_of (map g (below (suc n))) ≡ g n
last_of-below g n = ap last_of (map_last g n) ∙ last_of-last (map g (below n)) (g n)
