-- Sums over the numbers below n of which one alone changes, and the first of two lists that brings a train in.
-- The one is taken out of the row, and the others stay. Assumes nothing.
use Rattle.std.specs.Prelude.{◌≡◌, refl, Bool, true, false, ◌&&◌, cond, List, [], ◌∷◌, ◌++◌, ℕ, suc, ◌+◌, ◌≤◌, ◌<◌, length, ltb, eqb}
use Rattle.std.proofs.Common.{sym, ap, ◌∙◌, arith, lt-ltb, ltb-true}
use Rattle.std.proofs.Math.Option.{Option, none, some}
use Rattle.rules.specs.Lists.{sum, below}
use Rattle.rules.specs.Turns.{Mark, Arrival}
use Rattle.rules.specs.Single.{minute_of}
use Rattle.theory_lists.specs.Every.{Every}
use Rattle.theory_lists.specs.Sums.{sum-append, sum_every}
use Rattle.theory_lists.specs.Below.{below_amid, every_below}

-- ---- sums over numbers

-- terms that are equal below n
pub sum_below_lem : (f g : ℕ → ℕ) (n : ℕ) → ((k : ℕ) → k < n → f k ≡ g k) → sum f (below n) ≡ sum g (below n)
sum_below_lem f g n h = sum_every (λ k. k < n) f g h (below n) (every_below n)

module _ (f g : ℕ → ℕ) (n j : ℕ) (low : j < n) where
  -- terms that are equal but for one
  change : ((k : ℕ) → (k ≡ j → ⊥) → f k ≡ g k) → sum f (below n) + g j ≡ sum g (below n) + f j
  change h =
      let a = below_amid n j low in
      omega (
        arith,
        ap (sum f) a.split,
        ap (sum g) a.split,
        sum-append f a.front (j ∷ a.back),
        sum-append g a.front (j ∷ a.back),
        sum_every (λ k. k ≡ j → ⊥) f g h a.front a.front_others,
        sum_every (λ k. k ≡ j → ⊥) f g h a.back a.back_others,
      )

-- terms below n that are equal but for one
pub sum_change : (f g : ℕ → ℕ) (n j : ℕ) → j < n → ((k : ℕ) → k < n → (k ≡ j → ⊥) → f k ≡ g k) → sum f (below n) + g j ≡ sum g (below n) + f j
sum_change f g n j low h =
    omega (arith, change f only n j low (λ k d. other k d (ltb k n) refl), sum_below_lem only g n (λ k l. ap (λ (b : Bool). cond b (g k) (f k)) (lt-ltb k n l)), ap (λ (b : Bool). cond b (g j) (f j)) (lt-ltb j n low))
  where
    only : ℕ → ℕ
    only k = cond (ltb k n) (g k) (f k)

    other : (k : ℕ) → (k ≡ j → ⊥) → (b : Bool) → ltb k n ≡ b → f k ≡ cond b (g k) (f k)
    other k d true q = h k (ltb-true k n q) d
    other k d false q = refl

-- a term is at most the sum
pub sum_term : (f : ℕ → ℕ) (n j : ℕ) → j < n → f j ≤ sum f (below n)
sum_term f n j low = let a = below_amid n j low in omega (arith, ap (sum f) a.split, sum-append f a.front (j ∷ a.back))

-- ---- the first arrival of a train

-- the first of two, if there is one
abbrev pub or_else : Option ℕ → Option ℕ → Option ℕ
or_else none b = b
or_else (some t) b = some t

pub or_else-none : (a : Option ℕ) → or_else a none ≡ a
or_else-none none = refl
or_else-none (some t) = refl

pub minute_of-append : (j : ℕ) (v x : List (Arrival Mark)) → minute_of j (v ++ x) ≡ or_else (minute_of j v) (minute_of j x)
minute_of-append j [] x = refl
minute_of-append j (m ∷ v) x = go (eqb m.who.train j) (minute_of-append j v x)
  where
    go : (b : Bool) → minute_of j (v ++ x) ≡ or_else (minute_of j v) (minute_of j x)
        → cond b (some m.minute) (minute_of j (v ++ x)) ≡ or_else (cond b (some m.minute) (minute_of j v)) (minute_of j x)
    go true h = refl
    go false h = h

-- a list of one arrival, some times over
pub minute_of-same : (j : ℕ) (a : Arrival Mark) (x : List (Arrival Mark)) → Every (λ m. m ≡ a) x
    → minute_of j x ≡ cond (eqb a.who.train j && ltb 0 (length x)) (some a.minute) none
minute_of-same j a [] h = go (eqb a.who.train j)
  where
    go : (b : Bool) → none ≡ cond (b && ltb 0 0) (some a.minute) none
    go true = refl
    go false = refl
minute_of-same j a (m ∷ x) h =
    ap (λ (q : Arrival Mark). cond (eqb q.who.train j) (some q.minute) (minute_of j x)) h.0 ∙ go (eqb a.who.train j) refl (minute_of-same j a x h.1)
  where
    go : (b : Bool) → eqb a.who.train j ≡ b → minute_of j x ≡ cond (eqb a.who.train j && ltb 0 (length x)) (some a.minute) none
        → cond b (some a.minute) (minute_of j x) ≡ cond (b && ltb 0 (suc (length x))) (some a.minute) none
    go true q h = ap (λ (z : Bool). cond z (some a.minute) none) (sym (lt-ltb 0 (suc (length x)) (omega arith)))
    go false q h = h ∙ ap (λ (z : Bool). cond (z && ltb 0 (length x)) (some a.minute) none) q
