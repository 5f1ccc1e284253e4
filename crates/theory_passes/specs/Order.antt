-- The trains by priority, then number: `order` has each train of the case, and each goes before all that stand after it.
-- A train that is put among trains of lower number goes before those of greater priority number and after all others. Assumes nothing.
use Rattle.std.specs.Prelude.{◌≡◌, refl, Bool, true, false, ◌&&◌, ◌||◌, cond, ℕ, zero, suc, ◌+◌, ◌≤◌, ◌<◌, length, ltb, eqb}
use Rattle.std.proofs.Common.{sym, ap, ◌∙◌, subst, arith, ltb-true, ltb-false, lt-ltb, eqb-true, eq-eqb}
use Rattle.std.proofs.lemmas.Bool.{false≢true, eqb-false}
use Rattle.std.proofs.Math.Bool.{or-true}
use mathlib.Core.List.{List, [], ◌∷◌}
use Rattle.rules.specs.Lists.{fold, span, has}
use Rattle.rules.specs.Files.{Case}
use Rattle.rules.specs.Turns.{Mark, stands, train_at, sooner}
use Rattle.rules.specs.Turns.Place.{outside}
use Rattle.theory_codes.specs.Tables.{insert, order}
use Rattle.theory_lists.specs.Every.{Every, every_more, has_every}
use Rattle.theory_simulation.specs.Askers.{sooner_asym}

-- ---- one train before another

-- train j goes before train k
abbrev pub earlier : Case → ℕ → ℕ → Bool
earlier C j k = sooner C (stands j outside 0) (stands k outside 0)

-- the order of marks is the order of their trains
pub sooner-trains : (C : Case) (a b : Mark) → sooner C a b ≡ earlier C a.train b.train
unfolding sooner
sooner-trains C a b = refl

pub earlier_asym : (C : Case) (j k : ℕ) → earlier C j k ≡ true → earlier C k j ≡ false
earlier_asym C j k h = sooner_asym C (stands j outside 0) (stands k outside 0) h

pub earlier_self : (C : Case) (k : ℕ) → earlier C k k ≡ false
earlier_self C k = go (earlier C k k) refl
  where
    go : (b : Bool) → earlier C k k ≡ b → b ≡ false
    go true h = sym h ∙ earlier_asym C k k h
    go false h = refl

abbrev priority_of : Case → ℕ → ℕ
priority_of C k = (train_at C k).priority

earlier-priority : (C : Case) (j k : ℕ) → earlier C j k ≡ true → priority_of C j ≤ priority_of C k
unfolding sooner
earlier-priority C j k h = go (ltb (priority_of C j) (priority_of C k)) (eqb (priority_of C j) (priority_of C k)) refl refl h
  where
    go : (a b : Bool) → ltb (priority_of C j) (priority_of C k) ≡ a → eqb (priority_of C j) (priority_of C k) ≡ b → (a || (b && ltb j k)) ≡ true
        → priority_of C j ≤ priority_of C k
    go true b f g h = let l : priority_of C j < priority_of C k = ltb-true (priority_of C j) (priority_of C k) f in omega arith
    go false true f g h = omega (arith, eqb-true (priority_of C j) (priority_of C k) g)
    go false false f g h = absurd (false≢true h)

-- a lower priority number goes first
priority-earlier : (C : Case) (j k : ℕ) → priority_of C j < priority_of C k → earlier C j k ≡ true
unfolding sooner
priority-earlier C j k h = ap (λ (z : Bool). z || (eqb (priority_of C j) (priority_of C k) && ltb j k)) (lt-ltb (priority_of C j) (priority_of C k) h)

-- and so does a lower train number, where the priority is no greater
number-earlier : (C : Case) (j k : ℕ) → priority_of C j ≤ priority_of C k → j < k → earlier C j k ≡ true
unfolding sooner
number-earlier C j k h l = go (eqb (priority_of C j) (priority_of C k)) refl
  where
    go : (b : Bool) → eqb (priority_of C j) (priority_of C k) ≡ b → (ltb (priority_of C j) (priority_of C k) || (b && ltb j k)) ≡ true
    go true q = ap (λ (z : Bool). ltb (priority_of C j) (priority_of C k) || z) (lt-ltb j k l) ∙ or-true (ltb (priority_of C j) (priority_of C k))
    go false q = ap (λ (z : Bool). z || false) (lt-ltb (priority_of C j) (priority_of C k) (less (eqb-false (priority_of C j) (priority_of C k) q)))
      where
        less : (priority_of C j ≡ priority_of C k → ⊥) → priority_of C j < priority_of C k
        less d = omega arith

-- ---- trains in order

-- each goes before all after it
abbrev pub Ordered : Case → List ℕ → Type 0
Ordered C [] = Unit
Ordered C (k ∷ ks) = Every (λ j. earlier C k j ≡ true) ks × Ordered C ks

-- no train stands after itself
pub ordered-once : (C : Case) (k : ℕ) (ks : List ℕ) → Ordered C (k ∷ ks) → has ks k ≡ false
ordered-once C k ks h = go (has ks k) refl
  where
    go : (b : Bool) → has ks k ≡ b → b ≡ false
    go true q = absurd (false≢true (sym (earlier_self C k) ∙ has_every (λ j. earlier C k j ≡ true) ks k h.0 q))
    go false q = refl

-- ---- putting a train among others

insert_every : (P : ℕ → Type 0) (C : Case) (k : ℕ) (l : List ℕ) → P k → Every P l → Every P (insert C k l)
insert_every P C k [] p h = (p, tt)
insert_every P C k (j ∷ l) p h = go (ltb (priority_of C k) (priority_of C j)) (insert_every P C k l p h.1)
  where
    go : (b : Bool) → Every P (insert C k l) → Every P (cond b (k ∷ j ∷ l) (j ∷ insert C k l))
    go true ih = (p, (h.0, h.1))
    go false ih = (h.0, ih)

insert-ordered : (C : Case) (k : ℕ) (l : List ℕ) → Every (λ j. j < k) l → Ordered C l → Ordered C (insert C k l)
insert-ordered C k [] h o = (tt, tt)
insert-ordered C k (j ∷ l) h o = go (ltb (priority_of C k) (priority_of C j)) refl (insert-ordered C k l h.1 o.1)
  where
    go : (b : Bool) → ltb (priority_of C k) (priority_of C j) ≡ b → Ordered C (insert C k l) → Ordered C (cond b (k ∷ j ∷ l) (j ∷ insert C k l))
    go true q ih =
        let less : priority_of C k < priority_of C j = ltb-true (priority_of C k) (priority_of C j) q in
        ((priority-earlier C k j less, every_more (λ i. earlier C j i ≡ true) (λ i. earlier C k i ≡ true) (λ i f. priority-earlier C k i (omega (arith, earlier-priority C j i f))) l o.0), o)
    go false q ih =
        (insert_every (λ i. earlier C j i ≡ true) C k l (number-earlier C j k (ltb-false (priority_of C k) (priority_of C j) q) h.0) o.0, ih)

insert_self : (C : Case) (k : ℕ) (l : List ℕ) → has (insert C k l) k ≡ true
insert_self C k [] = ap (λ (z : Bool). z || false) (eq-eqb k k refl)
insert_self C k (j ∷ l) = go (ltb (priority_of C k) (priority_of C j)) (insert_self C k l)
  where
    go : (b : Bool) → has (insert C k l) k ≡ true → has (cond b (k ∷ j ∷ l) (j ∷ insert C k l)) k ≡ true
    go true ih = ap (λ (z : Bool). z || has (j ∷ l) k) (eq-eqb k k refl)
    go false ih = ap (λ (z : Bool). eqb k j || z) ih ∙ or-true (eqb k j)

insert-others : (C : Case) (k : ℕ) (l : List ℕ) (i : ℕ) → has l i ≡ true → has (insert C k l) i ≡ true
insert-others C k [] i h = absurd (false≢true h)
insert-others C k (j ∷ l) i h = go (ltb (priority_of C k) (priority_of C j)) (insert-others C k l i)
  where
    at_head : (a : Bool) → (a || has l i) ≡ true → (has l i ≡ true → has (insert C k l) i ≡ true) → (a || has (insert C k l) i) ≡ true
    at_head true h ih = refl
    at_head false h ih = ih h

    go : (b : Bool) → (has l i ≡ true → has (insert C k l) i ≡ true) → has (cond b (k ∷ j ∷ l) (j ∷ insert C k l)) i ≡ true
    go true ih = ap (λ (z : Bool). eqb i k || z) h ∙ or-true (eqb i k)
    go false ih = at_head (eqb i j) h ih

insert-length : (C : Case) (k : ℕ) (l : List ℕ) → length (insert C k l) ≡ suc (length l)
insert-length C k [] = refl
insert-length C k (j ∷ l) = go (ltb (priority_of C k) (priority_of C j)) (insert-length C k l)
  where
    go : (b : Bool) → length (insert C k l) ≡ suc (length l) → length (cond b (k ∷ j ∷ l) (j ∷ insert C k l)) ≡ suc (suc (length l))
    go true ih = refl
    go false ih = ap suc ih

-- ---- the order of a case

-- trains from i on, put among the trains l of lower number
record Placed (C : Case) (n i : ℕ) (l r : List ℕ) : Type 0 where
  ordered : Ordered C r
  known : Every (λ j. j < n + i) r
  kept : (j : ℕ) → has l j ≡ true → has r j ≡ true
  each_one : (j : ℕ) → i ≤ j → j < n + i → has r j ≡ true
  longer : length r ≡ n + length l

placed : (C : Case) (n i : ℕ) (l : List ℕ) → Ordered C l → Every (λ j. j < i) l → Placed C n i l (fold (insert C) (span n i) l)
placed C zero i l o h = record {
  ordered = o;
  known = every_more (λ j. j < i) (λ j. j < 0 + i) (λ j q. omega arith) l h;
  kept = λ j q. q;
  each_one = λ j q r. absurd (omega arith);
  longer = omega arith;
}
placed C (suc n) i l o h = go (placed C n (suc i) (insert C i l) (insert-ordered C i l h o) (insert_every (λ j. j < suc i) C i l (omega arith) (every_more (λ j. j < i) (λ j. j < suc i) (λ j q. omega arith) l h)))
  where
    go : Placed C n (suc i) (insert C i l) (fold (insert C) (span n (suc i)) (insert C i l)) → Placed C (suc n) i l (fold (insert C) (span n (suc i)) (insert C i l))
    go p = record {
      ordered = p.ordered;
      known = every_more (λ j. j < n + suc i) (λ j. j < suc n + i) (λ j q. omega arith) (fold (insert C) (span n (suc i)) (insert C i l)) p.known;
      kept = λ j q. p.kept j (insert-others C i l j q);
      each_one = λ j q r. at j q r (eqb i j) refl;
      longer = omega (arith, p.longer, insert-length C i l);
    }
      where
        at : (j : ℕ) → i ≤ j → j < suc n + i → (b : Bool) → eqb i j ≡ b → has (fold (insert C) (span n (suc i)) (insert C i l)) j ≡ true
        at j q r true f = p.kept j (subst (λ (k : ℕ). has (insert C i l) k ≡ true) (eqb-true i j f) (insert_self C i l))
        at j q r false f = p.each_one j (less (eqb-false i j f)) (omega arith)
          where
            less : (i ≡ j → ⊥) → suc i ≤ j
            less d = omega arith

module _ (C : Case) where
  all_placed : Placed C (length C.trains) 0 [] (order C)
  unfolding order
  all_placed = placed C (length C.trains) 0 [] tt tt

  -- each train of the order goes before all after it, so none stands twice
  pub order-ordered : Ordered C (order C)
  order-ordered = all_placed.ordered

  -- only trains of the case stand in the order
  pub order-known : Every (λ k. k < length C.trains) (order C)
  order-known = every_more (λ j. j < length C.trains + 0) (λ k. k < length C.trains) (λ j h. omega arith) (order C) all_placed.known

  -- and each of them does
  pub order-has : (k : ℕ) → k < length C.trains → has (order C) k ≡ true
  order-has k h = all_placed.each_one k (omega arith) (omega arith)

  pub order-length : length (order C) ≡ length C.trains
  order-length = omega (arith, all_placed.longer)
