-- Those of a list that pass a test, and the one that does. Each law is an induction on the list. Assumes nothing.
use Rattle.std.specs.Prelude.{◌≡◌, refl, Bool, true, false, not, List, [], ◌∷◌, ◌++◌, ◌+◌, ◌≤◌}
use Rattle.std.proofs.Common.{ap, ◌∙◌, arith}
use Rattle.rules.specs.Lists.{one, keep, tick, count}
use Rattle.theory_lists.specs.Each.{each_none, each_self}
use Rattle.theory_lists.specs.Every.{Every, each_every, every_each, every_one, every_all}
use Rattle.theory_lists.specs.Sums.{count_none}

-- those that are kept pass the test
pub keep-passes : {A : Type 0} (test : A → Bool) (l : List A) → Every (λ a. test a ≡ true) (keep test l)
keep-passes test l =
    every_each (λ a. Unit) (λ a. test a ≡ true) (λ a. one (test a) a) (λ a u. every_one (λ b. test b ≡ true) (test a) a (λ q. q)) l (every_all (λ a. Unit) (λ a. tt) l)

pub keep-none : {A : Type 0} (test : A → Bool) (l : List A) → Every (λ a. test a ≡ false) l → keep test l ≡ []
keep-none test l h = each_every (λ a. test a ≡ false) (λ a. one (test a) a) (λ a. []) (λ a q. ap (λ (z : Bool). one z a) q) l h ∙ each_none l

pub keep-others : {A : Type 0} (test : A → Bool) (l : List A) → Every (λ a. test a ≡ false) l → keep (λ a. not (test a)) l ≡ l
keep-others test l h = each_every (λ a. test a ≡ false) (λ a. one (not (test a)) a) (λ a. a ∷ []) (λ a q. ap (λ (z : Bool). one (not z) a) q) l h ∙ each_self l

-- one passes the test and the others do not
pub record One {A : Type 0} (test : A → Bool) (l : List A) : Type 0 where
  pub front : List A
  pub the : A
  pub back : List A
  pub split : l ≡ front ++ (the ∷ back)
  pub passes : test the ≡ true
  pub front_none : Every (λ a. test a ≡ false) front
  pub back_none : Every (λ a. test a ≡ false) back

-- none passes the test, or one
pub data AtMostOne {A : Type 0} (test : A → Bool) (l : List A) : Type 0 where
  none : Every (λ a. test a ≡ false) l → AtMostOne test l
  single : One test l → AtMostOne test l

pub at_most_one : {A : Type 0} (test : A → Bool) (l : List A) → count test l ≤ 1 → AtMostOne test l
at_most_one test [] h = none tt
at_most_one {A = A} test (a ∷ l) h = go (test a) refl h (at_most_one test l)
  where
    more : test a ≡ false → AtMostOne test l → AtMostOne test (a ∷ l)
    more q (none n) = none (q, n)
    more q (single o) = single record {
      front = a ∷ o.front;
      the = o.the;
      back = o.back;
      split = ap (λ (z : List A). a ∷ z) o.split;
      passes = o.passes;
      front_none = (q, o.front_none);
      back_none = o.back_none;
    }

    go : (b : Bool) → test a ≡ b → tick b + count test l ≤ 1 → (count test l ≤ 1 → AtMostOne test l) → AtMostOne test (a ∷ l)
    go true q h ih = single record { front = []; the = a; back = l; split = refl; passes = q; front_none = tt; back_none = count_none test l (omega arith) }
    go false q h ih = more q (ih (omega arith))
