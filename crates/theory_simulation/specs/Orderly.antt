-- What the single run keeps: each train stands once, no train is twice on an element, no element is over its capacity, each train arrives at most once.
-- Each is a sum over the marks, and what a train has ahead of it counts as much there as what it is on. Assumes nothing.
use Rattle.std.specs.Prelude.{◌≡◌, refl, Bool, true, false, not, ◌&&◌, List, ℕ, ◌+◌, ◌≤◌, ◌<◌, ltb, eqb}
use Rattle.std.proofs.Common.{sym, ◌∙◌, le_trans, arith, eq-eqb, ne_eqb}
use Rattle.std.proofs.Math.Path.{ap}
use Rattle.std.proofs.Math.ListN.{length}
use Rattle.rules.specs.Lists.{any, tick, sum, count, below}
use Rattle.rules.specs.Files.{Case}
use Rattle.rules.specs.Turns.{Place, same, Mark, ahead, last_station, capacity, Arrival}
use Rattle.rules.specs.Turns.Place.{outside, gone}
use Rattle.rules.specs.Single.{trains_on}
use Rattle.rules.specs.Demands.{is_standing, is_at}
use Rattle.theory_lists.specs.Every.{Every, every_all}
use Rattle.theory_lists.specs.Sums.{sum_same, sum_every, sum_less, sum_plus, sum_swap, count-any}
use Rattle.theory_lists.specs.Below.{sum-below_in}

-- ---- what is counted

-- the mark is on the place
abbrev pub is_on : Place → Mark → Bool
is_on p m = same m.place p

-- how much of its way a train has ahead of it at a place
abbrev pub to_go : Case → ℕ → Place → ℕ
to_go C j p = length (ahead C j p)

-- the train stands, and has yet to come to the place
abbrev pub is_before : Case → ℕ → Place → Mark → Bool
is_before C j p m = is_standing j m && ltb (to_go C j p) (to_go C j m.place)

-- the place of a mark, and each place that its train has yet to come to
abbrev pub reach : Case → ℕ → Place → Mark → ℕ
reach C j p m = tick (is_at j p m) + tick (is_before C j p m)

-- another train than k is on the place
abbrev pub is_other : ℕ → Place → Mark → Bool
is_other k p m = not (eqb m.train k) && same m.place p

-- the marks on a place are other trains' and the train's own
pub on-split : (k : ℕ) (p : Place) (ms : List Mark) → count (is_on p) ms ≡ count (is_other k p) ms + count (is_at k p) ms
on-split k p ms =
    sum_same (λ m. tick (is_on p m)) (λ m. tick (is_other k p m) + tick (is_at k p m)) (λ m. go (eqb m.train k) (same m.place p)) ms
    ∙ sum_plus (λ m. tick (is_other k p m)) (λ m. tick (is_at k p m)) ms
  where
    go : (y z : Bool) → tick z ≡ tick (not y && z) + tick (y && z)
    go true z = omega arith
    go false z = omega arith

-- the marks ms after which v have arrived are in order
pub record Orderly (C : Case) (ms : List Mark) (v : List (Arrival Mark)) : Type 0 where
  pub known : Every (λ m. m.train < length C.trains) ms
  pub stands_once : (j : ℕ) → j < length C.trains → count (is_standing j) ms ≡ 1
  pub reach_once : (j : ℕ) (p : Place) → sum (reach C j p) ms ≤ 1
  pub within : (p : Place) → same p outside ≡ false → same p gone ≡ false → count (is_on p) ms ≤ capacity C p
  pub arrives_once : (j : ℕ) → count (λ a. eqb a.who.train j) v + count (is_before C j (last_station C j)) ms ≤ 1

-- ---- what follows from order

module _ (C : Case) (ms : List Mark) (v : List (Arrival Mark)) (o : Orderly C ms v) where
  -- no train is twice on a place
  pub at_once : (j : ℕ) (p : Place) → count (is_at j p) ms ≤ 1
  at_once j p = le_trans (sum_less (λ m. tick (is_at j p m)) (reach C j p) (λ m. omega arith) ms) (o.reach_once j p)

  -- so there are as many trains on a place as marks
  pub trains_on-count : (e : Place) → trains_on C e ms ≡ count (is_on e) ms
  unfolding trains_on
  trains_on-count e =
      sum_every (λ j. Unit) (λ j. tick (any (is_at j e) ms)) (λ j. count (is_at j e) ms) (λ j u. count-any (is_at j e) ms (at_once j e))
      (below (length C.trains)) (every_all (λ j. Unit) (λ j. tt) (below (length C.trains)))
      ∙ sum_swap (λ j m. tick (is_at j e m)) (below (length C.trains)) ms
      ∙ sum_every (λ m. m.train < length C.trains) (λ m. sum (λ j. tick (is_at j e m)) (below (length C.trains))) (λ m. tick (is_on e m)) alone ms o.known
    where
      alone : (m : Mark) → m.train < length C.trains → sum (λ j. tick (is_at j e m)) (below (length C.trains)) ≡ tick (is_on e m)
      alone m h =
          sum-below_in (λ j. tick (is_at j e m)) m.train (λ j q. ap (λ (z : Bool). tick (z && same m.place e)) (ne_eqb m.train j (λ r. q (sym r)))) (length C.trains) h
          ∙ ap (λ (z : Bool). tick (z && same m.place e)) (eq-eqb m.train m.train refl)

  pub arrived-once : (j : ℕ) → count (λ a. eqb a.who.train j) v ≤ 1
  arrived-once j = omega (arith, o.arrives_once j)
