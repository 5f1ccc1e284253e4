-- The first list: its covers are parts of the whole cover, a choice sees each train waiting once, due by its own delay, and those marks are in order.
-- Of a train's entries the one with the choice's delay alone covers the choice. Takes `Sound` as given, and assumes nothing else.
use Rattle.std.specs.Prelude.{◌≡◌, Bool, ◌&&◌, ◌||◌, ℕ, zero, suc, ◌+◌, ◌≤◌, ◌<◌, get_or, set, eqb}
use Rattle.std.proofs.Math.Path.{refl, ap}
use Rattle.std.proofs.Common.{sym, ◌∙◌, subst, le_of_eq}
use Rattle.std.proofs.Math.Bool.{true, false}
use Rattle.std.proofs.lemmas.Bool.{false≢true}
use mathlib.Core.List.{List, [], ◌∷◌, map}
use Rattle.std.proofs.Math.Nat.{le_trans}
use native.Mathlib.Omega.{arith}
use Rattle.std.proofs.Math.ListN.{length, get_or-map}
use Rattle.std.proofs.lemmas.List.{length-map}
use Rattle.std.proofs.Math.Dec.{ltb}
use borrow.Author.Tests.{ltb-true, eq-eqb, ne_eqb}
use Rattle.rules.specs.Lists.{one, tick, sum, count, below, has}
use Rattle.rules.specs.Files.{Pair, Case}
use Rattle.rules.specs.Turns.{Place, same, Mark, last_station}
use Rattle.rules.specs.Turns.Place.{outside}
use Rattle.rules.specs.Single.{waits, first_marks}
use Rattle.rules.specs.Joint.{is_empty, covers, whole, entry, first_list}
use Rattle.rules.specs.Demands.{Choice, view, is_standing}
use Rattle.theory_sound.specs.Facts.{Sound}
use Rattle.theory_lists.specs.Each.{each_map, each-each, each_self, each-alone}
use Rattle.theory_lists.specs.Every.{each_every, Every, every_map, every_each, every_all}
use Rattle.theory_lists.specs.Sums.{tick-le, sum-map, sum_every, sum-zero}
use Rattle.theory_lists.specs.Below.{each-below_in, has-below, below-has, every_below, sum-below-le, sum-below_in}
use Rattle.theory_simulation.specs.Covers.{covers_at, covers-set}
use Rattle.theory_simulation.specs.Parts.{Part, Parts, parts-set}
use Rattle.theory_sound.specs.Ways.{same_true, same_self}
use Rattle.theory_simulation.specs.Orderly.{is_on, to_go, is_before, reach, Orderly}
use Rattle.theory_simulation.specs.Serving.{Proper}

-- ---- the whole set of a train

below-part : (n : ℕ) → 1 ≤ n → Part (below n) (below n)
below-part n h = record {
  filled = go n h;
  listed =
      each_every (λ k. k < n) (λ k. one (has (below n) k) k) (λ k. k ∷ []) (λ k l. ap (λ (z : Bool). one z k) (has-below n k l)) (below n) (every_below n)
      ∙ each_self (below n);
}
  where
    go : (n : ℕ) → 1 ≤ n → is_empty (below n) ≡ false
    go zero h = absurd (omega arith)
    go (suc n) h = refl

-- a delay alone
alone-part : (n d : ℕ) → d < n → Part (below n) (d ∷ [])
alone-part n d h = record {
  filled = refl;
  listed =
      each-below_in (λ k. one (eqb k d || false) k) d (λ k q. ap (λ (z : Bool). one (z || false) k) (ne_eqb k d q)) n h
      ∙ ap (λ (z : Bool). one (z || false) d) (eq-eqb d d refl);
}

-- ---- the first covers

whole_parts : (ts : List (List Pair)) → ((k : ℕ) → k < length ts → 1 ≤ length (get_or ts k []))
    → Parts (map (λ pairs. below (length pairs)) ts) (map (λ pairs. below (length pairs)) ts)
whole_parts [] h = tt
whole_parts (t ∷ ts) h = (below-part (length t) (h 0 (omega arith)), whole_parts ts (λ k l. h (suc k) (omega arith)))

-- a train's whole set: the indices of its table
pub whole-at : (C : Case) (k : ℕ) → get_or (whole C) k [] ≡ below (length (get_or C.tables k []))
unfolding whole
whole-at C k = get_or-map (λ pairs. below (length pairs)) C.tables k []

pub whole_length : (C : Case) → length (whole C) ≡ length C.tables
unfolding whole
whole_length C = length-map C.tables (λ pairs. below (length pairs))

module _ (C : Case) (sound : Sound C) where
  pub first-proper : Every (Proper C) (first_list C)
  unfolding first_list whole
  first-proper =
      every_each (λ k. k < length C.trains) (Proper C) (λ k. map (λ d. entry (waits C k d) (set (whole C) k (d ∷ []))) (below (length (get_or C.tables k []))))
      (λ k h. every_map (λ d. d < length (get_or C.tables k [])) (Proper C) (λ d. entry (waits C k d) (set (whole C) k (d ∷ [])))
      (λ d l. parts-set (whole C) (whole C) (whole_parts C.tables (λ j i. sound.some_pair j (le_trans i (le_of_eq sound.tabled))))
      k (d ∷ []) (subst (λ (w : List ℕ). Part w (d ∷ [])) (sym (whole-at C k)) (alone-part (length (get_or C.tables k [])) d l)))
      (below (length (get_or C.tables k []))) (every_below (length (get_or C.tables k []))))
      (below (length C.trains)) (every_below (length C.trains))

-- ---- the first marks that a choice sees

module _ (C : Case) (sound : Sound C) (x : List ℕ) (ch : Choice C x) where
  in_tables : (k : ℕ) → k < length C.trains → k < length (whole C)
  in_tables k h = omega (arith, whole_length C, sound.tabled)

  -- the choice's delay of a train is one of its table
  pub choice-at : (k : ℕ) → k < length C.trains → get_or x k 0 < length (get_or C.tables k [])
  choice-at k h =
      below-has (length (get_or C.tables k [])) (get_or x k 0)
      (subst (λ (s : List ℕ). has s (get_or x k 0) ≡ true) (whole-at C k) (covers_at (whole C) x ch k (in_tables k h)))

  -- of a train's first entries the choice sees its own
  first-train : (k : ℕ) → k < length C.trains
      → view x (map (λ d. entry (waits C k d) (set (whole C) k (d ∷ []))) (below (length (get_or C.tables k [])))) ≡ waits C k (get_or x k 0) ∷ []
  unfolding view
  first-train k h =
      each_map (λ r. one (covers r.cover x) r.mark) (λ d. entry (waits C k d) (set (whole C) k (d ∷ []))) (below (length (get_or C.tables k [])))
      ∙ each-below_in (λ d. one (covers (set (whole C) k (d ∷ [])) x) (waits C k d)) (get_or x k 0)
      (λ d q. ap (λ (z : Bool). one z (waits C k d)) (own d ∙ ap (λ (z : Bool). z || false) (ne_eqb (get_or x k 0) d (λ r. q (sym r)))))
      (length (get_or C.tables k [])) (choice-at k h)
      ∙ ap (λ (z : Bool). one z (waits C k (get_or x k 0))) (own (get_or x k 0) ∙ ap (λ (z : Bool). z || false) (eq-eqb (get_or x k 0) (get_or x k 0) refl))
    where
      own : (d : ℕ) → covers (set (whole C) k (d ∷ [])) x ≡ (eqb (get_or x k 0) d || false)
      own d = covers-set (whole C) x ch k (in_tables k h) (d ∷ [])

  pub first-view : view x (first_list C) ≡ first_marks C x
  unfolding view first_list first_marks
  first-view =
      each-each (λ r. one (covers r.cover x) r.mark) (λ k. map (λ d. entry (waits C k d) (set (whole C) k (d ∷ []))) (below (length (get_or C.tables k []))))
      (below (length C.trains))
      ∙ each_every (λ k. k < length C.trains)
      (λ k. view x (map (λ d. entry (waits C k d) (set (whole C) k (d ∷ []))) (below (length (get_or C.tables k []))))) (λ k. waits C k (get_or x k 0) ∷ [])
      first-train (below (length C.trains)) (every_below (length C.trains))
      ∙ each-alone (λ k. waits C k (get_or x k 0)) (below (length C.trains))

-- ---- the first marks are in order

module _ (C : Case) (x : List ℕ) where
  -- a sum over the first marks in which one train alone counts
  module _ (f : Mark → ℕ) (j : ℕ) (other : (k : ℕ) → (k ≡ j → ⊥) → f (waits C k (get_or x k 0)) ≡ 0) where
    first-le : sum f (first_marks C x) ≤ f (waits C j (get_or x j 0))
    unfolding first_marks
    first-le =
        le_trans (le_of_eq (sum-map f (λ k. waits C k (get_or x k 0)) (below (length C.trains))))
        (sum-below-le (λ k. f (waits C k (get_or x k 0))) j other (length C.trains))

    first_in : j < length C.trains → sum f (first_marks C x) ≡ f (waits C j (get_or x j 0))
    unfolding first_marks
    first_in h =
        sum-map f (λ k. waits C k (get_or x k 0)) (below (length C.trains))
        ∙ sum-below_in (λ k. f (waits C k (get_or x k 0))) j other (length C.trains) h

  first-known : Every (λ m. m.train < length C.trains) (first_marks C x)
  unfolding first_marks waits
  first-known =
      every_map (λ k. k < length C.trains) (λ m. m.train < length C.trains) (λ k. waits C k (get_or x k 0)) (λ k h. h)
      (below (length C.trains)) (every_below (length C.trains))

  first-standing : (j : ℕ) → j < length C.trains → count (is_standing j) (first_marks C x) ≡ 1
  unfolding waits
  first-standing j h =
      first_in (λ m. tick (is_standing j m)) j (λ k q. ap (λ (z : Bool). tick (z && true)) (ne_eqb k j q)) h
      ∙ ap (λ (z : Bool). tick (z && true)) (eq-eqb j j refl)

  first_reach : (j : ℕ) (p : Place) → sum (reach C j p) (first_marks C x) ≤ 1
  unfolding waits
  first_reach j p =
      le_trans (first-le (reach C j p) j (λ k q. ap (λ (z : Bool). tick (z && same outside p) + tick (z && true && ltb (to_go C j p) (to_go C j outside))) (ne_eqb k j q)))
      (go (eqb j j) (same outside p) (ltb (to_go C j p) (to_go C j outside)) refl refl)
    where
      go : (a b c : Bool) → same outside p ≡ b → ltb (to_go C j p) (to_go C j outside) ≡ c → tick (a && b) + tick (a && true && c) ≤ 1
      go true true true q r = absurd (omega (arith, ap (to_go C j) (same_true outside p q), ltb-true (to_go C j p) (to_go C j outside) r))
      go true true false q r = omega arith
      go true false c q r = omega (arith, tick-le c)
      go false b c q r = omega arith

  pub first-within : (p : Place) → same p outside ≡ false → count (is_on p) (first_marks C x) ≡ 0
  unfolding first_marks waits
  first-within p h =
      sum-map (λ m. tick (is_on p m)) (λ k. waits C k (get_or x k 0)) (below (length C.trains))
      ∙ sum_every (λ k. Unit) (λ k. tick (same outside p)) (λ k. 0) (λ k u. go (same outside p) refl) (below (length C.trains))
      (every_all (λ k. Unit) (λ k. tt) (below (length C.trains)))
      ∙ sum-zero (below (length C.trains))
    where
      go : (b : Bool) → same outside p ≡ b → tick b ≡ 0
      go true q = absurd (false≢true (sym h ∙ ap (λ (d : Place). same p d) (same_true outside p q) ∙ same_self p))
      go false q = refl

  first-before : (j : ℕ) → count (is_before C j (last_station C j)) (first_marks C x) ≤ 1
  unfolding waits
  first-before j =
      le_trans
      (first-le (λ m. tick (is_before C j (last_station C j) m)) j
      (λ k q. ap (λ (z : Bool). tick (z && true && ltb (to_go C j (last_station C j)) (to_go C j outside))) (ne_eqb k j q)))
      (tick-le (is_before C j (last_station C j) (waits C j (get_or x j 0))))

  pub first-orderly : Orderly C (first_marks C x) []
  first-orderly = record {
    known = first-known;
    stands_once = first-standing;
    reach_once = first_reach;
    within = λ p out way. omega (arith, first-within p out);
    arrives_once = λ j. omega (arith, first-before j);
  }
