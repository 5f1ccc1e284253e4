-- Demand 3 about the definitions: for a sound case, every choice x and every minute m, what x sees of the joint run is the single run of x, in order.
-- Both runs start alike and go on alike, turn by turn (`run_twin`), and the sums of `Orderly` and `never_both` say the rest. Takes `Sound` as given, and assumes
-- nothing else.
use Rattle.std.specs.Prelude.{◌≡◌, refl, Bool, true, false, not, ◌&&◌, List, [], map, ℕ, ◌≤◌, ◌<◌, length, get_or, eqb}
use Rattle.std.proofs.Common.{sym, ap, ◌∙◌, subst, le_trans, le_of_eq, le_refl, arith}
use Rattle.std.proofs.lemmas.List.{length-map}
use Rattle.rules.specs.Lists.{keep, count, below, has}
use Rattle.rules.specs.Files.{Case}
use Rattle.rules.specs.Turns.{Place, same, Mark, elements, capacity, ended, State}
use Rattle.rules.specs.Turns.Place.{outside, station, track, gone}
use Rattle.rules.specs.Single.{first_marks, trains_on, single}
use Rattle.rules.specs.Joint.{Cover, is_empty, covers, whole, Entry, first_list, joint_rules, joint}
use Rattle.rules.specs.Demands.{Choice, view, is_at, is_standing, Simulates}
use Rattle.theory_sound.specs.Facts.{Sound}
use Rattle.theory_lists.specs.Every.{Every, every_more, every_keep, every_all}
use Rattle.theory_lists.specs.Sums.{length-keep, length-one}
use Rattle.theory_lists.specs.Below.{below-has, below-once}
use Rattle.theory_simulation.specs.Keeping.{run_keeps}
use Rattle.theory_simulation.specs.Orderly.{Orderly, at_once, trains_on-count, arrived-once}
use Rattle.theory_simulation.specs.Parts.{Part, parts-length, parts_at, part-within, part-once}
use Rattle.theory_simulation.specs.View.{view-keep}
use Rattle.theory_simulation.specs.Serving.{Proper, serve-proper}
use Rattle.theory_simulation.specs.Start.{whole-at, whole_length, first-proper, first-view, first-orderly}
use Rattle.theory_simulation.specs.Meeting.{never_both}
use Rattle.theory_simulation.specs.Runs.{Twin, run_twin}

-- ---- the covers of the joint run

-- one set per train, none empty, each of delays of the train's table, none twice
pub record Sets (C : Case) (p : Cover) : Type 0 where
  pub each_train : length p ≡ length C.trains
  pub filled : (k : ℕ) → k < length C.trains → is_empty (get_or p k []) ≡ false
  pub of_table : (k d : ℕ) → k < length C.trains → has (get_or p k []) d ≡ true → d < length (get_or C.tables k [])
  pub once : (k d : ℕ) → k < length C.trains → count (eqb d) (get_or p k []) ≤ 1

proper-sets : (C : Case) → Sound C → (r : Entry) → Proper C r → Sets C r.cover
proper-sets C sound r h = record {
  each_train = parts-length (whole C) r.cover h ∙ whole_length C ∙ sound.tabled;
  filled = λ k l. (part k l).filled;
  of_table = λ k d l q. below-has (size k) d (part-within (below (size k)) (get_or r.cover k []) (part k l) d q);
  once = λ k d l. le_trans (part-once (below (size k)) (get_or r.cover k []) (part k l) d) (below-once (size k) d);
}
  where
    size : ℕ → ℕ
    size k = length (get_or C.tables k [])

    part : (k : ℕ) → k < length C.trains → Part (below (size k)) (get_or r.cover k [])
    part k l =
        subst (λ (w : List ℕ). Part w (get_or r.cover k [])) (whole-at C k)
        (parts_at (whole C) r.cover h k (omega (arith, whole_length C, sound.tabled)))

-- after every minute, each entry of the list and each arrival has a cover that is a part of the whole one
pub joint-proper : (C : Case) → Sound C → (m : ℕ) → Every (Proper C) (joint C m).list × Every (λ v. Proper C v.who) (joint C m).arrived
unfolding joint joint_rules
joint-proper C sound m =
    run_keeps C (joint_rules C) m (λ e. Unit) (every_all (λ e. Unit) (λ e. tt) (elements C)) (λ l v. Every (Proper C) l × Every (λ a. Proper C a.who) v)
    (λ t h l v p. (every_keep (Proper C) (λ r. not (ended t r.mark)) l p.0, p.1))
    (λ t h e u b a c v ask p. serve-proper C t e b a c v p.0 p.1)
    (first_list C) (first-proper C sound, tt) m (le_refl m)

pub joint-sets : (C : Case) → Sound C → (m : ℕ) → Every (λ r. Sets C r.cover) (joint C m).list × Every (λ v. Sets C v.who.cover) (joint C m).arrived
joint-sets C sound m = (
  every_more (Proper C) (λ r. Sets C r.cover) (proper-sets C sound) (joint C m).list (joint-proper C sound m).0,
  every_more (λ v. Proper C v.who) (λ v. Sets C v.who.cover) (λ v p. proper-sets C sound v.who p) (joint C m).arrived (joint-proper C sound m).1,
)

-- ---- the two runs

-- after every minute the choice sees its single run
pub joint_twin : (C : Case) → Sound C → (x : List ℕ) → Choice C x → (m : ℕ) → Twin C x (joint C m) (single C x m)
unfolding joint single
joint_twin C sound x ch m = run_twin C sound x ch (first_list C) (first_marks C x) (first-view C sound x ch) (first-proper C sound) (first-orderly C x) m

-- ---- the single run is in order

-- each train stands once and is at most once on a place, standing or blocking; no element but the way out is over its capacity; each train arrives at most once
pub record Kept (C : Case) (s : State Mark) : Type 0 where
  pub stands_once : (k : ℕ) → k < length C.trains → count (is_standing k) s.list ≡ 1
  pub on_once : (k : ℕ) (p : Place) → count (is_at k p) s.list ≤ 1
  pub within : (e : Place) → same e outside ≡ false → same e gone ≡ false → trains_on C e s.list ≤ capacity C e
  pub arrives_once : (k : ℕ) → count (λ v. eqb v.who.train k) s.arrived ≤ 1

orderly-kept : (C : Case) (s : State Mark) → Orderly C s.list s.arrived → Kept C s
orderly-kept C s o = record {
  stands_once = o.stands_once;
  on_once = at_once C s.list s.arrived o;
  within = λ e out way. le_trans (le_of_eq (trains_on-count C s.list s.arrived o e)) (o.within e out way);
  arrives_once = arrived-once C s.list s.arrived o;
}

pub single-kept : (C : Case) → Sound C → (x : List ℕ) → Choice C x → (m : ℕ) → Kept C (single C x m)
single-kept C sound x ch m = orderly-kept C (single C x m) (joint_twin C sound x ch m).orderly

-- ---- demand 3

-- the entries of a kind that cover the choice are as many as the marks of that kind in the single run
pub covering_length : (C : Case) → Sound C → (x : List ℕ) → Choice C x → (m : ℕ) (test : Mark → Bool)
    → length (keep (λ r. covers r.cover x && test r.mark) (joint C m).list) ≡ count test (single C x m).list
covering_length C sound x ch m test =
    sym (length-map (keep (λ r. covers r.cover x && test r.mark) (joint C m).list) (λ r. r.mark))
    ∙ ap length (view-keep x test (joint C m).list ∙ ap (keep test) (joint_twin C sound x ch m).list)
    ∙ length-keep test (single C x m).list

pub simulation : (C : Case) → Sound C → (x : List ℕ) → Choice C x → (m : ℕ) → Simulates C x m
unfolding same
simulation C sound x ch m = record {
  list = twin.list;
  arrived = twin.arrived;
  standing = λ k h.
      let one = length-one (keep (λ a. covers a.cover x && is_standing k a.mark) (joint C m).list) (covering_length C sound x ch m (is_standing k) ∙ kept.stands_once k h) in
      (one.0, one.1, ap (keep (is_standing k)) (sym twin.list) ∙ sym (view-keep x (is_standing k) (joint C m).list) ∙ ap (map (λ r. r.mark)) one.1);
  blocks = view-keep x (λ a. a.blocks) (joint C m).list ∙ ap (keep (λ a. a.blocks)) twin.list;
  once = λ k p. le_trans (le_of_eq (covering_length C sound x ch m (is_at k p))) (kept.on_once k p);
  stations = λ i. within (station i) refl refl;
  tracks = λ j. within (track j) refl refl;
  pairs = λ i j pair.
      subst (λ (l : List Mark). 0 < trains_on C (track i) l → trains_on C (track j) l ≡ 0) (sym twin.list) (never_both C sound x m (track i) (track j) pair);
}
  where
    twin : Twin C x (joint C m) (single C x m)
    twin = joint_twin C sound x ch m

    kept : Kept C (single C x m)
    kept = single-kept C sound x ch m

    within : (e : Place) → same e outside ≡ false → same e gone ≡ false → trains_on C e (view x (joint C m).list) ≤ capacity C e
    within e out way = subst (λ (l : List Mark). trains_on C e l ≤ capacity C e) (sym twin.list) (kept.within e out way)
