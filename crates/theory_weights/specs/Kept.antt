-- What serving keeps, a run keeps: if each item that comes of an asker has the property, then so has each item of every list and each arrival.
-- An induction over askers, elements and minutes. So each cover of the joint run's lists is a part of the whole. Takes `Sound` as given, and assumes nothing else.
use Rattle.std.proofs.Common.{sym}
use Rattle.std.proofs.Math.Path.{subst}
use Rattle.std.proofs.Math.Bool.{not}
use mathlib.Core.List.{List, [], ◌∷◌, ◌++◌}
use Prim.Native.Nat.{ℕ, zero, suc}
use Rattle.rules.specs.Lists.{fold}
use Rattle.rules.specs.Files.{Case}
use Rattle.rules.specs.Turns.{Place, Served, State, state, Row, items, Visit, left, Turn, Rules, ended, asks, elements, next, serve_next, turns, visit, minute, minutes, run_from}
use Rattle.rules.specs.Turns.Turn.{nobody, somebody}
use Rattle.rules.specs.Joint.{whole, first_list, joint_rules}
use Rattle.rules.specs.Demands.{rows_after, turn_list, turn_lists, visit_lists, visits_lists, minute_lists, minutes_lists, run_lists}
use Rattle.theory_sound.specs.Facts.{Sound}
use Rattle.theory_simulation.specs.Parts.{Parts}
use Rattle.theory_simulation.specs.Serving.{Proper, pieces-proper, serve-covers}
use Rattle.theory_simulation.specs.Start.{first-proper}
use Rattle.theory_lists.specs.Every.{Every, every_append, every_left, every_right, every_keep}
use Rattle.theory_lists.specs.Items.{items-start}
use Rattle.theory_trace.specs.Trace.{Splits, next_splits, items-after}

-- each item of the parts of a serving has the property
pub record ServedAll {A : Type 0} (p : A → Type 0) (s : Served A) : Type 0 where
  pub rows : Every p s.rows
  pub added : Every p s.added
  pub arrived : Every (λ v. p v.who) s.arrived

-- serving an asker keeps the property
abbrev pub Keeps : {A : Type 0} → Rules A → (A → Type 0) → Type 0
Keeps {A} R p = (t : ℕ) (e : Place) (l : List A) (a : A) → Every p l → p a → ServedAll p (R.serve t e l a)

-- the state has the property, and so have the lists that led to it
pub record KeptAll {A : Type 0} (p : A → Type 0) (ls : List (List A)) (s : State A) : Type 0 where
  pub lists : Every (Every p) ls
  pub list : Every p s.list
  pub arrived : Every (λ v. p v.who) s.arrived

module _ {A : Type 0} (C : Case) (R : Rules A) (p : A → Type 0) (keeps : Keeps R p) where
  after_kept : (t : ℕ) (e : Place) (rs b : List (Row A)) (a : A) (c : List (Row A)) → Splits rs (somebody b a c) → Every p (items rs)
      → Every p (items (rows_after C R t e rs b a c))
  after_kept t e rs b a c split h =
      let l : Every p (items b ++ (a ∷ items c)) = subst (Every p) split h in
      let r : Every p (a ∷ items c) = every_right p (items b) (a ∷ items c) l in
      let s = keeps t e (items rs) a h r.0 in
      subst (Every p) (sym (items-after C R t e rs b a c))
      (every_append p (items b ++ new.rows ++ items c) new.added
      (every_append p (items b ++ new.rows) (items c) (every_append p (items b) new.rows (every_left p (items b) (a ∷ items c) l) s.rows) r.1) s.added)
    where
      new : Served A
      new = R.serve t e (items rs) a

  -- the lists and the state that a visit comes to
  abbrev Visited : List (List A) → Visit A → Type 0
  Visited ls v = KeptAll p ls (left v)

  turns-kept : (k t : ℕ) (e : Place) (v : Visit A) → Every p (items v.rows) → Every (λ a. p a.who) v.arrived → Visited (turn_lists C R k t e v) (turns C R k t e v)
  unfolding turns turn_lists
  turns-kept zero t e v h g = record { lists = tt; list = h; arrived = g }
  turns-kept (suc k) t e v h g = go (next C R v.rows) (next_splits C R v.rows) (turns-kept k t e)
    where
      go : (u : Turn A) → Splits v.rows u
          → ((w : Visit A) → Every p (items w.rows) → Every (λ a. p a.who) w.arrived → Visited (turn_lists C R k t e w) (turns C R k t e w))
          → Visited (turn_list C R t e v.rows u ++ turn_lists C R k t e (serve_next C R t e v u)) (turns C R k t e (serve_next C R t e v u))
      go nobody split ih = ih v h g
      go (somebody b a c) split ih =
          let l : Every p (items b ++ (a ∷ items c)) = subst (Every p) split h in
          let s = keeps t e (items v.rows) a h (every_right p (items b) (a ∷ items c) l).0 in
          let q = after_kept t e v.rows b a c split h in
          let r = ih (serve_next C R t e v (somebody b a c)) q (every_append (λ a. p a.who) v.arrived _ g s.arrived) in
          record { lists = (q, r.lists); list = r.list; arrived = r.arrived }

  visit-kept : (t : ℕ) (e : Place) (s : State A) → Every p s.list → Every (λ a. p a.who) s.arrived → KeptAll p (visit_lists C R t e s) (visit C R t e s)
  unfolding visit visit_lists
  visit-kept t e s h g = turns-kept _ t e _ (subst (Every p) (sym (items-start (λ a. asks C t e (R.mark a)) s.list)) h) g

  visits_kept : (t : ℕ) (es : List Place) (s : State A) → Every p s.list → Every (λ a. p a.who) s.arrived → KeptAll p (visits_lists C R t es s) (fold (visit C R t) es s)
  visits_kept t [] s h g = record { lists = tt; list = h; arrived = g }
  visits_kept t (e ∷ es) s h g =
      let a = visit-kept t e s h g in
      let b = visits_kept t es (visit C R t e s) a.list a.arrived in
      record { lists = every_append (Every p) (visit_lists C R t e s) (visits_lists C R t es (visit C R t e s)) a.lists b.lists; list = b.list; arrived = b.arrived }

  minutes-kept : (n : ℕ) (s : State A) → Every p s.list → Every (λ a. p a.who) s.arrived → KeptAll p (minutes_lists C R n s) (minutes C R n s)
  unfolding minutes minutes_lists minute minute_lists
  minutes-kept zero s h g = record { lists = tt; list = h; arrived = g }
  minutes-kept (suc n) s h g =
      let a = minutes-kept n s h g in
      let b = visits_kept n (elements C) _ (every_keep p (λ i. not (ended n (R.mark i))) (minutes C R n s).list a.list) a.arrived in
      record { lists = every_append (Every p) (minutes_lists C R n s) (minute_lists C R n (minutes C R n s)) a.lists b.lists; list = b.list; arrived = b.arrived }

  -- what serving keeps holds of every list of the run, and of its arrivals
  pub run-kept : (l : List A) (m : ℕ) → Every p l → KeptAll p (run_lists C R l m) (run_from C R l m)
  unfolding run_from run_lists
  run-kept l m h =
      let a = minutes-kept (suc m) (state l [] (R.check l)) h tt in
      record { lists = (h, a.lists); list = a.list; arrived = a.arrived }

-- ---- the joint run

-- serving an entry keeps covers proper
serve_entry-proper : (C : Case) → Keeps (joint_rules C) (Proper C)
unfolding joint_rules
serve_entry-proper C t e rs r h g =
    let came = serve-covers C t e (Parts (whole C)) rs r (pieces-proper C t e rs r h g) in
    record { rows = came.0; added = came.1; arrived = came.2 }

-- every list of the joint run has covers that are parts of the whole
pub joint-lists : (C : Case) → Sound C → (m : ℕ) → Every (Every (Proper C)) (run_lists C (joint_rules C) (first_list C) m)
joint-lists C sound m = (run-kept C (joint_rules C) (Proper C) (serve_entry-proper C) (first_list C) m (first-proper C sound)).lists
