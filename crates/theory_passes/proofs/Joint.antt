-- The joint run is the run by passes: in each minute, after the ended blocks went, for each element the passes of all trains in order.
-- The states of the run are lawful, passes keep them so, and for a lawful state a visit is the passes of all trains. Assumes nothing.
use Rattle.std.specs.Prelude.{◌≡◌, Bool, false, not, cond, ℕ, ◌≤◌, ◌<◌, ltb}
use Rattle.std.proofs.Math.Path.{sym, ap, subst}
use Rattle.std.proofs.Common.{◌∙◌, le_refl, le_of_eq, arith, ltb-false, lt-ltb}
use mathlib.Core.List.{List, [], append-nil}
use Rattle.std.proofs.Math.Nat.{le_trans}
use Rattle.std.proofs.Math.ListN.{length}
use Rattle.rules.specs.Refusals.{first_of}
use Rattle.rules.specs.Files.{Case}
use Rattle.rules.specs.Turns.{Place, ended, State, state, Arrival}
use Rattle.rules.specs.Joint.{Entry, first_list, check_list, joint_rules, joint}
use Rattle.rules.specs.Demands.{passes}
use Rattle.theory_sound.specs.Facts.{Sound}
use Rattle.theory_lists.specs.Every.{Every, every_keep}
use Rattle.theory_lists.specs.Sums.{count-le, length-keep}
use Rattle.theory_simulation.specs.Serving.{Proper, serve-proper}
use Rattle.theory_simulation.specs.Start.{first-proper}
use Rattle.theory_trace.specs.Longest.{serve_entry-grows}
use Rattle.theory_trace.specs.Room.{check_list-room}
use Rattle.theory_passes.specs.Passes.{asks_for, pass_list, pass, cleared, joint_passes}
use Rattle.theory_passes.specs.Walk.{met-within, walk, walk_all, walk_keeps, walk-nobody, walk-met}
use Rattle.theory_passes.specs.Marks.{joint-own}
use Rattle.theory_passes.proofs.Runs as runs
use Rattle.theory_passes.proofs.Pass.{walk-list, walk-arrived}
use Rattle.theory_passes.specs.Joint.{Lawful}

-- where nothing is met once the list stands, it has room
met-fits : (C : Case) (n : ℕ) (l : List Entry) → first_of (ltb 0 n) n (check_list C l) ≡ 0 → length l ≤ C.head.room
met-fits C n l h = ltb-false C.head.room (length l) (met-within n (passes C.head.room l) (check_list C l) (check_list-room C l) h)

module _ (C : Case) where
  module _ (t : ℕ) (e : Place) (k : ℕ) where
    -- ---- one pass

    walk-proper : (l : List Entry) (v : List (Arrival Entry)) (n : ℕ) → Every (Proper C) l → Every (λ a. Proper C a.who) v
        → Every (Proper C) (walk C (joint_rules C) t e k [] l [] v n).list × Every (λ a. Proper C a.who) (walk C (joint_rules C) t e k [] l [] v n).arrived
    unfolding joint_rules
    walk-proper l v n p q =
        walk_keeps C (joint_rules C) t e (λ l v. Every (Proper C) l × Every (λ a. Proper C a.who) v) (λ b a c v ask h. serve-proper C t e b a c v h.0 h.1)
        k [] l [] v n (subst (Every (Proper C)) (sym (append-nil l)) p, q)

    -- the askers of a train, served one after another, are served as in a pass
    pub walk-pass : (s : State Entry) → Lawful C s → walk_all C (joint_rules C) t e k s ≡ pass C t e k s
    unfolding pass joint_rules
    walk-pass s w =
        λ i. state (walk-list C t e k s.list s.arrived s.met i) (walk-arrived C t e k s.list s.arrived s.met i) (met i)
      where
        met : (walk_all C (joint_rules C) t e k s).met ≡ first_of (ltb 0 s.met) s.met (check_list C (pass_list C t e k s.list))
        met =
            walk-met C (joint_rules C) t e (serve_entry-grows C) C.head.room (check_list-room C)
            k [] s.list [] s.arrived s.met (λ z. le_trans (le_of_eq (ap length (append-nil s.list))) (w.fits z))
            ∙ ap (λ (l : List Entry). first_of (ltb 0 s.met) s.met (check_list C l)) (walk-list C t e k s.list s.arrived s.met)

    pass_list-proper : (s : State Entry) → Lawful C s → Every (Proper C) (pass_list C t e k s.list)
    pass_list-proper s w =
        subst (Every (Proper C)) (walk-list C t e k s.list s.arrived s.met) (walk-proper s.list s.arrived s.met w.proper w.arrivals).0

    pub pass_lawful : (s : State Entry) → Lawful C s → Lawful C (pass C t e k s)
    unfolding pass
    pass_lawful s w = record {
      proper = pass_list-proper s w;
      arrivals = subst (Every (λ v. Proper C v.who)) (walk-arrived C t e k s.list s.arrived s.met) (walk-proper s.list s.arrived s.met w.proper w.arrivals).1;
      fits = met-fits C s.met (pass_list C t e k s.list);
    }

    -- ---- a pass of a train that does not ask

    pub pass-nobody : (s : State Entry) → Lawful C s → Every (λ r. asks_for C t e k r.mark ≡ false) s.list → pass C t e k s ≡ s
    unfolding joint_rules
    pass-nobody s w h =
        sym (walk-pass s w)
        ∙ walk-nobody C (joint_rules C) t e k [] s.list [] s.arrived s.met h
        ∙ ap (λ (l : List Entry). state l s.arrived s.met) (append-nil s.list)

    -- ---- what a pass meets

    -- a pass of an unrefused state meets 12 exactly where its list passes the room
    pub pass-met : (s : State Entry) → s.met ≡ 0 → (pass C t e k s).met ≡ cond (passes C.head.room (pass_list C t e k s.list)) 12 0
    unfolding pass
    pass-met s h = ap (λ (n : ℕ). first_of (ltb 0 n) n (check_list C (pass_list C t e k s.list))) h ∙ check_list-room C (pass_list C t e k s.list)

    -- once something is met, it stays

    pub pass-refused : (s : State Entry) → 0 < s.met → (pass C t e k s).met ≡ s.met
    unfolding pass
    pass-refused s h = ap (λ (z : Bool). first_of z s.met (check_list C (pass_list C t e k s.list))) (lt-ltb 0 s.met h)

  pub cleared_lawful : (t : ℕ) (s : State Entry) → Lawful C s → Lawful C (cleared (λ r. r.mark) t s)
  cleared_lawful t s w = record {
    proper = every_keep (Proper C) (λ r. not (ended t r.mark)) s.list w.proper;
    arrivals = w.arrivals;
    fits = λ z. omega (arith, w.fits z, length-keep (λ r. not (ended t r.mark)) s.list, count-le (λ r. not (ended t r.mark)) s.list);
  }

  -- ---- the run

  module _ (sound : Sound C) where
    -- the state before minute 0
    pub first_lawful : Lawful C (state (first_list C) [] (check_list C (first_list C)))
    first_lawful = record { proper = first-proper C sound; arrivals = tt; fits = met-fits C 0 (first_list C) }

    -- the joint run is the run by passes
    pub joint-passes : (m : ℕ) → joint C m ≡ joint_passes C m
    unfolding joint joint_passes joint_rules
    joint-passes m =
        runs.run_codes C (joint_rules C) (pass C) m (Lawful C) (λ t h. pass_lawful t) (λ t h. cleared_lawful t) sound (joint-own C) (λ t h. walk-pass t)
        (first_list C) first_lawful m (le_refl m)
