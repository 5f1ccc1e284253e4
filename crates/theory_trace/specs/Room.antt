-- Refusal 12 is met exactly when the first list, or the list after some minute, has more entries than the room, and no other is met. This holds of every case.
-- Serving an asker never shortens the list, so a minute's last list is its longest. Assumes nothing.
use Rattle.std.specs.Prelude.{◌≡◌, refl, Bool, true, false, ◌||◌, cond, List, [], ◌∷◌, map, ℕ, suc, ◌≤◌, length, ltb}
use Rattle.std.proofs.Common.{sym, ap, ap₂, ◌∙◌, arith, ltb-false}
use Rattle.rules.specs.Lists.{any, below}
use Rattle.rules.specs.Refusals.{first_of}
use Rattle.rules.specs.Files.{Case}
use Rattle.rules.specs.Joint.{Entry, first_list, check_list, joint_rules, joint}
use Rattle.rules.specs.Demands.{run_lists, passes}
use Rattle.theory_lists.specs.Tests.{or_false-second}
use Rattle.theory_lists.specs.Every.{none_any}
use Rattle.theory_lists.specs.Below.{below_at}
use Rattle.theory_trace.specs.Trace.{first_met, run-met}
use Rattle.theory_trace.specs.Longest.{run_longest, serve_entry-grows}

-- ---- by the lists after each asker

-- a list is refused for the room, and for nothing else
pub check_list-room : (C : Case) (rs : List Entry) → check_list C rs ≡ cond (passes C.head.room rs) 12 0
unfolding check_list
check_list-room C rs = go (passes C.head.room rs)
  where
    go : (b : Bool) → first_of b 12 0 ≡ cond b 12 0
    go true = refl
    go false = refl

first-room : (a b : Bool) → first_of (ltb 0 (cond a 12 0)) (cond a 12 0) (cond b 12 0) ≡ cond (a || b) 12 0
first-room true b = refl
first-room false b = refl

first_met-room : (C : Case) (ls : List (List Entry)) → first_met (map (check_list C) ls) ≡ cond (any (passes C.head.room) ls) 12 0
first_met-room C [] = refl
first_met-room C (l ∷ ls) =
    ap₂ (λ (n m : ℕ). first_of (ltb 0 n) n m) (check_list-room C l) (first_met-room C ls) ∙ first-room (passes C.head.room l) (any (passes C.head.room) ls)

-- 12 is met exactly when the first list, or the list after some asking entry was served, has more entries than the room; nothing else is met
pub room-askers : (C : Case) (m : ℕ) → (joint C m).met ≡ cond (any (passes C.head.room) (run_lists C (joint_rules C) (first_list C) m)) 12 0
unfolding joint joint_rules
room-askers C m = run-met C (joint_rules C) (first_list C) m ∙ first_met-room C (run_lists C (joint_rules C) (first_list C) m)

-- ---- by the lists after each minute

-- 12 is met exactly when the first list, or the list after some minute up to m, has more entries than the room; nothing else is met
pub room-minutes : (C : Case) (m : ℕ)
    → (joint C m).met ≡ cond (passes C.head.room (first_list C) || any (λ n. passes C.head.room (joint C n).list) (below (suc m))) 12 0
unfolding joint
room-minutes C m =
    room-askers C m
    ∙ ap (λ (b : Bool). cond b 12 0) (run_longest C.head.room C (joint_rules C) (serve_entry-grows C) (first_list C) m)

-- ---- what an answered run tells

not-passed : (b : Bool) → ◌≡◌ {A = ℕ} (cond b 12 0) 0 → b ≡ false
not-passed true h = absurd (omega arith)
not-passed false h = refl

module _ (C : Case) (m : ℕ) (answered : (joint C m).met ≡ 0) where
  tests : (passes C.head.room (first_list C) || any (λ n. passes C.head.room (joint C n).list) (below (suc m))) ≡ false
  tests = not-passed _ (sym (room-minutes C m) ∙ answered)

  -- the list after each minute of an answered run has room
  pub list-fits : (n : ℕ) → n ≤ m → length (joint C n).list ≤ C.head.room
  list-fits n h =
      ltb-false C.head.room (length (joint C n).list)
      (below_at (λ i. passes C.head.room (joint C i).list ≡ false) (suc m)
      (none_any (λ i. passes C.head.room (joint C i).list) (below (suc m)) (or_false-second (passes C.head.room (first_list C)) _ tests)) n (omega arith))
