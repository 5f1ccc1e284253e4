-- What decides a run: the files, then the call's arguments, then the room, and nothing else; each refusal comes exactly when its rule says.
-- The cases are those of the definition, taken apart by the first result that decides. Assumes nothing.
use Rattle.std.specs.Prelude.{◌≡◌, Bool, List, ℕ, ◌≤◌, ◌<◌, length}
use Rattle.std.proofs.Math.Path.{refl}
use Rattle.std.proofs.Common.{◌∙◌, arith, leb-true, leb-false}
use Rattle.std.proofs.Math.Bool.{true, false, cond}
use Rattle.std.proofs.Math.Option.{Option}
use Rattle.std.proofs.Math.Dec.{leb, ltb}
use Rattle.rules.specs.Lists.{any}
use Rattle.rules.specs.Refusals.{Refusal, Result}
use Rattle.rules.specs.Refusals.Result.{refused, answer}
use Rattle.rules.specs.Files.{Case, files}
use Rattle.rules.specs.Single.{arrival}
use Rattle.rules.specs.Joint.{first_list, joint_rules, joint}
use Rattle.rules.specs.Calls.{Run, run_to, choice_broken, no_such_train, single_run, stopped_run, whole_run, train_run}
use Rattle.rules.specs.Demands.{Choice, passes, run_lists}
use Rattle.rules.specs.Promised.{refusal_of, full, late_stop, missing_train}
use Rattle.theory_sound.proofs.Accepted.{accepted-sound}
use Rattle.theory_simulation.specs.Choices.{unbroken-choice}
use Rattle.theory_trace.specs.Room.{room-askers}
use Rattle.theory_demands.specs.Choices.{broken_no_choice}

-- ---- the definitions

-- what a run to a case's minute `stop` comes to, where `arguments` is the number for which its arguments are refused
pub data Decided (cs bk : List ℕ) (arguments stop : Case → ℕ) (r : Result Run) : Type 0 where
  -- the files are refused
  by_files : (f : Refusal) → files cs bk ≡ refused f → r ≡ refused f → Decided cs bk arguments stop r
  -- the files are accepted, and the arguments are refused
  by_arguments : (C : Case) → files cs bk ≡ answer C → 1 ≤ arguments C → r ≡ refused (refusal_of (arguments C)) → Decided cs bk arguments stop r
  -- both are sound, and the list passes the room
  by_room : (C : Case) → files cs bk ≡ answer C → arguments C ≡ 0 → full C (stop C) ≡ true → r ≡ refused (refusal_of 12) → Decided cs bk arguments stop r
  -- nothing is refused
  by_run : (C : Case) → files cs bk ≡ answer C → arguments C ≡ 0 → full C (stop C) ≡ false → r ≡ answer (record { of = C; state = joint C (stop C) })
      → Decided cs bk arguments stop r

-- ---- the runs

module _ (cs bk : List ℕ) where
  -- the run of an accepted case
  run_decided : (arguments stop : Case → ℕ) (r : Result Run) (C : Case) → files cs bk ≡ answer C → arguments C ≡ 0 → r ≡ run_to (stop C) C
      → Decided cs bk arguments stop r
  unfolding full
  run_decided arguments stop r C e a q = go (any (passes C.head.room) (run_lists C (joint_rules C) (first_list C) (stop C))) refl (room-askers C (stop C))
    where
      go : (b : Bool) → any (passes C.head.room) (run_lists C (joint_rules C) (first_list C) (stop C)) ≡ b → (joint C (stop C)).met ≡ cond b 12 0
          → Decided cs bk arguments stop r
      go true f m = by_room C e a f (q ∙ rw m)
      go false f m = by_run C e a f (q ∙ rw m)

  pub stopped_decided : (m : ℕ) → Decided cs bk (late_stop m) (λ C. m) (stopped_run cs bk m)
  unfolding stopped_run
  stopped_decided m = go (files cs bk) refl
    where
      late : (C : Case) → files cs bk ≡ answer C → (b : Bool) → ltb C.head.last_minute m ≡ b → Decided cs bk (late_stop m) (λ C. m) (stopped_run cs bk m)
      late C e true h = by_arguments C e (rw h (omega arith)) (rw (e, h))
      late C e false h = run_decided (late_stop m) (λ C. m) (stopped_run cs bk m) C e (rw h) (rw (e, h))

      go : (R : Result Case) → files cs bk ≡ R → Decided cs bk (late_stop m) (λ C. m) (stopped_run cs bk m)
      go (refused f) e = by_files f e (rw e)
      go (answer C) e = late C e (ltb C.head.last_minute m) refl

  pub whole_decided : Decided cs bk (λ C. 0) (λ C. C.head.last_minute) (whole_run cs bk)
  unfolding whole_run
  whole_decided = go (files cs bk) refl
    where
      go : (R : Result Case) → files cs bk ≡ R → Decided cs bk (λ C. 0) (λ C. C.head.last_minute) (whole_run cs bk)
      go (refused f) e = by_files f e (rw e)
      go (answer C) e = run_decided (λ C. 0) (λ C. C.head.last_minute) (whole_run cs bk) C e refl (rw e)

  pub train_decided : (k : ℕ) → Decided cs bk (missing_train k) (λ C. C.head.last_minute) (train_run cs bk k)
  unfolding train_run no_such_train
  train_decided k = go (files cs bk) refl
    where
      none : (C : Case) → files cs bk ≡ answer C → (b : Bool) → leb (length C.trains) k ≡ b
          → Decided cs bk (missing_train k) (λ C. C.head.last_minute) (train_run cs bk k)
      none C e true h = by_arguments C e (rw h (omega arith)) (rw (e, h))
      none C e false h = run_decided (missing_train k) (λ C. C.head.last_minute) (train_run cs bk k) C e (rw h) (rw (e, h))

      go : (R : Result Case) → files cs bk ≡ R → Decided cs bk (missing_train k) (λ C. C.head.last_minute) (train_run cs bk k)
      go (refused f) e = by_files f e (rw e)
      go (answer C) e = none C e (leb (length C.trains) k) refl

-- ---- the single run

-- what the single run of choice x for train k comes to
pub data SingleDecided (cs bk x : List ℕ) (k : ℕ) (r : Result (Option ℕ)) : Type 0 where
  -- the files are refused
  by_files : (f : Refusal) → files cs bk ≡ refused f → r ≡ refused f → SingleDecided cs bk x k r
  -- the choice has a wrong count, or an index past its train's table
  by_choice : (C : Case) → files cs bk ≡ answer C → (Choice C x → ⊥) → r ≡ refused (refusal_of 15) → SingleDecided cs bk x k r
  -- there is no such train
  by_train : (C : Case) → files cs bk ≡ answer C → Choice C x → length C.trains ≤ k → r ≡ refused (refusal_of 16) → SingleDecided cs bk x k r
  -- the minute of arrival, or none by T
  by_run : (C : Case) → files cs bk ≡ answer C → Choice C x → k < length C.trains → r ≡ answer (arrival C x k) → SingleDecided cs bk x k r

pub single_decided : (cs bk x : List ℕ) (k : ℕ) → SingleDecided cs bk x k (single_run cs bk x k)
unfolding single_run no_such_train
single_decided cs bk x k = go (files cs bk) refl
  where
    train : (C : Case) → files cs bk ≡ answer C → choice_broken C x ≡ false → (b : Bool) → leb (length C.trains) k ≡ b → SingleDecided cs bk x k (single_run cs bk x k)
    train C e c true h = by_train C e (unbroken-choice C (accepted-sound cs bk C e) x c) (leb-true (length C.trains) k h) (rw (e, c, h))
    train C e c false h = by_run C e (unbroken-choice C (accepted-sound cs bk C e) x c) (leb-false (length C.trains) k h) (rw (e, c, h))

    choice : (C : Case) → files cs bk ≡ answer C → (b : Bool) → choice_broken C x ≡ b → SingleDecided cs bk x k (single_run cs bk x k)
    choice C e true c = by_choice C e (broken_no_choice C (accepted-sound cs bk C e) x c) (rw (e, c))
    choice C e false c = train C e c (leb (length C.trains) k) refl

    go : (R : Result Case) → files cs bk ≡ R → SingleDecided cs bk x k (single_run cs bk x k)
    go (refused f) e = by_files f e (rw e)
    go (answer C) e = choice C e (choice_broken C x) refl
