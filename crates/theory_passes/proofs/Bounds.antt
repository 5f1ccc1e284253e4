-- The marks of a run by passes are bounded: a pass keeps that, and so do the minutes up to the last. Takes `Sound` as given, and assumes nothing else.
use Rattle.std.specs.Prelude.{ℕ, suc, ◌≤◌}
use Rattle.std.proofs.Common.{arith}
use Rattle.std.proofs.Math.Path.{subst}
use mathlib.Core.List.{[]}
use Rattle.rules.specs.Files.{Case}
use Rattle.rules.specs.Turns.{Place, State, state}
use Rattle.rules.specs.Joint.{Entry, first_list, check_list, joint_rules}
use Rattle.theory_sound.specs.Facts.{Sound}
use Rattle.theory_passes.specs.Passes.{pass, joint_passes}
use Rattle.theory_passes.specs.Marks.{joint-marks}
use Rattle.theory_passes.proofs.Pass.{walk-list}
use Rattle.theory_passes.specs.Runs as runs
use Rattle.theory_passes.specs.Bounds.{ByteDelays, AllBounded, walk-bounded, cleared-bounded, first_list-bounded}

module _ (C : Case) (sound : Sound C) where
  -- ---- passes

  pub pass-bounded : (t : ℕ) → t ≤ C.head.last_minute → (e : Place) (k : ℕ) (s : State Entry) → AllBounded C (λ r. r.mark) s.list → AllBounded C (λ r. r.mark) (pass C t e k s).list
  unfolding pass joint_rules
  pass-bounded t h e k s q =
      subst (AllBounded C (λ r. r.mark)) (walk-list C t e k s.list s.arrived s.met) (walk-bounded C sound (joint_rules C) (joint-marks C) t h e k s.list s.arrived s.met q)

  module _ (bytes : ByteDelays C) where
    -- ---- the runs, up to the last minute

    pub joint-bounded : (m : ℕ) → m ≤ C.head.last_minute → AllBounded C (λ r. r.mark) (joint_passes C m).list
    unfolding joint_passes joint_rules
    joint-bounded m h =
        runs.minutes-keep C (joint_rules C) (pass C) C.head.last_minute (λ s. AllBounded C (λ r. r.mark) s.list)
        pass-bounded (λ t l. cleared-bounded C sound (λ r. r.mark) t) (suc m) (omega arith) (state (first_list C) [] (check_list C (first_list C))) (first_list-bounded C sound bytes)
