-- A run is the run by passes, where for the states that it can be in the walk of a train is its pass: minute by minute. An invariant of the states says which
-- these are; each pass and each end of blocks keeps it. Assumes nothing.
use Rattle.std.specs.Prelude.{◌≡◌}
use Rattle.std.proofs.Math.Path.{refl, ap}
use Rattle.std.proofs.Common.{◌∙◌, arith}
use mathlib.Core.List.{List, []}
use Prim.Native.Nat.{ℕ, zero, suc, ◌≤◌}
use Rattle.rules.specs.Files.{Case}
use Rattle.rules.specs.Turns.{Place, State, state, Rules, visit, minute, minutes, run_from}
use Rattle.theory_sound.specs.Facts.{Sound}
use Rattle.theory_codes.specs.Codes.{place_of}
use Rattle.theory_codes.specs.Tables.{order}
use Rattle.theory_passes.specs.Passes.{cleared, element_codes, element_passes, minute_passes, minutes_passes}
use Rattle.theory_passes.specs.Marks.{Own}
use Rattle.theory_passes.specs.Walk.{walk_all}
use Rattle.theory_lists.specs.Folds.{fold-agree}
use Rattle.theory_passes.proofs.Elements.{visits_codes}
use Rattle.theory_passes.specs.Runs.{steps-keep, minutes-keep, visit-steps}

module _ {A : Type 0} (C : Case) (R : Rules A) (step : ℕ → Place → ℕ → State A → State A) (last : ℕ) (P : State A → Type 0)
    (by-step : (t : ℕ) → t ≤ last → (e : Place) (k : ℕ) (s : State A) → P s → P (step t e k s))
    (by_end : (t : ℕ) → t ≤ last → (s : State A) → P s → P (cleared R.mark t s)) where
  module _ (sound : Sound C) (own : Own R) (agree : (t : ℕ) → t ≤ last → (e : Place) (k : ℕ) (s : State A) → P s → walk_all C R t e k s ≡ step t e k s) where
    -- a minute is the passes for the elements of all codes
    pub minute_codes : (t : ℕ) → t ≤ last → (s : State A) → P s → minute C R t s ≡ minute_passes C R.mark step t s
    unfolding minute minute_passes
    minute_codes t h s p =
        visits_codes C sound R t (cleared R.mark t s)
        ∙ fold-agree P (λ c. visit C R t (place_of c)) (element_passes C step t) (λ c. visit-steps C R step last P by-step by_end sound own agree t h (place_of c)) (λ c u q. steps-keep C R step last P by-step by_end t h (place_of c) (order C) u q)
        element_codes (cleared R.mark t s) (by_end t h s p)

    pub minutes_codes : (n : ℕ) → n ≤ suc last → (s : State A) → P s → minutes C R n s ≡ minutes_passes C R.mark step n s
    unfolding minutes minutes_passes
    minutes_codes zero h s p = refl
    minutes_codes (suc n) h s p =
        ap (minute C R n) (minutes_codes n (omega arith) s p) ∙ minute_codes n (omega arith) (minutes_passes C R.mark step n s) (minutes-keep C R step last P by-step by_end n (omega arith) s p)

    pub run_codes : (l : List A) → P (state l [] (R.check l)) → (m : ℕ) → m ≤ last → run_from C R l m ≡ minutes_passes C R.mark step (suc m) (state l [] (R.check l))
    unfolding run_from
    run_codes l p m h = minutes_codes (suc m) (omega arith) (state l [] (R.check l)) p
