-- What the passes of a minute keep, and that a visit is the passes of all trains, where for the states that the run can be in the walk of a train is its pass.
-- An invariant of the states says which these are; each pass and each end of blocks keeps it. Assumes nothing.
use Rattle.std.specs.Prelude.{◌≡◌}
use Rattle.std.proofs.Common.{◌∙◌, arith}
use mathlib.Core.List.{List}
use Prim.Native.Nat.{ℕ, zero, suc, ◌≤◌}
use Rattle.rules.specs.Lists.{fold}
use Rattle.rules.specs.Files.{Case}
use Rattle.rules.specs.Turns.{Place, State, Rules, visit}
use Rattle.theory_sound.specs.Facts.{Sound}
use Rattle.theory_codes.specs.Codes.{place_of}
use Rattle.theory_codes.specs.Tables.{order}
use Rattle.theory_passes.specs.Passes.{cleared, element_codes, element_passes, minute_passes, minutes_passes}
use Rattle.theory_passes.specs.Marks.{Own}
use Rattle.theory_passes.specs.Walk.{walk_all}
use Rattle.theory_passes.specs.Visit.{visit_walks}
use Rattle.theory_lists.specs.Folds.{fold_keeps, fold-agree}

-- ---- what passes keep

module _ {A : Type 0} (C : Case) (R : Rules A) (step : ℕ → Place → ℕ → State A → State A) (last : ℕ) (P : State A → Type 0)
    (by-step : (t : ℕ) → t ≤ last → (e : Place) (k : ℕ) (s : State A) → P s → P (step t e k s))
    (by_end : (t : ℕ) → t ≤ last → (s : State A) → P s → P (cleared R.mark t s)) where
  pub steps-keep : (t : ℕ) → t ≤ last → (e : Place) (ks : List ℕ) (s : State A) → P s → P (fold (step t e) ks s)
  steps-keep t h e ks s p = fold_keeps P (step t e) (by-step t h e) ks s p

  pub elements-keep : (t : ℕ) → t ≤ last → (cs : List ℕ) (s : State A) → P s → P (fold (element_passes C step t) cs s)
  elements-keep t h cs s p = fold_keeps P (element_passes C step t) (λ c u q. steps-keep t h (place_of c) (order C) u q) cs s p

  pub minute_keeps : (t : ℕ) → t ≤ last → (s : State A) → P s → P (minute_passes C R.mark step t s)
  unfolding minute_passes
  minute_keeps t h s p = elements-keep t h element_codes (cleared R.mark t s) (by_end t h s p)

  pub minutes-keep : (n : ℕ) → n ≤ suc last → (s : State A) → P s → P (minutes_passes C R.mark step n s)
  unfolding minutes_passes
  minutes-keep zero h s p = p
  minutes-keep (suc n) h s p = minute_keeps n (omega arith) (minutes_passes C R.mark step n s) (minutes-keep n (omega arith) s p)

  -- ---- the run by passes

  module _ (sound : Sound C) (own : Own R) (agree : (t : ℕ) → t ≤ last → (e : Place) (k : ℕ) (s : State A) → P s → walk_all C R t e k s ≡ step t e k s) where
    -- a visit is the passes of all trains in order
    pub visit-steps : (t : ℕ) → t ≤ last → (e : Place) (s : State A) → P s → visit C R t e s ≡ fold (step t e) (order C) s
    visit-steps t h e s p = visit_walks C R t e own s ∙ fold-agree P (walk_all C R t e) (step t e) (agree t h e) (by-step t h e) (order C) s p
