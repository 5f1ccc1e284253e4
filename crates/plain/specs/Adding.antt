-- One choice and one part, on words: the indices that were chosen are the choice that was run, and a part's choices are added one after another. Assumes nothing.
use Rattle.std.specs.Prelude.{◌≡◌, ℕ, ◌+◌, ◌-◌, ◌<◌, ◌≤◌, Bool, true, false, cond, List, take, nat_le, nat_lt, slice_index, refl}
use Rattle.std.proofs.Common.{ap, ◌∙◌, arith, leb-false, ltb-true}
use Rattle.std.proofs.Math.Path.{ap₂}
use Rattle.theory_plain.specs.Numbered.{indices}
use Rattle.moving.specs.Words.{ran_in}
use Rattle.plain.specs.Words.{sizes_in, weight_in, tallied_in, added_in, past_in}

module _ (T : List ℕ) (stop i : ℕ) (choice : List ℕ) {n : ℕ} {run : List ℕ} (all : n ≡ slice_index T 0) (chosen : take (slice_index T 0) choice ≡ indices (sizes_in T) i)
    (ran : run ≡ ran_in T (take n choice) stop) where
  -- the choice that is run is that of the number
  pub ran-chosen : run ≡ ran_in T (indices (sizes_in T) i) stop
  ran-chosen = ran ∙ ap (λ (x : List ℕ). ran_in T x stop) (ap (λ (m : ℕ). take m choice) all ∙ chosen)

  pub added-choice : {weight : ℕ} (ws : List ℕ) {ws' : List ℕ} → weight ≡ weight_in T 0 (indices (sizes_in T) i) → ws' ≡ tallied_in T run weight ws → ws' ≡ added_in T stop i ws
  unfolding added_in
  added-choice ws weighs told = told ∙ ap₂ (λ (u : List ℕ) (w : ℕ). tallied_in T u w ws) ran-chosen weighs

-- a part ends with the last choice at most, and not before it begins
pub past-within : (all first most : ℕ) → (first ≤ past_in all first most) × (first < past_in all first most → past_in all first most ≤ all)
unfolding past_in
past-within all first most = go (nat_le all first) (nat_lt most (all - first)) refl refl
  where
    go : (a b : Bool) → nat_le all first ≡ a → nat_lt most (all - first) ≡ b
        → (first ≤ cond a first (cond b (first + most) all)) × (first < cond a first (cond b (first + most) all) → cond a first (cond b (first + most) all) ≤ all)
    go true b p q = (omega arith, λ h. absurd (omega arith))
    go false true p q = let l : first < all = leb-false all first p in let m : most < all - first = ltb-true most (all - first) q in (omega arith, λ h. omega arith)
    go false false p q = let l : first < all = leb-false all first p in (omega arith, λ h. omega arith)
