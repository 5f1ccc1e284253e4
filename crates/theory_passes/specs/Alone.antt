-- The single run's passes of one train: in order, at most one mark of the train stands, so at most one asks, and there are as many trains on an element as
-- marks. Assumes nothing.
use Rattle.std.specs.Prelude.{◌≡◌, true, false, ◌&&◌, ◌||◌, ℕ, ◌≤◌, length, ltb}
use Rattle.std.proofs.Math.Path.{refl, sym, ap, ap₂}
use Rattle.std.proofs.Common.{◌∙◌, le_trans, le_of_eq, arith, eq-eqb, ltb-true, ltb-false}
use Rattle.std.proofs.Math.Bool.{Bool, not}
use mathlib.Core.List.{List, [], ◌∷◌, ◌++◌, append-nil}
use Rattle.rules.specs.Lists.{one, each, keep, tick, count}
use Rattle.rules.specs.Files.{Case}
use Rattle.rules.specs.Turns.{Place, same, Mark, capacity, entered, arriving, State, state, Arrival}
use Rattle.rules.specs.Turns.Place.{gone}
use Rattle.rules.specs.Single.{partner_held, enters, single_rules}
use Rattle.rules.specs.Demands.{is_standing}
use Rattle.theory_lists.specs.Each.{each_append}
use Rattle.theory_lists.specs.Every.{Every, every_more}
use Rattle.theory_lists.specs.Sums.{sum_less, sum-zero}
use Rattle.theory_simulation.specs.Places.{asked}
use Rattle.theory_simulation.specs.Orderly.{Orderly, trains_on-count}
use Rattle.theory_lists.specs.Kept.{keep-none, keep-others, One}
use Rattle.theory_passes.specs.Passes.{asks_for, admits, goes, pass_train}
use Rattle.theory_passes.specs.Visit.{asks-known}
use Rattle.theory_passes.specs.Walk.{asks_for-asks, asks_for-train}

-- ---- a pass of one train

module _ (C : Case) (t : ℕ) (e : Place) (k : ℕ) where
  -- where no mark enters, nothing changes
  pub pass_train-stays : (s : State Mark) → Every (λ m. goes C t e k s.list m ≡ false) s.list → pass_train C t e k s ≡ s
  unfolding pass_train
  pass_train-stays s h =
      λ i. state
      ((ap₂ (λ (y z : List Mark). y ++ each (entered C t e) z) (keep-others (goes C t e k s.list) s.list h) (keep-none (goes C t e k s.list) s.list h) ∙ append-nil s.list) i)
      ((ap (λ (z : List Mark). s.arrived ++ each (arriving C t e) z) (keep-none (goes C t e k s.list) s.list h) ∙ append-nil s.arrived) i)
      s.met

  -- the one mark that enters leaves its row, and its new marks go to the end
  pub pass_train-enters : (s : State Mark) (o : One (goes C t e k s.list) s.list)
      → pass_train C t e k s ≡ state (o.front ++ o.back ++ entered C t e o.the) (s.arrived ++ arriving C t e o.the) s.met
  unfolding pass_train
  pass_train-enters s o =
      λ i. state
      (ap₂ (λ (y z : List Mark). y ++ z) stay (ap (each (entered C t e)) going ∙ append-nil (entered C t e o.the)) i)
      (ap (λ (z : List (Arrival Mark)). s.arrived ++ z) (ap (each (arriving C t e)) going ∙ append-nil (arriving C t e o.the)) i)
      s.met
    where
      test : Mark → Bool
      test = goes C t e k s.list

      going : keep (goes C t e k s.list) s.list ≡ o.the ∷ []
      going =
          ap (keep (goes C t e k s.list)) o.split
          ∙ each_append (λ m. one (goes C t e k s.list m) m) o.front (o.the ∷ o.back)
          ∙ ap₂ (λ (y z : List Mark). y ++ z) (keep-none (goes C t e k s.list) o.front o.front_none)
          (ap₂ (λ (b : Bool) (z : List Mark). one b o.the ++ z) o.passes (keep-none (goes C t e k s.list) o.back o.back_none))

      stay : keep (λ m. not (goes C t e k s.list m)) s.list ≡ o.front ++ o.back
      stay =
          ap (keep (λ m. not (goes C t e k s.list m))) o.split
          ∙ each_append (λ m. one (not (goes C t e k s.list m)) m) o.front (o.the ∷ o.back)
          ∙ ap₂ (λ (y z : List Mark). y ++ z) (keep-others (goes C t e k s.list) o.front o.front_none)
          (ap₂ (λ (b : Bool) (z : List Mark). one (not b) o.the ++ z) o.passes (keep-others (goes C t e k s.list) o.back o.back_none))

  -- a pass of a train that does not ask changes nothing
  pub pass_train-nobody : (s : State Mark) → Every (λ m. asks_for C t e k m ≡ false) s.list → pass_train C t e k s ≡ s
  unfolding goes
  pass_train-nobody s h =
      pass_train-stays s
      (every_more (λ m. asks_for C t e k m ≡ false) (λ m. goes C t e k s.list m ≡ false) (λ m q. ap (λ (z : Bool). z && admits C e k s.list) q) s.list h)

  -- ---- in order

  -- at most one mark of a train asks
  pub asker_alone : (ms : List Mark) (v : List (Arrival Mark)) → Orderly C ms v → count (asks_for C t e k) ms ≤ 1
  asker_alone ms v o = go (ltb k (length C.trains)) refl
    where
      less : (m : Mark) (b : Bool) → asks_for C t e k m ≡ b → tick b ≤ tick (is_standing k m)
      less m true q =
          le_of_eq (sym (ap₂ (λ (y z : Bool). tick (y && not z)) (eq-eqb m.train k (asks_for-train C t e k m q)) (asked C t e m (asks_for-asks C t e k m q)).stood))
      less m false q = omega arith

      go : (b : Bool) → ltb k (length C.trains) ≡ b → count (asks_for C t e k) ms ≤ 1
      go true q =
          le_trans (sum_less (λ m. tick (asks_for C t e k m)) (λ m. tick (is_standing k m)) (λ m. less m (asks_for C t e k m) refl) ms) (le_of_eq (o.stands_once k (ltb-true k (length C.trains) q)))
      go false q =
          omega (arith, sum_less (λ m. tick (asks_for C t e k m)) (λ m. 0) (λ m. nobody m (asks_for C t e k m) refl) ms, sum-zero ms)
        where
          nobody : (m : Mark) (b : Bool) → asks_for C t e k m ≡ b → tick b ≤ 0
          nobody m true r =
              absurd (omega (arith, ltb-false k (length C.trains) q, asks-known C (single_rules C) t e m (asks_for-asks C t e k m r), asks_for-train C t e k m r))
          nobody m false r = omega arith

  -- the marks on an element are its trains
  pub enters-admits : (ms : List Mark) (v : List (Arrival Mark)) → Orderly C ms v → enters C e k ms ≡ admits C e k ms
  unfolding enters admits
  enters-admits ms v o = ap (λ (n : ℕ). same e gone || (ltb n (capacity C e) && not (partner_held C e k ms))) (trains_on-count C ms v o e)
