-- The single run's walk of a train is its pass: in order at most one of the train's marks asks, and the list is split at the one asker, if there is one.
-- Assumes nothing.
use Rattle.std.specs.Prelude.{◌≡◌, true, false, ◌&&◌, cond, ℕ, ltb}
use Rattle.std.proofs.Math.Path.{refl, sym, ap, ap₂}
use Rattle.std.proofs.Common.{◌∙◌}
use Rattle.std.proofs.Math.Bool.{Bool, and-false}
use mathlib.Core.List.{List, [], ◌∷◌, ◌++◌, append-nil, append_assoc}
use Rattle.rules.specs.Refusals.{first_of}
use Rattle.rules.specs.Files.{Case}
use Rattle.rules.specs.Turns.{Place, Mark, entered, arriving, Served, served, State, state, Arrival}
use Rattle.rules.specs.Single.{enters, serve_train, single_rules}
use Rattle.theory_lists.specs.Every.{Every, every_all, every_more}
use Rattle.theory_simulation.specs.Orderly.{Orderly}
use Rattle.theory_trace.specs.Trace.{first-none}
use Rattle.theory_lists.specs.Kept.{AtMostOne, at_most_one}
use Rattle.theory_lists.specs.Kept.AtMostOne.{none, single}
use Rattle.theory_passes.specs.Passes.{asks_for, admits, goes, pass_train}
use Rattle.theory_passes.specs.Walk.{asks_for-train, walk_one, walk, walk_all, walk-nobody}
use Rattle.theory_passes.specs.Alone.{pass_train-stays, pass_train-enters, pass_train-nobody, asker_alone, enters-admits}

module _ (C : Case) (t : ℕ) (e : Place) (k : ℕ) where
  -- ---- the walk

  walk_skip : (done front rest : List Mark) (v : List (Arrival Mark)) (n : ℕ) → Every (λ m. asks_for C t e k m ≡ false) front
      → walk C (single_rules C) t e k done (front ++ rest) [] v n ≡ walk C (single_rules C) t e k (done ++ front) rest [] v n
  unfolding walk single_rules
  walk_skip done [] rest v n h = ap (λ (d : List Mark). walk C (single_rules C) t e k d rest [] v n) (sym (append-nil done))
  walk_skip done (m ∷ front) rest v n h =
      ap (walk_one C (single_rules C) t e (λ d w. walk C (single_rules C) t e k d (front ++ rest) w) done m (front ++ rest) [] v n) h.0
      ∙ walk_skip (done ++ (m ∷ [])) front rest v n h.1
      ∙ ap (λ (d : List Mark). walk C (single_rules C) t e k d rest [] v n) (append_assoc done (m ∷ []) front)

  -- the walk of a train is its pass
  pub walk-pass_train : (s : State Mark) → Orderly C s.list s.arrived → walk_all C (single_rules C) t e k s ≡ pass_train C t e k s
  unfolding walk single_rules serve_train goes
  walk-pass_train s o = by (at_most_one (asks_for C t e k) s.list (asker_alone C t e k s.list s.arrived o))
    where
      by : AtMostOne (asks_for C t e k) s.list → walk_all C (single_rules C) t e k s ≡ pass_train C t e k s
      by (none h) =
          walk-nobody C (single_rules C) t e k [] s.list [] s.arrived s.met h
          ∙ ap (λ (l : List Mark). state l s.arrived s.met) (append-nil s.list)
          ∙ sym (pass_train-nobody C t e k s h)
      by (single a) =
          ap (λ (l : List Mark). walk C (single_rules C) t e k [] l [] s.arrived s.met) a.split
          ∙ walk_skip [] a.front (a.the ∷ a.back) s.arrived s.met a.front_none
          ∙ ap (walk_one C (single_rules C) t e (λ d w. walk C (single_rules C) t e k d a.back w) a.front a.the a.back [] s.arrived s.met) a.passes
          ∙ walk-nobody C (single_rules C) t e k (a.front ++ u.rows) a.back ([] ++ u.added) (s.arrived ++ u.arrived) (first_of (ltb 0 s.met) s.met 0) a.back_none
          ∙ ap₂ (λ (w : Served Mark) (n : ℕ). after w n) verdict (first-none s.met)
          ∙ go (admits C e k s.list) refl
        where
          cur : List Mark
          cur = a.front ++ (a.the ∷ (a.back ++ []))

          here : cur ≡ s.list
          here = ap (λ (l : List Mark). a.front ++ (a.the ∷ l)) (append-nil a.back) ∙ sym a.split

          u : Served Mark
          u = serve_train C t e cur a.the

          came : Bool → Served Mark
          came b = cond b (served [] (entered C t e a.the) (arriving C t e a.the)) (served (a.the ∷ []) [] [])

          after : Served Mark → ℕ → State Mark
          after w n = state ((a.front ++ w.rows) ++ (a.back ++ ([] ++ w.added))) (s.arrived ++ w.arrived) n

          verdict : u ≡ came (admits C e k s.list)
          verdict = ap came (ap₂ (enters C e) (asks_for-train C t e k a.the a.passes) here ∙ enters-admits C t e k s.list s.arrived o)

          goes_if : (b : Bool) → admits C e k s.list ≡ b → (m : Mark) (c : Bool) → asks_for C t e k m ≡ c → goes C t e k s.list m ≡ (c && b)
          goes_if b q m c r = ap₂ (λ (y z : Bool). y && z) r q

          go : (b : Bool) → admits C e k s.list ≡ b → after (came b) s.met ≡ pass_train C t e k s
          go true q =
              ap (λ (l : List Mark). state l (s.arrived ++ arriving C t e a.the) s.met)
              (ap (λ (l : List Mark). l ++ (a.back ++ entered C t e a.the)) (append-nil a.front) ∙ sym (append_assoc a.front a.back (entered C t e a.the)))
              ∙ sym (pass_train-enters C t e k s record {
                front = a.front;
                the = a.the;
                back = a.back;
                split = a.split;
                passes = goes_if true q a.the true a.passes;
                front_none = every_more (λ m. asks_for C t e k m ≡ false) (λ m. goes C t e k s.list m ≡ false) (λ m r. goes_if true q m false r) a.front a.front_none;
                back_none = every_more (λ m. asks_for C t e k m ≡ false) (λ m. goes C t e k s.list m ≡ false) (λ m r. goes_if true q m false r) a.back a.back_none;
              })
          go false q =
              (λ i. state (whole i) (append-nil s.arrived i) s.met)
              ∙ sym (pass_train-stays C t e k s (every_all (λ m. goes C t e k s.list m ≡ false) (λ m. goes_if false q m (asks_for C t e k m) refl ∙ and-false (asks_for C t e k m)) s.list))
            where
              whole : (a.front ++ (a.the ∷ [])) ++ (a.back ++ []) ≡ s.list
              whole = append_assoc a.front (a.the ∷ []) (a.back ++ []) ∙ here
