-- The lists of a run: the first one and the list after each asking item was served, in the order of serving; what the run has met is what the first of
-- them that is refused is refused for. The definitions go step by step with the run, and so does the induction. Assumes nothing.
use Rattle.std.specs.Prelude.{◌≡◌, refl, Bool, true, false, cond, ltb}
use Rattle.std.proofs.Common.{sym, ap, ◌∙◌, arith, lt-ltb}
use mathlib.Core.List.{List, [], ◌∷◌, ◌++◌, map, map-append}
use Prim.Native.Nat.{ℕ, zero, suc}
use Rattle.rules.specs.Lists.{fold}
use Rattle.rules.specs.Refusals.{first_of}
use Rattle.rules.specs.Files.{Case}
use Rattle.rules.specs.Turns.{Place, State, state, Row, items, Visit, Turn, Rules, elements, behind, find, goes_first, next, serve_next, turns, visit, minute, minutes, run_from}
use Rattle.rules.specs.Turns.Turn.{nobody, somebody}
use Rattle.rules.specs.Demands.{rows_after, turn_list, turn_lists, visit_lists, visits_lists, minute_lists, minutes_lists, run_lists}
use Rattle.theory_lists.specs.Items.{served_list, items-served}

-- ---- the definitions

-- the first number that is not 0, if any
abbrev pub first_met : List ℕ → ℕ
first_met [] = 0
first_met (n ∷ l) = first_of (ltb 0 n) n (first_met l)

-- ---- the asker

-- the asker stands in its row
abbrev pub Splits : {A : Type 0} → List (Row A) → Turn A → Type 0
Splits rs nobody = Unit
Splits rs (somebody b a c) = items rs ≡ items b ++ (a ∷ items c)

module _ {A : Type 0} (C : Case) (R : Rules A) where
  find_splits : (test : Row A → Bool) (rs : List (Row A)) → Splits rs (find test rs)
  find_splits test [] = tt
  find_splits test (r ∷ rs) = go (test r) (find test rs) (find_splits test rs)
    where
      go : (b : Bool) (u : Turn A) → Splits rs u → Splits (r ∷ rs) (cond b (somebody [] r.item rs) (behind r u))
      go true u h = refl
      go false nobody h = tt
      go false (somebody b a c) h = ap (λ (l : List A). r.item ∷ l) h

  pub next_splits : (rs : List (Row A)) → Splits rs (next C R rs)
  unfolding next
  next_splits rs = find_splits (goes_first C R rs) rs

  -- the list after an asker was served
  pub items-after : (t : ℕ) (e : Place) (rs b : List (Row A)) (a : A) (c : List (Row A))
      → items (rows_after C R t e rs b a c) ≡ served_list (R.serve t e (items rs) a) (items b) (items c)
  items-after t e rs b a c = items-served (R.serve t e (items rs) a) b c

-- ---- what is met

-- what was met first, of three
pub first_assoc : (n m k : ℕ) → first_of (ltb 0 (first_of (ltb 0 n) n m)) (first_of (ltb 0 n) n m) k ≡ first_of (ltb 0 n) n (first_of (ltb 0 m) m k)
first_assoc n m k = go (ltb 0 n) refl
  where
    go : (b : Bool) → ltb 0 n ≡ b → first_of (ltb 0 (first_of b n m)) (first_of b n m) k ≡ first_of b n (first_of (ltb 0 m) m k)
    go true e = ap (λ (c : Bool). first_of c n k) e
    go false e = refl

pub first-none : (n : ℕ) → first_of (ltb 0 n) n 0 ≡ n
first-none zero = refl
first-none (suc n) = ap (λ (c : Bool). first_of c (suc n) 0) (lt-ltb 0 (suc n) (omega arith))

first_met-append : (s t : List ℕ) → first_met (s ++ t) ≡ first_of (ltb 0 (first_met s)) (first_met s) (first_met t)
first_met-append [] t = refl
first_met-append (n ∷ s) t = ap (first_of (ltb 0 n) n) (first_met-append s t) ∙ sym (first_assoc n (first_met s) (first_met t))

module _ {A : Type 0} (C : Case) (R : Rules A) where
  -- the lists add to what was met before what they are refused for
  abbrev Adds : ℕ → List (List A) → ℕ → Type 0
  Adds n ls m = m ≡ first_of (ltb 0 n) n (first_met (map R.check ls))

  adds_none : (n : ℕ) → Adds n [] n
  adds_none n = sym (first-none n)

  adds_then : (n m k : ℕ) (s t : List (List A)) → Adds n s m → Adds m t k → Adds n (s ++ t) k
  adds_then n m k s t h g =
      g
      ∙ ap (λ (i : ℕ). first_of (ltb 0 i) i (first_met (map R.check t))) h
      ∙ first_assoc n (first_met (map R.check s)) (first_met (map R.check t))
      ∙ ap (first_of (ltb 0 n) n) (sym (ap first_met (map-append R.check s t) ∙ first_met-append (map R.check s) (map R.check t)))

  -- an asker served adds what the list after it is refused for
  turn-met : (t : ℕ) (e : Place) (v : Visit A) (u : Turn A) → Adds v.met (turn_list C R t e v.rows u) (serve_next C R t e v u).met
  turn-met t e v nobody = adds_none v.met
  turn-met t e v (somebody b a c) = ap (first_of (ltb 0 v.met) v.met) (sym (first-none (R.check (items (rows_after C R t e v.rows b a c)))))

  turns-met : (k t : ℕ) (e : Place) (v : Visit A) → Adds v.met (turn_lists C R k t e v) (turns C R k t e v).met
  unfolding turns turn_lists
  turns-met zero t e v = adds_none v.met
  turns-met (suc k) t e v =
      let u = next C R v.rows in
      adds_then v.met _ _ (turn_list C R t e v.rows u) (turn_lists C R k t e (serve_next C R t e v u)) (turn-met t e v u) (turns-met k t e (serve_next C R t e v u))

  visits_met : (t : ℕ) (es : List Place) (s : State A) → Adds s.met (visits_lists C R t es s) (fold (visit C R t) es s).met
  unfolding visit_lists visit
  visits_met t [] s = adds_none s.met
  visits_met t (e ∷ es) s =
      adds_then s.met _ _ (visit_lists C R t e s) (visits_lists C R t es (visit C R t e s)) (turns-met _ t e _) (visits_met t es (visit C R t e s))

  minutes-met : (n : ℕ) (s : State A) → Adds s.met (minutes_lists C R n s) (minutes C R n s).met
  unfolding minutes minutes_lists minute minute_lists
  minutes-met zero s = adds_none s.met
  minutes-met (suc n) s = adds_then s.met _ _ (minutes_lists C R n s) (minute_lists C R n (minutes C R n s)) (minutes-met n s) (visits_met n (elements C) _)

  -- what a run has met is what the first refused of its lists is refused for
  pub run-met : (l : List A) (m : ℕ) → (run_from C R l m).met ≡ first_met (map R.check (run_lists C R l m))
  unfolding run_from run_lists
  run-met l m = minutes-met (suc m) (state l [] (R.check l))
