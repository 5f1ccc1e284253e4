-- What each serving and each end of blocks keeps, the whole run keeps: the law by which an invariant is lifted to a run, single or joint.
-- The rows that ask are fixed beforehand and none is added, so each asker served does ask for the element. Assumes nothing.
use Rattle.std.specs.Prelude.{◌≡◌, refl, false, length}
use Rattle.std.proofs.Common.{sym, ap, ◌∙◌, subst}
use Rattle.std.proofs.Math.Bool.{true, not}
use Rattle.std.proofs.lemmas.Bool.{false≢true}
use mathlib.Core.List.{List, [], ◌∷◌, ◌++◌, map}
use Prim.Native.Nat.{ℕ, zero, suc, ◌≤◌}
use native.Mathlib.Omega.{arith}
use Rattle.rules.specs.Lists.{keep, fold}
use Rattle.rules.specs.Files.{Case}
use Rattle.rules.specs.Turns.{Place, Mark, elements, ended, asks, Arrival, Served, State, state, Row, row, items, quiet, Visit, visiting, Turn, Rules, next, serve_next, turns, visit, minute, minutes, run_from}
use Rattle.rules.specs.Turns.Turn.{nobody, somebody}
use Rattle.theory_lists.specs.Every.{Every, every_append, every_left, every_right, every_map, every_all}
use Rattle.theory_lists.specs.Items.{served_rows, served_list, items-start, items_asker, items-served}
use Rattle.theory_simulation.specs.Askers.{Asking, Chosen, next-chosen}

-- ---- the rows around an asker

module _ {A : Type 0} where
  -- rows that do not ask have whatever asking rows have
  pub quiet-asking : (R : Rules A) (P : Mark → Type 0) (l : List A) → Every (Asking R P) (quiet l)
  quiet-asking R P l = every_map (λ a. Unit) (Asking R P) (λ a. row a false) (λ a u k. absurd (false≢true k)) l (every_all (λ a. Unit) (λ a. tt) l)

  -- serving adds no asker
  pub served-asking : (R : Rules A) (P : Mark → Type 0) (s : Served A) (b : List (Row A)) (a : A) (c : List (Row A))
      → Every (Asking R P) (b ++ (row a true ∷ c)) → Every (Asking R P) (served_rows s b c)
  served-asking R P s b a c h =
      every_append (Asking R P) (b ++ quiet s.rows ++ c) (quiet s.added)
      (every_append (Asking R P) (b ++ quiet s.rows) c
      (every_append (Asking R P) b (quiet s.rows) (every_left (Asking R P) b (row a true ∷ c) h) (quiet-asking R P s.rows))
      (every_right (Asking R P) b (row a true ∷ c) h).1)
      (quiet-asking R P s.added)

  -- the rows at the start of a visit: those ask that do
  pub asking-start : (C : Case) (R : Rules A) (t : ℕ) (e : Place) (l : List A)
      → Every (Asking R (λ m. asks C t e m ≡ true)) (map (λ a. row a (asks C t e (R.mark a))) l)
  asking-start C R t e l =
      every_map (λ a. Unit) (Asking R (λ m. asks C t e m ≡ true)) (λ a. row a (asks C t e (R.mark a))) (λ a u k. k) l (every_all (λ a. Unit) (λ a. tt) l)

-- ---- one minute

-- P of the list and the arrivals is kept in minute t, where the elements have E and each serving keeps it
module _ {A : Type 0} (C : Case) (R : Rules A) (t : ℕ) (E : Place → Type 0) (P : List A → List (Arrival A) → Type 0)
    (by-serve : (e : Place) → E e → (b : List A) (a : A) (c : List A) (v : List (Arrival A)) → asks C t e (R.mark a) ≡ true → P (b ++ (a ∷ c)) v
    → P (served_list (R.serve t e (b ++ (a ∷ c)) a) b c) (v ++ (R.serve t e (b ++ (a ∷ c)) a).arrived)) where
  pub turns-keep : (k : ℕ) (e : Place) → E e → (v : Visit A) → Every (Asking R (λ m. asks C t e m ≡ true)) v.rows
      → P (items v.rows) v.arrived → P (items (turns C R k t e v).rows) (turns C R k t e v).arrived
  unfolding turns
  turns-keep zero e f v q p = p
  turns-keep (suc k) e f v q p = go (next C R v.rows) (next-chosen C R v.rows) (turns-keep k e f)
    where
      go : (u : Turn A) → Chosen C R v.rows u
          → ((w : Visit A) → Every (Asking R (λ m. asks C t e m ≡ true)) w.rows → P (items w.rows) w.arrived → P (items (turns C R k t e w).rows) (turns C R k t e w).arrived)
          → P (items (turns C R k t e (serve_next C R t e v u)).rows) (turns C R k t e (serve_next C R t e v u)).arrived
      go nobody g ih = ih v q p
      go (somebody b a c) g ih =
          ih (serve_next C R t e v (somebody b a c))
          (served-asking R (λ m. asks C t e m ≡ true) s b a c asking)
          (subst (λ (l : List A). P l (v.arrived ++ s.arrived)) (sym (items-served s b c))
          (subst (λ (l : List A). P (served_list (R.serve t e l a) (items b) (items c)) (v.arrived ++ (R.serve t e l a).arrived)) (sym here)
          (by-serve e f (items b) a (items c) v.arrived ((every_right (Asking R (λ m. asks C t e m ≡ true)) b (row a true ∷ c) asking).0 refl)
          (subst (λ (l : List A). P l v.arrived) here p))))
        where
          s : Served A
          s = R.serve t e (items v.rows) a

          here : items v.rows ≡ items b ++ (a ∷ items c)
          here = ap items g.apart ∙ items_asker b a c

          asking : Every (Asking R (λ m. asks C t e m ≡ true)) (b ++ (row a true ∷ c))
          asking = subst (Every (Asking R (λ m. asks C t e m ≡ true))) g.apart q

  pub visit_keeps : (e : Place) → E e → (s : State A) → P s.list s.arrived → P (visit C R t e s).list (visit C R t e s).arrived
  unfolding visit
  visit_keeps e f s p =
      turns-keep (length s.list) e f (visiting (map (λ a. row a (asks C t e (R.mark a))) s.list) s.arrived s.met)
      (asking-start C R t e s.list) (subst (λ (l : List A). P l s.arrived) (sym (items-start (λ a. asks C t e (R.mark a)) s.list)) p)

  pub visits_keep : (es : List Place) → Every E es → (s : State A) → P s.list s.arrived → P (fold (visit C R t) es s).list (fold (visit C R t) es s).arrived
  visits_keep [] f s p = p
  visits_keep (e ∷ es) f s p = visits_keep es f.1 (visit C R t e s) (visit_keeps e f.0 s p)

-- ---- the law

-- P of the list and the arrivals is kept, up to minute `last`, where the elements have E
module _ {A : Type 0} (C : Case) (R : Rules A) (last : ℕ) (E : Place → Type 0) (places : Every E (elements C)) (P : List A → List (Arrival A) → Type 0)
    (by_end : (t : ℕ) → t ≤ last → (l : List A) (v : List (Arrival A)) → P l v → P (keep (λ a. not (ended t (R.mark a))) l) v)
    (by-serve : (t : ℕ) → t ≤ last → (e : Place) → E e → (b : List A) (a : A) (c : List A) (v : List (Arrival A)) → asks C t e (R.mark a) ≡ true → P (b ++ (a ∷ c)) v
    → P (served_list (R.serve t e (b ++ (a ∷ c)) a) b c) (v ++ (R.serve t e (b ++ (a ∷ c)) a).arrived)) where
  pub minutes-keep : (n : ℕ) → n ≤ suc last → (s : State A) → P s.list s.arrived → P (minutes C R n s).list (minutes C R n s).arrived
  unfolding minutes minute
  minutes-keep zero h s p = p
  minutes-keep (suc n) h s p =
      let u = minutes C R n s in
      let in_time : n ≤ last = omega arith in
      visits_keep C R n E P (by-serve n in_time) (elements C) places (state (keep (λ a. not (ended n (R.mark a))) u.list) u.arrived u.met)
      (by_end n in_time u.list u.arrived (minutes-keep n (omega arith) s p))

  pub run_keeps : (l : List A) → P l [] → (m : ℕ) → m ≤ last → P (run_from C R l m).list (run_from C R l m).arrived
  unfolding run_from
  run_keeps l p m h = minutes-keep (suc m) (omega arith) (state l [] (R.check l)) p
