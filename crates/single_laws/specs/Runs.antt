-- The single run on words is the single run of 01: element by element and minute by minute the words show the state of the run by passes, and so they
-- tell who has arrived when. Assumes nothing.
use Rattle.std.specs.Prelude.{◌≡◌, refl, false, length, get_or, replicate}
use Rattle.std.proofs.Math.Path.{sym, ap, subst}
use Rattle.std.proofs.Common.{◌∙◌, ext_get_or}
use mathlib.Core.List.{List, [], ◌∷◌, map}
use Prim.Native.Nat.{ℕ, zero, suc, ◌+◌, ◌-◌, ◌≤◌, ◌<◌}
use native.Mathlib.Omega.{arith}
use Rattle.std.proofs.lemmas.List.{length-map}
use Rattle.rules.specs.Lists.{fold, below}
use Rattle.rules.specs.Files.{Case}
use Rattle.rules.specs.Turns.{Mark, State, state}
use Rattle.rules.specs.Single.{first_marks, single, minute_of, arrival}
use Rattle.rules.specs.Calls.{choice_broken}
use Rattle.rules.specs.Answers.{minute_number}
use Rattle.theory_sound.specs.Facts.{Sound}
use Rattle.theory_lists.specs.Below.{length-span, every_below}
use Rattle.theory_lists.specs.Every.{Every}
use Rattle.theory_simulation.specs.Start.{first-orderly}
use Rattle.theory_codes.specs.Codes.{place_of}
use Rattle.theory_codes.specs.Tables.{order, tables}
use Rattle.theory_passes.specs.Order.{order-known, order-length}
use Rattle.theory_lists.specs.Folds.{fold-map}
use Rattle.theory_passes.specs.Passes.{pass_train, cleared, element_passes, minute_passes, minutes_passes, single_passes}
use Rattle.theory_passes.specs.Single.{InOrder, cleared-orderly}
use Rattle.theory_passes.proofs.Single.{pass_train-orderly, single-passes}
use Rattle.moving.specs.Words.{run_size, order_in, served_in, element_in, minute_in, start_in, ran_in}
use Rattle.moving.specs.Turns.{fold-last}
use Rattle.theory_lists.specs.Below.{get_d_below}
use Rattle.theory_codes.specs.Lookups.{table-trains, table-minute, table-order}
use Rattle.single_laws.specs.Shows as shows
use Rattle.single_laws.specs.Shows.{Shows, shows_cleared}
use Rattle.single_laws.specs.Asking.{few}
use Rattle.single_laws.specs.Serving.{served_shows}
use Rattle.single_laws.specs.Waiting.{start_shows}

-- r is the answer to a choice x for train k, whenever T is the tables of a sound case and x a choice of it
abbrev pub Arrives : List ℕ → List ℕ → ℕ → ℕ → Type 0
Arrives T x k r =
    (C : Case) → Sound C → T ≡ tables C → choice_broken C x ≡ false → k < length C.trains → r ≡ minute_number (arrival C x k)

-- what two folds keep between them
fold-both : {A : Type 0} (P : A → Type 0) (R : List ℕ → State Mark → Type 0) (f : A → List ℕ → List ℕ) (g : A → State Mark → State Mark)
    → ((a : A) → P a → (w : List ℕ) (s : State Mark) → R w s → R (f a w) (g a s)) → (l : List A) → Every P l → (w : List ℕ) (s : State Mark) → R w s → R (fold f l w) (fold g l s)
fold-both P R f g step [] h w s r = r
fold-both P R f g step (a ∷ l) h w s r = fold-both P R f g step l h.1 (f a w) (g a s) (step a h.0 w s r)

module _ (C : Case) (sound : Sound C) where
  abbrev n : ℕ
  n = length C.trains

  -- the words show a state that the run can be in
  abbrev Follows : ℕ → List ℕ → State Mark → Type 0
  Follows t w s = Shows C t w s × InOrder C s

  -- ---- elements

  order-words : map (order_in (tables C)) (below n) ≡ order C
  order-words =
      ext_get_or 0 (map (order_in (tables C)) (below n)) (order C) (size ∙ sym (order-length C))
      (λ i l. get_d_below (order_in (tables C)) n i 0 (omega (arith, size)) ∙ table-order C i (omega (arith, size)) (few C sound (omega (arith, size))))
    where
      size : length (map (order_in (tables C)) (below n)) ≡ n
      size = length-map (below n) (order_in (tables C)) ∙ length-span n 0

  element-order : (t e : ℕ) (w : List ℕ) → element_in (tables C) t e w ≡ fold (served_in (tables C) t e) (order C) w
  unfolding element_in
  element-order t e w =
      ap (λ (m : ℕ). fold (λ i u. served_in (tables C) t e (order_in (tables C) i) u) (below m) w) (table-trains C)
      ∙ sym (fold-map (served_in (tables C) t e) (order_in (tables C)) (below n) w)
      ∙ ap (λ (l : List ℕ). fold (served_in (tables C) t e) l w) order-words

  element_follows : (t e : ℕ) → e ≤ 64 → (w : List ℕ) (s : State Mark) → Follows t w s → Follows t (element_in (tables C) t e w) (element_passes C (pass_train C) t e s)
  element_follows t e l w s r =
      subst (λ (u : List ℕ). Follows t u (element_passes C (pass_train C) t e s)) (sym (element-order t e w))
      (fold-both (λ k. k < n) (Follows t) (served_in (tables C) t e) (pass_train C t (place_of e))
      (λ k low u v q. (served_shows C sound t e k low l u v q.0 q.1, pass_train-orderly C sound t (place_of e) k v q.1))
      (order C) (order-known C) w s r)

  -- ---- minutes

  minute_follows : (b t : ℕ) → b ≤ t → (w : List ℕ) (s : State Mark) → Follows b w s → Follows t (minute_in (tables C) t w) (minute_passes C (λ m. m) (pass_train C) t s)
  unfolding minute_in minute_passes
  minute_follows b t l w s r =
      fold-both (λ e. e < 65) (Follows t) (element_in (tables C) t) (element_passes C (pass_train C) t) (λ e low u v q. element_follows t e (omega arith) u v q) (below 65) (every_below 65) w
      (cleared (λ m. m) t s) (shows_cleared C b t w s l r.0, cleared-orderly C sound t s r.1)

  -- ---- the run

  abbrev first : List ℕ → State Mark
  first x = state (first_marks C x) [] 0

  abbrev after : List ℕ → ℕ → List ℕ
  after x m = fold (minute_in (tables C)) (below m) (start_in (tables C) x (replicate {A = ℕ} run_size 0))

  abbrev passes : List ℕ → ℕ → State Mark
  passes x m = minutes_passes C (λ a. a) (pass_train C) m (first x)

  -- after the first m minutes the words show the state of the run
  run_follows : (x : List ℕ) → choice_broken C x ≡ false → (m : ℕ) → (b : ℕ) × (b ≤ m) × Follows b (after x m) (passes x m)
  unfolding minutes_passes
  run_follows x unbroken zero = (0, omega arith, (start_shows C sound x unbroken, first-orderly C x))
  run_follows x unbroken (suc m) = go (run_follows x unbroken m)
    where
      go : (b : ℕ) × (b ≤ m) × Follows b (after x m) (passes x m) → (b : ℕ) × (b ≤ suc m) × Follows b (after x (suc m)) (passes x (suc m))
      go h = (
        m,
        omega arith,
        subst (λ (u : List ℕ). Follows m u (passes x (suc m))) (sym (fold-last (minute_in (tables C)) m (start_in (tables C) x (replicate {A = ℕ} run_size 0))))
            (minute_follows h.0 m h.1 (after x m) (passes x m) h.2),
      )

  -- the words after the run to minute m tell who has arrived when
  pub ran-arrived : (x : List ℕ) → choice_broken C x ≡ false → (k : ℕ) → k < n → (m : ℕ)
      → minute_of k (single C x m).arrived ≡ shows.minute_in (get_or (ran_in (tables C) x m) (16 + k) 0)
  unfolding ran_in single_passes
  ran-arrived x unbroken k low m =
      ap (λ (s : State Mark). minute_of k s.arrived) (single-passes C sound x m) ∙ (run_follows x unbroken (suc m)).2.0.arrivals k low

-- the minute that stands in a word, as the call answers it
pub record Reads (v r : ℕ) : Type 0 where
  pub none : v ≡ 0 → r ≡ 65535
  pub some : (v ≡ 0 → ⊥) → r ≡ v - 1

-- what is read after the run to the last minute is the minute of arrival
pub ran-arrives : (T x : List ℕ) (k r : ℕ) → Reads (get_or (ran_in T x (get_or T 1 0)) (16 + k) 0) r → Arrives T x k r
unfolding arrival
ran-arrives T x k r reads C sound tabled unbroken low =
    go (get_or (ran_in T x (get_or T 1 0)) (16 + k) 0) refl reads
    ∙ ap minute_number (
    ap shows.minute_in (
    ap (λ (t : List ℕ). get_or (ran_in t x (get_or t 1 0)) (16 + k) 0) tabled
    ∙ ap (λ (m : ℕ). get_or (ran_in (tables C) x m) (16 + k) 0) (table-minute C))
    ∙ sym (ran-arrived C sound x unbroken k low C.head.last_minute))
  where
    go : (v : ℕ) → get_or (ran_in T x (get_or T 1 0)) (16 + k) 0 ≡ v → Reads v r → r ≡ minute_number (shows.minute_in v)
    go zero h q = q.none refl
    go (suc v) h q = let e : suc v - 1 ≡ v = omega arith in q.some (λ z. omega arith) ∙ e
