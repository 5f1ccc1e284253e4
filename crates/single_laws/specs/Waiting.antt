-- The first words show the first marks: each train waits outside, due at its first arrival plus its delay, and nothing blocks or has arrived.
-- A train writes its own two words, so those of the others stay. Assumes nothing.
use Rattle.std.specs.Prelude.{◌≡◌, refl, Bool, true, false, List, [], ℕ, zero, suc, ◌+◌, ◌*◌, ◌≤◌, ◌<◌, length, get_or, set, replicate, ltb, eqb}
use Rattle.std.proofs.Common.{sym, ap₂, ◌∙◌, zero-mul, eqb-true}
use Rattle.std.proofs.Math.Path.{ap}
use native.Mathlib.Omega.{arith}
use Rattle.std.proofs.Math.ListN.{length-set, length-replicate}
use Rattle.std.proofs.Math.Seq.{get_or-set_same, get_or-set_other}
use Rattle.std.proofs.lemmas.Bool.{eqb-false}
use Rattle.rules.specs.Lists.{tick, sum, fold, span, below}
use Rattle.rules.specs.Files.{Case}
use Rattle.rules.specs.Turns.{Mark, stands, train_at, state}
use Rattle.rules.specs.Turns.Place.{outside}
use Rattle.rules.specs.Single.{pair_at, first_arrival, waits, first_marks}
use Rattle.rules.specs.Calls.{choice_broken}
use Rattle.theory_sound.specs.Facts.{Sound}
use Rattle.theory_lists.specs.Sums.{sum-map, sum-zero}
use Rattle.theory_lists.specs.Writes.{zeros-at}
use Rattle.theory_simulation.specs.Start.{choice-at}
use Rattle.theory_simulation.specs.Choices.{unbroken-choice}
use Rattle.theory_codes.specs.Codes.{place_of}
use Rattle.theory_codes.specs.Tables.{tables}
use Rattle.moving.specs.Words.{run_size, waits_in, start_in}
use Rattle.theory_codes.specs.Lookups.{table-first}
use Rattle.single_laws.specs.Looks.{look_delay}
use Rattle.single_laws.specs.Sums.{sum_below_lem}
use Rattle.single_laws.specs.Shows.{minute_in, stands_in, block_in, block_term, blocks_sum, Shows}
use Rattle.single_laws.specs.Asking.{few}

module _ (T x : List ℕ) where
  -- the due minute of a train of the choice
  abbrev pub first_due : ℕ → ℕ
  first_due k = get_or T (32 + k) 0 + get_or T (48 + k * 8 + get_or x k 0) 0

  abbrev pub begun : ℕ → ℕ → List ℕ → List ℕ
  begun m j w = fold (λ k u. waits_in T k (get_or x k 0) u) (span m j) w

  waits-length : (k : ℕ) (w : List ℕ) → length (waits_in T k (get_or x k 0) w) ≡ length w
  unfolding waits_in
  waits-length k w = simp (length-set, length-set)

  waits-other : (k i : ℕ) (w : List ℕ) → (i ≡ k → ⊥) → (i ≡ 8 + k → ⊥) → get_or (waits_in T k (get_or x k 0) w) i 0 ≡ get_or w i 0
  unfolding waits_in
  waits-other k i w d f = get_or-set_other (set w k 65) (8 + k) i (first_due k) 0 f ∙ get_or-set_other w k i 65 0 d

  waits-place : (k : ℕ) (w : List ℕ) → k < length w → get_or (waits_in T k (get_or x k 0) w) k 0 ≡ 65
  unfolding waits_in
  waits-place k w l = get_or-set_other (set w k 65) (8 + k) k (first_due k) 0 (λ q. omega arith) ∙ get_or-set_same w k 65 0 l

  waits-due : (k : ℕ) (w : List ℕ) → 8 + k < length w → get_or (waits_in T k (get_or x k 0) w) (8 + k) 0 ≡ first_due k
  unfolding waits_in
  waits-due k w l = get_or-set_same (set w k 65) (8 + k) (first_due k) 0 (omega (arith, length-set w k 65))

  pub begun-length : (m j : ℕ) (w : List ℕ) → length (begun m j w) ≡ length w
  begun-length zero j w = refl
  begun-length (suc m) j w = begun-length m (suc j) (waits_in T j (get_or x j 0) w) ∙ waits-length j w

  -- a word that is no train's of the span
  pub begun-other : (m j i : ℕ) (w : List ℕ) → ((k : ℕ) → j ≤ k → k < j + m → (i ≡ k → ⊥) × (i ≡ 8 + k → ⊥)) → get_or (begun m j w) i 0 ≡ get_or w i 0
  begun-other zero j i w h = refl
  begun-other (suc m) j i w h =
      begun-other m (suc j) i (waits_in T j (get_or x j 0) w) (λ k l q. h k (omega arith) (omega arith))
      ∙ waits-other j i w (h j (omega arith) (omega arith)).0 (h j (omega arith) (omega arith)).1

  -- the two words of a train of the span
  pub begun-own : (m j k : ℕ) (w : List ℕ) → length w ≡ 544 → j ≤ k → k < j + m → j + m ≤ 8 → (get_or (begun m j w) k 0 ≡ 65) × (get_or (begun m j w) (8 + k) 0 ≡ first_due k)
  begun-own zero j k w size l q r = absurd (omega arith)
  begun-own (suc m) j k w size l q r = go (eqb k j) refl (begun-own m (suc j) k (waits_in T j (get_or x j 0) w) (waits-length j w ∙ size))
    where
      u : List ℕ
      u = waits_in T j (get_or x j 0) w

      go : (b : Bool) → eqb k j ≡ b
          → (suc j ≤ k → k < suc j + m → suc j + m ≤ 8 → (get_or (begun m (suc j) u) k 0 ≡ 65) × (get_or (begun m (suc j) u) (8 + k) 0 ≡ first_due k))
          → (get_or (begun m (suc j) u) k 0 ≡ 65) × (get_or (begun m (suc j) u) (8 + k) 0 ≡ first_due k)
      go true f ih =
          let own : k ≡ j = eqb-true k j f in (
            begun-other m (suc j) k u (λ i a b. (λ e. omega arith, λ e. omega arith)) ∙ ap (λ (i : ℕ). get_or u i 0) own ∙ waits-place j w (omega arith),
            begun-other m (suc j) (8 + k) u (λ i a b. (λ e. omega arith, λ e. omega arith)) ∙ ap (λ (i : ℕ). get_or u (8 + i) 0) own ∙ waits-due j w (omega arith) ∙ ap first_due (sym own),
          )
      go false f ih = let other : k ≡ j → ⊥ = eqb-false k j f in ih (omega arith) (omega arith) (omega arith)

module _ (C : Case) (sound : Sound C) (x : List ℕ) (unbroken : choice_broken C x ≡ false) where
  abbrev n : ℕ
  n = length C.trains

  abbrev w : List ℕ
  w = begun (tables C) x n 0 (replicate {A = ℕ} run_size 0)

  first-own : (k : ℕ) → k < n → (get_or w k 0 ≡ 65) × (get_or w (8 + k) 0 ≡ first_due (tables C) x k)
  first-own k l = begun-own (tables C) x n 0 k (replicate {A = ℕ} run_size 0) (length-replicate {A = ℕ} run_size 0) (omega arith) (omega arith) (omega (arith, sound.few_trains))

  first-none : (i : ℕ) → 16 ≤ i → get_or w i 0 ≡ 0
  first-none i l =
      begun-other (tables C) x n 0 i (replicate {A = ℕ} run_size 0) (λ k a b. (λ e. omega (arith, sound.few_trains), λ e. omega (arith, sound.few_trains))) ∙ zeros-at run_size i

  first-due : (k : ℕ) → k < n → first_due (tables C) x k ≡ first_arrival (train_at C k).stops + (pair_at C k (get_or x k 0)).delay
  first-due k l =
      ap₂ ◌+◌ (table-first C k l (few C sound l))
      (look_delay C k (few C sound l) (get_or x k 0) (omega (arith, choice-at C sound x (unbroken-choice C sound x unbroken) k l, sound.few_pairs k l)))

  first-stands : (k : ℕ) → k < n → waits C k (get_or x k 0) ≡ stands_in w k
  unfolding waits place_of
  first-stands k l =
      ap (λ (d : ℕ). stands k outside d) (sym ((first-own k l).1 ∙ first-due k l)) ∙ ap (λ (p : ℕ). stands k (place_of p) (get_or w (8 + k) 0)) (sym (first-own k l).0)

  -- the first words show the first marks
  pub start_shows : Shows C 0 (start_in (tables C) x (replicate {A = ℕ} run_size 0)) (state (first_marks C x) [] 0)
  unfolding start_in first_marks tables
  start_shows = record {
    size = begun-length (tables C) x n 0 (replicate {A = ℕ} run_size 0) ∙ length-replicate {A = ℕ} run_size 0;
    placed = λ k l. omega (arith, (first-own k l).0);
    sums = λ f.
        sum-map f (λ k. waits C k (get_or x k 0)) (below n)
        ∙ sum_below_lem (λ k. f (waits C k (get_or x k 0))) (λ k. f (stands_in w k)) n (λ k l. ap f (first-stands k l))
        ∙ none_more (sum (λ k. f (stands_in w k)) (below n)) (blocks_sum n 0 w f) (free f);
    arrivals = λ k l. ap minute_in (sym (first-none (16 + k) (omega arith)));
  }
    where
      none_more : (a b : ℕ) → b ≡ 0 → a ≡ a + b
      none_more a b h = omega arith

      free : (f : Mark → ℕ) → blocks_sum n 0 w f ≡ 0
      free f =
          sum_below_lem (λ e. sum (block_term 0 w f e) (below n)) (λ e. 0) 65
          (λ e l. sum_below_lem (block_term 0 w f e) (λ k. 0) n
          (λ k m. ap (λ (v : ℕ). tick (ltb 0 v) * f (block_in w e k)) (first-none (24 + e * 8 + k) (omega arith)) ∙ zero-mul (f (block_in w e k))) ∙ sum-zero (below n))
          ∙ sum-zero (below 65)
