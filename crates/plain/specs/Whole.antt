-- The plain engine on the tables of a sound case: choices may be run to every minute of the window, and after a part the words are what its choices add, and the
-- number told is how many choices it has. Takes `Sound` and delays of one byte as given, and assumes nothing else.
use Rattle.std.specs.Prelude.{◌≡◌, ℕ, zero, suc, ◌+◌, ◌-◌, ◌<◌, ◌≤◌, Bool, true, false, cond, List, [], ◌∷◌, length, take, drop, nat_le, nat_lt, slice_index, slice_index_or, slice_range}
use Rattle.std.proofs.Math.Path.{refl}
use Rattle.std.proofs.Common.{sym, ap, ◌∙◌, subst, arith, length-take, take_all, leb-true, ltb-true, ltb-false}
use Rattle.std.proofs.Math.ListN.{length-drop}
use Rattle.rules.specs.Lists.{fold, span}
use Rattle.rules.specs.Files.{Case}
use Rattle.rules.specs.Single.{single}
use Rattle.rules.specs.Joint.{choices}
use Rattle.rules.specs.Promised.{combinations}
use Rattle.theory_sound.specs.Facts.{Sound}
use Rattle.theory_lists.specs.Below.{span_last}
use Rattle.theory_lists.specs.Folds.{fold-append}
use Rattle.theory_weights.specs.Log.{single_logged}
use Rattle.theory_weights.specs.Arrivals.{By, minute_by}
use Rattle.theory_codes.specs.Tables.{tables}
use Rattle.theory_codes.specs.Lookups.{table-trains}
use Rattle.theory_passes.specs.Bounds.{ByteDelays}
use Rattle.theory_plain.specs.Numbered.{times, indices, choices-count}
use Rattle.words.specs.Spans.{onward}
use Rattle.moving.specs.Words.{ran_in}
use Rattle.single_laws.specs.Shows.{minute_in}
use Rattle.single_laws.specs.Plan.{tables-planned}
use Rattle.single_laws.specs.Runs.{ran-arrived}
use Rattle.plain.specs.Words.{Timely, Plotted, sizes_in, added_in, past_in}
use Rattle.plain.specs.Adding.{past-within}
use Rattle.plain.specs.Counting.{Tallied, Arrivals, nth, part, tables-sized, combinations_in, chosen-choice, choice-sound, chosen-weight, tallied_next}

-- a word that stands for a minute of the first m + 1 is at most m + 1
word_low : (m v : ℕ) → By m (minute_in v) → v ≤ suc m
word_low m zero h = omega arith
word_low m (suc t) h = omega (arith, h)

module _ (C : Case) (sound : Sound C) (m : ℕ) (in_window : m ≤ C.head.last_minute) where
  shown : (i : ℕ) → i < combinations C → Arrivals C m (nth C i) (ran_in (tables C) (indices (sizes_in (tables C)) i) m)
  shown i low k l =
      ran-arrived C sound (nth C i) (choice-sound C sound i low) k l m
      ∙ ap (λ (x : List ℕ). minute_in (slice_index (ran_in (tables C) x m) (16 + k))) (sym (chosen-choice C sound i low))

  timely : (i : ℕ) → i < combinations C → Timely (tables C) (ran_in (tables C) (indices (sizes_in (tables C)) i) m)
  timely i low k l =
      let word = slice_index_or (ran_in (tables C) (indices (sizes_in (tables C)) i) m) (16 + k) 0 in
      let known : k < length C.trains = omega (arith, table-trains C) in
      let by = subst (By m) (shown i low k known) (minute_by m k (single C (nth C i) m).arrived (single_logged C (nth C i) m)) in
      omega (arith, word_low m word by, sound.in_window)

  pub tables_plotted : ByteDelays C → Plotted (tables C) m
  tables_plotted bytes = record {
    planned = tables-planned C sound bytes;
    sized = tables-sized C sound;
    within = omega (arith, sound.in_window);
    timely = λ i l. timely i (omega (arith, combinations_in C sound));
  }

  -- ---- a part

  added_next : (first j : ℕ) (ws : List ℕ) → first + j < combinations C → Tallied C m (part C first j) ws → Tallied C m (part C first (suc j)) (added_in (tables C) m (first + j) ws)
  unfolding added_in
  added_next first j ws low h =
      tallied_next C sound m first j low _ ws _ (timely (first + j) low) (shown (first + j) low) (chosen-weight C sound (first + j) low) h

  added-span : (first d : ℕ) (ws : List ℕ) → first + d ≤ combinations C → Tallied C m [] ws → Tallied C m (part C first d) (fold (added_in (tables C) m) (span d first) ws)
  added-span first zero ws l h = h
  added-span first (suc d) ws l h =
      let next : d + first ≡ first + d = omega arith in
      subst (Tallied C m (part C first (suc d)))
      (sym (ap (λ (l : List ℕ). fold (added_in (tables C) m) l ws) (span_last d first) ∙ fold-append (added_in (tables C) m) (span d first) ((d + first) ∷ []) ws
      ∙ ap (λ (i : ℕ). added_in (tables C) m i (fold (added_in (tables C) m) (span d first) ws)) next))
      (added_next first d (fold (added_in (tables C) m) (span d first) ws) (omega arith) (added-span first d ws (omega arith) h))

-- ---- how many choices a part has

module _ {A : Type 0} (l : List A) (first most : ℕ) where
  -- the choices up to the number past the last one
  pub part-taken : (take (past_in (length l) first most - first) (drop first l) ≡ take most (drop first l)) × (past_in (length l) first most - first ≡ length (take most (drop first l)))
  unfolding past_in
  part-taken = go (nat_le (length l) first) (nat_lt most (length l - first)) refl refl
    where
      rest : length (drop first l) ≡ length l - first
      rest = length-drop first l

      go : (a b : Bool) → nat_le (length l) first ≡ a → nat_lt most (length l - first) ≡ b
          → (take (cond a first (cond b (first + most) (length l)) - first) (drop first l) ≡ take most (drop first l))
          × (cond a first (cond b (first + most) (length l)) - first ≡ length (take most (drop first l)))
      go true b p q =
          let ends : length l ≤ first = leb-true (length l) first p in
          let zero_left : first - first ≡ 0 = omega arith in (
            ap (λ (n : ℕ). take n (drop first l)) zero_left ∙ take_all 0 (drop first l) (omega (arith, rest)) ∙ sym (take_all most (drop first l) (omega (arith, rest))),
            omega (arith, rest, length-take most (drop first l)),
          )
      go false true p q =
          let some : most < length l - first = ltb-true most (length l - first) q in
          let taken : first + most - first ≡ most = omega arith in
          (ap (λ (n : ℕ). take n (drop first l)) taken, omega (arith, rest, length-take most (drop first l)))
      go false false p q =
          let few : length l - first ≤ most = ltb-false most (length l - first) q in (
            take_all (length l - first) (drop first l) (omega (arith, rest)) ∙ sym (take_all most (drop first l) (omega (arith, rest))),
            omega (arith, rest, length-take most (drop first l)),
          )

module _ (C : Case) (sound : Sound C) (m : ℕ) (in_window : m ≤ C.head.last_minute) (first most : ℕ) where
  -- the number past the part's last choice
  abbrev end : ℕ
  end = past_in (times (sizes_in (tables C))) first most

  all-choices : times (sizes_in (tables C)) ≡ length (choices C)
  all-choices = combinations_in C sound ∙ sym (choices-count C sound)

  taken : (slice_range (choices C) first end ≡ part C first most) × (end - first ≡ length (part C first most))
  taken = subst (λ (n : ℕ). (take (past_in n first most - first) (drop first (choices C)) ≡ part C first most) × (past_in n first most - first ≡ length (part C first most)))
      (sym all-choices) (part-taken (choices C) first most)

  -- the number told is how many choices the part has
  pub part_count : end - first ≡ length (part C first most)
  part_count = taken.1

  -- and after them the words are what they add
  pub part_tallied : (ws : List ℕ) → Tallied C m [] ws → Tallied C m (part C first most) (fold (added_in (tables C) m) (onward end first) ws)
  part_tallied ws h = subst (λ (xs : List (List ℕ)). Tallied C m xs (fold (added_in (tables C) m) (span (end - first) first) ws)) taken.0 (go (nat_lt first end) refl)
    where
      go : (b : Bool) → nat_lt first end ≡ b → Tallied C m (part C first (end - first)) (fold (added_in (tables C) m) (span (end - first) first) ws)
      go true q =
          let some : first < end = ltb-true first end q in
          let within : end ≤ times (sizes_in (tables C)) = (past-within (times (sizes_in (tables C))) first most).1 some in
          added-span C sound m in_window first (end - first) ws (omega (arith, combinations_in C sound)) h
      go false q =
          let none_left : end - first ≡ 0 = omega (arith, ltb-false first end q) in
          subst (λ (d : ℕ). Tallied C m (part C first d) (fold (added_in (tables C) m) (span d first) ws)) (sym none_left) h
