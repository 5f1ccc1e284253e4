-- The words of the plain engine stand for what the definitions say: for the tables of a sound case, the number taken apart is the choice of that number, its weight
-- is the choice's, and after the choices of a part each word is what the part adds for its train and minute. No sum passes 100^n. Takes `Sound` as given, and
-- assumes nothing else.
use Rattle.std.specs.Prelude.{◌≡◌, ℕ, suc, ◌+◌, ◌*◌, ◌/◌, ◌%◌, ◌^◌, ◌<◌, ◌≤◌, Bool, true, false, cond, List, [], ◌∷◌, map, length, get_or, take, drop, replicate, nat_lt, slice_index, slice_index_or, refl}
use Rattle.std.proofs.Common.{sym, ◌∙◌, mod-eq_of_lt, mod-lt, arith, ltb-true, ltb-false}
use Rattle.std.proofs.Math.Path.{ap, ap₂}
use Rattle.std.proofs.Math.Option.{Option}
use Rattle.std.proofs.Math.ListN.{length-replicate, get_or-eq_default}
use Rattle.rules.specs.Lists.{below}
use Rattle.rules.specs.Files.{Case, Pair}
use Rattle.rules.specs.Single.{pair_at, single, minute_of}
use Rattle.rules.specs.Joint.{choices, whole, covers, weight_from, weight_of}
use Rattle.rules.specs.Calls.{choice_broken}
use Rattle.rules.specs.Demands.{Choice, is_in}
use Rattle.rules.specs.Plain.{arrival_by, adds, added_by}
use Rattle.rules.specs.Promised.{combinations}
use Rattle.theory_sound.specs.Facts.{Sound}
use Rattle.theory_lists.specs.Every.{Every, every_at, every_anywhere}
use Rattle.theory_lists.specs.Sums.{sum-at}
use Rattle.theory_lists.specs.Writes.{zeros-at}
use Rattle.theory_weights.specs.Choices.{choices-whole}
use Rattle.theory_weights.specs.Most.{total-most}
use Rattle.theory_demands.specs.Choices.{choice-unbroken}
use Rattle.theory_codes.specs.Tables.{tables}
use Rattle.theory_codes.specs.Lookups.{table-trains, table-delays, table-weight}
use Rattle.theory_passes.proofs.Unknown.{unknown-never}
use Rattle.theory_plain.specs.Numbered.{map_same, times, indices, sizes, sizes-some, sizes-most, sizes-length, combinations-times, choices-count, choice_numbered}
use Rattle.theory_plain.specs.Added.{added_more, part-most}
use Rattle.single_laws.specs.Shows.{minute_in}
use Rattle.plain.specs.Words.{Timely, sizes_in, weight_in, Sized, tallied_in}
use Rattle.plain.specs.Choosing.{indices-length}
use Rattle.plain.specs.Tallying.{tallied_size, tallied_train, tallied_none}

-- the choice numbered i
abbrev pub nth : Case → ℕ → List ℕ
nth C i = slice_index_or (choices C) i []

-- the choices numbered from `first` on, at most `most` of them
abbrev pub part : Case → ℕ → ℕ → List (List ℕ)
part C first most = take most (drop first (choices C))

-- after the choices xs the words are what they add
pub record Tallied (C : Case) (m : ℕ) (xs : List (List ℕ)) (ws : List ℕ) : Type 0 where
  pub size : length ws ≡ 5760
  pub words : (k t : ℕ) → k < 8 → t < 720 → slice_index ws (k * 720 + t) ≡ added_by C m xs k t

-- the words show in which minute of the choice's run each train arrives, and none arrives past the window
abbrev pub Arrivals : Case → ℕ → List ℕ → List ℕ → Type 0
Arrivals C m x run =
    (k : ℕ) → k < length C.trains → minute_of k (single C x m).arrived ≡ minute_in (slice_index run (16 + k))

-- each of a list's indices is below 8
indices-low : (l : List ℕ) → Every (λ s. 0 < s) l → Every (λ s. s ≤ 8) l → (i : ℕ) → Every (λ d. d < 8) (indices l i)
indices-low [] h m i = tt
indices-low (s ∷ l) h m i = (omega (arith, mod-lt (i / times l) h.0, m.0), indices-low l h.1 m.1 i)

module _ (C : Case) (sound : Sound C) where
  abbrev n : ℕ
  n = length C.trains

  -- ---- the tables

  weight-low : (k d : ℕ) → (pair_at C k d).weight ≤ 100
  weight-low k d = go (nat_lt k n) refl
    where
      none : Pair
      none = record { delay = 0; weight = 0 }

      go : (b : Bool) → nat_lt k n ≡ b → (pair_at C k d).weight ≤ 100
      go true q =
          every_anywhere (λ p. p.weight ≤ 100) (slice_index_or C.tables k []) none (omega arith)
          (sum-at (λ p. p.weight) (slice_index_or C.tables k []) 100 (omega (arith, sound.hundred k (ltb-true k n q)))) d
      go false q =
          let past : get_or C.tables k [] ≡ [] = get_or-eq_default C.tables [] (omega (arith, ltb-false k n q, sound.tabled)) in
          omega (arith, ap (λ (l : List Pair). (get_or l d none).weight) past)

  pub tables-sized : Sized (tables C)
  tables-sized = record {
    few = omega (arith, table-trains C, sound.few_trains);
    some = λ k l. omega (arith, size_in k (omega (arith, table-trains C)), sound.some_pair k (omega (arith, table-trains C)));
    most = λ k l. omega (arith, size_in k (omega (arith, table-trains C)), sound.few_pairs k (omega (arith, table-trains C)));
    light = λ k d l m. omega (arith, table-weight C k d l m, weight-low k d);
  }
    where
      size_in : (k : ℕ) → k < n → slice_index (tables C) (40 + k) ≡ length (slice_index_or C.tables k [])
      size_in k l = table-delays C k l (omega (arith, sound.few_trains))

  pub sizes_in_lem : sizes_in (tables C) ≡ sizes C
  unfolding sizes_in sizes
  sizes_in_lem =
      ap (λ (m : ℕ). map (λ k. slice_index (tables C) (40 + k)) (below m)) (table-trains C)
      ∙ map_same (λ k. slice_index (tables C) (40 + k)) (λ k. length (slice_index_or C.tables k [])) n 0 (λ k l. table-delays C k (omega arith) (omega (arith, sound.few_trains)))

  pub combinations_in : times (sizes_in (tables C)) ≡ combinations C
  combinations_in = ap times sizes_in_lem ∙ sym (combinations-times C sound)

  -- ---- a choice and its weight

  weights-same : (x : List ℕ) (k : ℕ) → k + length x ≤ 8 → Every (λ d. d < 8) x → weight_in (tables C) k x ≡ weight_from C k x
  weights-same [] k l h = refl
  weights-same (d ∷ x) k l h = ap₂ ◌*◌ (table-weight C k d (omega arith) h.0) (weights-same x (suc k) (omega arith) h.1)

  module _ (i : ℕ) (low : i < combinations C) where
    pub chosen-choice : indices (sizes_in (tables C)) i ≡ nth C i
    chosen-choice = ap (λ (l : List ℕ). indices l i) sizes_in_lem ∙ sym (choice_numbered C sound i low)

    choice-is : Choice C (nth C i)
    choice-is = every_at (λ y. covers (whole C) y ≡ true) (choices C) [] (choices-whole C) i (omega (arith, choices-count C sound))

    pub choice-sound : choice_broken C (nth C i) ≡ false
    choice-sound = choice-unbroken C sound (nth C i) choice-is

    pub chosen-weight : weight_in (tables C) 0 (indices (sizes_in (tables C)) i) ≡ weight_of C (nth C i)
    unfolding weight_of
    chosen-weight =
        ap (λ (l : List ℕ). weight_in (tables C) 0 (indices l i)) sizes_in_lem
        ∙ weights-same (indices (sizes C) i) 0 (omega (arith, indices-length (sizes C) i, sizes-length C sound, sound.few_trains)) (indices-low (sizes C) (sizes-some C sound) (sizes-most C sound) i)
        ∙ ap (weight_from C 0) (sym (choice_numbered C sound i low))

  -- ---- the words after each choice

  pub tallied_first : (m : ℕ) (ws : List ℕ) → ws ≡ replicate {A = ℕ} 5760 0 → Tallied C m [] ws
  unfolding added_by
  tallied_first m ws e = record {
    size = ap (λ (l : List ℕ). length l) e ∙ length-replicate {A = ℕ} 5760 0;
    words = λ k t l q. ap (λ (l : List ℕ). slice_index l (k * 720 + t)) e ∙ zeros-at 5760 (k * 720 + t);
  }

  module _ (m first j : ℕ) (low : first + j < combinations C) (run ws : List ℕ) (weight : ℕ) where
    -- the words of a run to a minute of the window show arrivals of the window
    module _ (within : Timely (tables C) run) (shown : Arrivals C m (nth C (first + j)) run) (weighs : weight ≡ weight_of C (nth C (first + j))) where
      more : (k t : ℕ) → added_by C m (part C first (suc j)) k t ≡ added_by C m (part C first j) k t + adds C m k t (nth C (first + j))
      more k t = added_more C m k t first j (choices C) (omega (arith, choices-count C sound))

      fits : (k t : ℕ) → added_by C m (part C first j) k t + adds C m k t (nth C (first + j)) < 18446744073709551616
      fits k t = omega (arith, more k t, part-most C m k t sound first (suc j), total-most C sound)

      raise_adds : (b : Bool) (old w : ℕ) → old + cond b w 0 < 18446744073709551616 → cond b ((old + w) % 2 ^ 64) old ≡ old + cond b w 0
      raise_adds true old w h = mod-eq_of_lt h
      raise_adds false old w h = omega arith

      here : (k t : ℕ) → k < n → cond (is_in t (minute_in (slice_index run (16 + k)))) weight 0 ≡ adds C m k t (nth C (first + j))
      unfolding adds arrival_by
      here k t l = ap₂ (λ (o : Option ℕ) (w : ℕ). cond (is_in t o) w 0) (sym (shown k l)) weighs

      -- a number that no train has
      nobody : (k t : ℕ) → n ≤ k → adds C m k t (nth C (first + j)) ≡ 0
      unfolding adds arrival_by
      nobody k t l = ap (λ (o : Option ℕ). cond (is_in t o) (weight_of C (nth C (first + j))) 0) (unknown-never C sound (nth C (first + j)) m k l)

      word_next : Tallied C m (part C first j) ws → (k t : ℕ) → k < 8 → t < 720 → (b : Bool) → nat_lt k n ≡ b
          → slice_index (tallied_in (tables C) run weight ws) (k * 720 + t) ≡ added_by C m (part C first j) k t + adds C m k t (nth C (first + j))
      word_next h k t l q true r =
          let known : k < n = ltb-true k n r in
          tallied_train k t l q (tables C) run weight ws h.size tables-sized.few within (omega (arith, table-trains C))
          ∙ ap (λ (old : ℕ). cond (is_in t (minute_in (slice_index run (16 + k)))) ((old + weight) % 2 ^ 64) old) (h.words k t l q)
          ∙ raise_adds (is_in t (minute_in (slice_index run (16 + k)))) (added_by C m (part C first j) k t) weight (omega (arith, here k t known, fits k t))
          ∙ ap (λ (z : ℕ). added_by C m (part C first j) k t + z) (here k t known)
      word_next h k t l q false r =
          let past : n ≤ k = ltb-false k n r in
          omega (
            arith,
            tallied_none k t l q (tables C) run weight ws h.size tables-sized.few within (omega (arith, table-trains C)),
            h.words k t l q,
            nobody k t past,
          )

      pub tallied_next : Tallied C m (part C first j) ws → Tallied C m (part C first (suc j)) (tallied_in (tables C) run weight ws)
      tallied_next h = record {
        size = tallied_size (tables C) run weight ws ∙ h.size;
        words = λ k t l q. word_next h k t l q (nat_lt k n) refl ∙ sym (more k t);
      }
