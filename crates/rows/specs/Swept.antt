-- Closing up in place: of the rows read so far those that stay are the first ones, and every word behind them is as it was. A row that stays is written no later
-- than where it was read, so what is still to be read is unchanged. Read to the end, the words are what the moves of one sweep make of them. Assumes nothing.
use Rattle.std.specs.Prelude.{◌≡◌, refl, Bool, true, false, take}
use Rattle.std.proofs.Math.Path.{ap}
use Rattle.std.proofs.Common.{ap₂, sym, ◌∙◌, subst, arith, length-drop, take-append-drop, take_at, take_all, take-add, length-take-le, drop_at, drop-cons, drop-drop, get_or-append-add, get_or-drop}
use Rattle.std.proofs.Math.Bool.{not}
use mathlib.Core.List.{List, [], ◌∷◌, ◌++◌, append_assoc}
use Prim.Native.Nat.{ℕ, suc, ◌+◌, ◌-◌, ◌*◌, ◌≤◌, ◌<◌}
use Rattle.std.proofs.Math.ListN.{length, drop, get_or, set, length-append}
use Rattle.std.proofs.Math.Seq.{append_snoc, take-append-add, drop-append-add}
use Rattle.std.proofs.lemmas.List.{drop-append-le, set_at}
use Rattle.rules.specs.Lists.{one, count}
use Rattle.rules.specs.Sweep.{after_moves, first_to_go}
use Rattle.theory_lists.specs.Each.{each_append}
use Rattle.theory_lists.specs.Every.{Every, every_append}
use Rattle.theory_lists.specs.Kept.{keep-others}
use Rattle.theory_lists.specs.Sums.{length-keep, count-le}
use Rattle.theory_lists.specs.Sweeps.{moves_from, first-before, first-le, first_found, first-none, moves-list, one_sweep}
use Rattle.rows.specs.Rows.{Row, row, rows_of, words, rows_in, row_at, ended_of, swept_of, Swept}
use Rattle.rows.specs.Written.{words_append, words-length, rows_of-words, rows_of-append, rows_in-words, rows_in-length, rows_in-more, each-taken, each_left}

-- of the first i rows of `was`, those that stay are the first j rows, and the words behind them are those of `was`
pub record Closing (t i : ℕ) (was : List ℕ) (j : ℕ) (rows : List ℕ) : Type 0 where
  pub left : j ≡ length (swept_of t (rows_in i was))
  pub list : rows ≡ words (swept_of t (rows_in i was)) ++ drop (j * 2) was

pub closing_none : (t : ℕ) (rows : List ℕ) → Closing t 0 rows 0 rows
unfolding swept_of rows_of words
closing_none t rows = record { left = refl; list = refl }

-- how many rows are left
pub swept_few : (t n : ℕ) (was : List ℕ) → n * 2 ≤ length was → length (swept_of t (rows_in n was)) ≤ n
unfolding swept_of
swept_few t n was long =
    omega (arith, length-keep (λ r. not (ended_of t r.state)) (rows_in n was), count-le (λ r. not (ended_of t r.state)) (rows_in n was), rows_in-length n was long)

pub closing_long : (t i j : ℕ) (was rows : List ℕ) → i * 2 ≤ length was → Closing t i was j rows → length rows ≡ length was
closing_long t i j was rows long h =
    let stay : List Row = swept_of t (rows_in i was) in
    omega (arith, ap length h.list, length-append (words stay) (drop (j * 2) was), length-drop (j * 2) was, words-length stay, h.left, swept_few t i was long)

-- ---- a turn of the loop

module _ {t i : ℕ} {was : List ℕ} {j : ℕ} {rows : List ℕ} (h : Closing t i was j rows) (long : i * 2 + 2 ≤ length was) where
  abbrev stay : List Row
  stay = swept_of t (rows_in i was)

  pub closing_few : j ≤ i
  closing_few = omega (arith, h.left, swept_few t i was (omega arith))

  stay-long : length (words stay) ≡ j * 2
  stay-long = omega (arith, words-length stay, h.left)

  same_word : (d : ℕ) → get_or rows (i * 2 + d) 0 ≡ get_or was (i * 2 + d) 0
  same_word d =
      let n : i * 2 + d ≡ length (words stay) + (i * 2 + d - j * 2) = omega (arith, stay-long, closing_few) in
      let m : j * 2 + (i * 2 + d - j * 2) ≡ i * 2 + d = omega (arith, closing_few) in
      ap₂ (λ (l : List ℕ) (k : ℕ). get_or l k 0) h.list n
      ∙ get_or-append-add (words stay) (drop (j * 2) was) (i * 2 + d - j * 2) 0
      ∙ get_or-drop (j * 2) was (i * 2 + d - j * 2) 0
      ∙ ap (λ (k : ℕ). get_or was k 0) m

  -- the next row is the one that stood there
  pub next_row : row_at rows i ≡ row_at was i
  next_row =
      let z : i * 2 ≡ i * 2 + 0 = omega arith in
      ap₂ (λ (s c : ℕ). row s c) (ap (λ (n : ℕ). get_or rows n 0) z ∙ same_word 0 ∙ ap (λ (n : ℕ). get_or was n 0) (sym z)) (same_word 1)

  -- it goes
  pub closing_gone : not (ended_of t (get_or rows (i * 2) 0)) ≡ false → Closing t (i + 1) was j rows
  unfolding swept_of
  closing_gone g =
      let e = each_left (λ r. r) (λ r. not (ended_of t r.state)) i was long (ap (λ (r : Row). not (ended_of t r.state)) (sym next_row) ∙ g) in
      record { left = h.left ∙ ap length (sym e); list = h.list ∙ ap (λ (l : List Row). words l ++ drop (j * 2) was) (sym e) }

  -- it stays, and is written to the free place
  pub closing_kept : not (ended_of t (get_or rows (i * 2) 0)) ≡ true
      → Closing t (i + 1) was (j + 1) (set (set rows (j * 2) (get_or rows (i * 2) 0)) (j * 2 + 1) (get_or rows (i * 2 + 1) 0))
  unfolding swept_of words
  closing_kept g = record {
    left = omega (arith, h.left, ap length more, length-append stay (row s c ∷ []));
    list = ap (λ (l : List ℕ). set (set l (j * 2) s) (j * 2 + 1) c) h.list ∙ written ∙ ap (λ (l : List Row). words l ++ drop ((j + 1) * 2) was) (sym more);
  }
    where
      s : ℕ
      s = get_or rows (i * 2) 0

      c : ℕ
      c = get_or rows (i * 2 + 1) 0

      more : swept_of t (rows_in (i + 1) was) ≡ stay ++ (row s c ∷ [])
      more =
          each-taken (λ r. r) (λ r. not (ended_of t r.state)) i was long (ap (λ (r : Row). not (ended_of t r.state)) (sym next_row) ∙ g)
          ∙ ap (λ (r : Row). stay ++ (r ∷ [])) (sym next_row)

      behind : List ℕ
      behind = drop (suc (suc (j * 2))) was

      -- the free place has a row
      free : drop (j * 2) was ≡ get_or was (j * 2) 0 ∷ get_or was (suc (j * 2)) 0 ∷ behind
      free =
          drop-cons was (j * 2) 0 (omega (arith, closing_few))
          ∙ ap (λ (l : List ℕ). get_or was (j * 2) 0 ∷ l) (drop-cons was (suc (j * 2)) 0 (omega (arith, closing_few)))

      written : set (set (words stay ++ drop (j * 2) was) (j * 2) s) (j * 2 + 1) c ≡ words (stay ++ (row s c ∷ [])) ++ drop ((j + 1) * 2) was
      written =
          let x : ℕ = get_or was (j * 2) 0 in
          let y : ℕ = get_or was (suc (j * 2)) 0 in
          let n : suc (suc (j * 2)) ≡ (j + 1) * 2 = omega arith in
          ap (λ (l : List ℕ). set (set (words stay ++ l) (j * 2) s) (j * 2 + 1) c) free
          ∙ ap (λ (l : List ℕ). set l (j * 2 + 1) c) (set_at (words stay) x (y ∷ behind) s (j * 2) stay-long ∙ sym (append_assoc (words stay) (s ∷ []) (y ∷ behind)))
          ∙ set_at (words stay ++ (s ∷ [])) y behind c (j * 2 + 1) (length-append (words stay) (s ∷ []) ∙ omega (arith, stay-long))
          ∙ append_assoc (words stay) (s ∷ []) (c ∷ behind)
          ∙ sym (append_assoc (words stay) (s ∷ c ∷ []) behind)
          ∙ ap₂ (λ (a b : List ℕ). a ++ b) (sym (words_append stay (row s c ∷ []))) (ap (λ (k : ℕ). drop k was) n)

-- ---- places

-- the words of the rows from row f up to row n
abbrev pub part_of : ℕ → ℕ → List ℕ → List ℕ
part_of f n was = take (n * 2 - f * 2) (drop (f * 2) was)

module _ (f n : ℕ) (was : List ℕ) (h : f ≤ n) (long : n * 2 ≤ length was) where
  pub part-long : length (part_of f n was) ≡ (n - f) * 2
  part-long = length-take-le (n * 2 - f * 2) (drop (f * 2) was) (omega (arith, length-drop (f * 2) was)) ∙ omega arith

  pub part-rows : rows_in n was ≡ rows_in f was ++ rows_in (n - f) (part_of f n was)
  part-rows =
      let e : n * 2 ≡ f * 2 + (n * 2 - f * 2) = omega arith in
      ap rows_of (ap (λ (k : ℕ). take k was) e ∙ take-add (f * 2) (n * 2 - f * 2) was)
      ∙ rows_of-append f (take (f * 2) was) (part_of f n was) (length-take-le (f * 2) was (omega arith))
      ∙ ap (λ (l : List ℕ). rows_in f was ++ rows_of l) (sym (take_all ((n - f) * 2) (part_of f n was) (omega (arith, part-long))))

  pub rows-from : drop f (rows_in n was) ≡ rows_in (n - f) (part_of f n was)
  rows-from = ap (drop f) part-rows ∙ drop_at (rows_in f was) (rows_in (n - f) (part_of f n was)) f (rows_in-length f was (omega arith))

-- ---- the first that goes

module _ (t n : ℕ) (was : List ℕ) (long : n * 2 ≤ length was) where
  abbrev goes : Row → Bool
  goes r = ended_of t r.state

  -- row i is it, if it goes and none before it does
  pub first-at : (i : ℕ) → i < n → Every (λ r. ended_of t r.state ≡ false) (rows_in i was) → ended_of t (get_or was (i * 2) 0) ≡ true
      → i ≡ first_to_go (λ r. ended_of t r.state) (rows_in n was)
  first-at i h before e =
      sym (ap (first_to_go goes) split ∙ first_found goes (rows_in i was) (row_at was i) (rows_in (n - (i + 1)) (part_of (i + 1) n was)) before e ∙ rows_in-length i was (omega arith))
    where
      split : rows_in n was ≡ rows_in i was ++ (row_at was i ∷ rows_in (n - (i + 1)) (part_of (i + 1) n was))
      split =
          part-rows (i + 1) n was (omega arith) long
          ∙ ap (λ (l : List Row). l ++ rows_in (n - (i + 1)) (part_of (i + 1) n was)) (rows_in-more i was (omega arith))
          ∙ append_snoc (rows_in i was) (row_at was i) (rows_in (n - (i + 1)) (part_of (i + 1) n was))

  pub first_absent : Every (λ r. ended_of t r.state ≡ false) (rows_in n was) → n ≡ first_to_go (λ r. ended_of t r.state) (rows_in n was)
  first_absent stay = sym (first-none goes (rows_in n was) stay ∙ rows_in-length n was long)

  pub first-low : first_to_go (λ r. ended_of t r.state) (rows_in n was) ≤ n
  first-low = omega (arith, first-le goes (rows_in n was), rows_in-length n was long)

  -- none before it goes
  pub first-stay : Every (λ r. ended_of t r.state ≡ false) (rows_in (first_to_go (λ r. ended_of t r.state) (rows_in n was)) was)
  first-stay =
      let f : ℕ = first_to_go goes (rows_in n was) in
      subst (Every (λ r. ended_of t r.state ≡ false))
      (ap (take f) (part-rows f n was first-low long) ∙ take_at (rows_in f was) (rows_in (n - f) (part_of f n was)) f (rows_in-length f was (omega (arith, first-low))))
      (first-before goes (rows_in n was))

  pub stay-before : (f : ℕ) → f ≡ first_to_go (λ r. ended_of t r.state) (rows_in n was) → Every (λ r. ended_of t r.state ≡ false) (rows_in f was)
  stay-before f e = subst (λ (k : ℕ). Every (λ r. ended_of t r.state ≡ false) (rows_in k was)) (sym e) first-stay

-- one row more that stays
pub stay-more : (t i : ℕ) (was : List ℕ) → i * 2 + 2 ≤ length was → Every (λ r. ended_of t r.state ≡ false) (rows_in i was) → ended_of t (get_or was (i * 2) 0) ≡ false
    → Every (λ r. ended_of t r.state ≡ false) (rows_in (i + 1) was)
stay-more t i was long before e =
    subst (Every (λ r. ended_of t r.state ≡ false)) (sym (rows_in-more i was long)) (every_append (λ r. ended_of t r.state ≡ false) (rows_in i was) (row_at was i ∷ []) before (e, tt))

-- ---- turns of the loop, as moves

-- after i turns the first n rows are those that stay of the i that were read, and behind them what stood there
pub closing_places : (t i n j : ℕ) (was rows : List ℕ) → i ≤ n → n * 2 ≤ length was → Closing t i was j rows → rows_in n rows ≡ swept_of t (rows_in i was) ++ drop j (rows_in n was)
closing_places t i n j was rows h long c =
    let stay : List Row = swept_of t (rows_in i was) in
    let few : j ≤ n = omega (arith, c.left, swept_few t i was (omega arith)) in
    let w : length (words stay) ≡ j * 2 = omega (arith, words-length stay, c.left) in
    let e : n * 2 ≡ length (words stay) + (n * 2 - j * 2) = omega arith in
    ap rows_of (ap₂ take e c.list ∙ take-append-add (words stay) (drop (j * 2) was) (n * 2 - j * 2))
    ∙ rows_of-append j (words stay) (part_of j n was) w
    ∙ ap₂ (λ (a b : List Row). a ++ b) (rows_of-words stay)
    (ap rows_of (sym (take_all ((n - j) * 2) (part_of j n was) (omega (arith, part-long j n was few long)))) ∙ sym (rows-from j n was few long))

-- after each turn of the loop the rows are what the moves of the turns so far make of them: a turn reads the next place, and writes at most the next free one
pub closing_turn : (t i n j : ℕ) (was rows : List ℕ) → i ≤ n → n * 2 ≤ length was → Closing t i was j rows
    → rows_in n rows ≡ after_moves (moves_from (λ r. ended_of t r.state) 0 0 (rows_in i was)) (rows_in n was)
unfolding swept_of
closing_turn t i n j was rows h long c =
    let goes : Row → Bool = λ r. ended_of t r.state in
    let many : j ≡ count (λ r. not (goes r)) (rows_in i was) = c.left ∙ length-keep (λ r. not (goes r)) (rows_in i was) in
    closing_places t i n j was rows h long c
    ∙ ap₂ (λ (k : ℕ) (l : List Row). swept_of t (rows_in i was) ++ drop k l) many (part-rows i n was h long)
    ∙ sym (moves-list goes (rows_in i was) [] [] (rows_in (n - i) (part_of i n was)) 0 0 refl refl)
    ∙ ap (after_moves (moves_from goes 0 0 (rows_in i was))) (sym (part-rows i n was h long))

-- ---- the end of the sweep

-- what was closed up behind f rows that stay is closed up with them
module _ (t f n : ℕ) (was : List ℕ) (h : f ≤ n) (long : n * 2 ≤ length was) (before : Every (λ r. ended_of t r.state ≡ false) (rows_in f was)) where
  abbrev part : List ℕ
  part = part_of f n was

  swept_part : swept_of t (rows_in n was) ≡ rows_in f was ++ swept_of t (rows_in (n - f) part)
  unfolding swept_of
  swept_part =
      ap (swept_of t) (part-rows f n was h long)
      ∙ each_append (λ r. one (not (ended_of t r.state)) r) (rows_in f was) (rows_in (n - f) part)
      ∙ ap (λ (l : List Row). l ++ swept_of t (rows_in (n - f) part)) (keep-others (λ r. ended_of t r.state) (rows_in f was) before)

  pub closing_part : (r : ℕ) (ys : List ℕ) → Closing t (n - f) part r ys → Closing t n was (f + r) (take (f * 2) was ++ (ys ++ drop (n * 2 - f * 2) (drop (f * 2) was)))
  closing_part r ys c = record {
    left = omega (arith, c.left, ap length swept_part, length-append (rows_in f was) stay, rows_in-length f was (omega arith));
    list =
        ap (λ (l : List ℕ). take (f * 2) was ++ (l ++ past)) c.list
        ∙ ap (λ (l : List ℕ). take (f * 2) was ++ l) (append_assoc (words stay) (drop (r * 2) part) past ∙ ap (λ (l : List ℕ). words stay ++ l) behind)
        ∙ sym (append_assoc (take (f * 2) was) (words stay) (drop ((f + r) * 2) was))
        ∙ ap (λ (l : List ℕ). l ++ drop ((f + r) * 2) was) together;
  }
    where
      stay : List Row
      stay = swept_of t (rows_in (n - f) part)

      past : List ℕ
      past = drop (n * 2 - f * 2) (drop (f * 2) was)

      few : r * 2 ≤ length part
      few = omega (arith, c.left, swept_few t (n - f) part (omega (arith, part-long f n was h long)), part-long f n was h long)

      behind : drop (r * 2) part ++ past ≡ drop ((f + r) * 2) was
      behind =
          let e : f * 2 + r * 2 ≡ (f + r) * 2 = omega arith in
          sym (drop-append-le (r * 2) part past few)
          ∙ ap (drop (r * 2)) (take-append-drop (n * 2 - f * 2) (drop (f * 2) was))
          ∙ drop-drop (r * 2) (f * 2) was
          ∙ ap (λ (k : ℕ). drop k was) e

      together : take (f * 2) was ++ words stay ≡ words (swept_of t (rows_in n was))
      together =
          ap (λ (l : List ℕ). l ++ words stay) (sym (rows_in-words f was (omega arith)))
          ∙ sym (words_append (rows_in f was) stay)
          ∙ ap words (sym swept_part)

-- all n rows were read: the list is 01's, and the places are what the moves of one sweep make of them
pub closing_swept : (t n r : ℕ) (was rows : List ℕ) → n * 2 ≤ length was → Closing t n was r rows → Swept t n was r rows
unfolding swept_of
closing_swept t n r was rows long c = record {
  few = few;
  list = ap rows_of (ap (take (r * 2)) c.list ∙ take_at (words stay) (drop (r * 2) was) (r * 2) w) ∙ rows_of-words stay;
  places =
      closing_places t n n r was rows (omega arith) long c
      ∙ ap (λ (k : ℕ). stay ++ drop k (rows_in n was)) (c.left ∙ length-keep (λ x. not (ended_of t x.state)) (rows_in n was))
      ∙ sym (one_sweep (λ x. ended_of t x.state) (rows_in n was)).list;
  past =
      let e : n * 2 ≡ length (words stay) + (n * 2 - r * 2) = omega (arith, w, few) in
      let m : r * 2 + (n * 2 - r * 2) ≡ n * 2 = omega (arith, few) in
      ap₂ drop e c.list
      ∙ drop-append-add (words stay) (drop (r * 2) was) (n * 2 - r * 2)
      ∙ drop-drop (n * 2 - r * 2) (r * 2) was
      ∙ ap (λ (k : ℕ). drop k was) m;
}
  where
    stay : List Row
    stay = swept_of t (rows_in n was)

    few : r ≤ n
    few = omega (arith, c.left, swept_few t n was long)

    w : length (words stay) ≡ r * 2
    w = omega (arith, words-length stay, c.left)

-- what stands before the first that goes is not written, and what stands from it on is closed up
pub sweep_done : (t n f r : ℕ) (was ys : List ℕ) → n * 2 ≤ length was → f ≡ first_to_go (λ x. ended_of t x.state) (rows_in n was) → Closing t (n - f) (part_of f n was) r ys
    → Swept t n was (f + r) (take (f * 2) was ++ (ys ++ drop (n * 2 - f * 2) (drop (f * 2) was)))
sweep_done t n f r was ys long e c =
    closing_swept t n (f + r) was _ long (closing_part t f n was (omega (arith, first-low t n was long)) long (stay-before t n was long f e) r ys c)
