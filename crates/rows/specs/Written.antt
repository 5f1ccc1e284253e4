-- Laws of rows as words, and of what is written from a place on: what one call writes after another is what both write together.
-- A write past the end changes nothing, so no law asks whether there is room. Assumes nothing.
use Rattle.std.specs.Prelude.{◌≡◌, refl, Bool, true, false, not, cond, List, [], ◌∷◌, ◌++◌, map, ℕ, zero, suc, ◌+◌, ◌-◌, ◌*◌, ◌/◌, ◌%◌, ◌≤◌, ◌<◌, eqb, length, take, drop, get_or, set}
use Rattle.std.proofs.Common.{ap, sym, ◌∙◌, subst, append-nil, append_assoc, arith, eq-eqb, ne_eqb, take-append-drop, take-suc, take-take, take-suc-set, length-take-le}
use Rattle.std.proofs.Math.Seq.{slice, length-slice}
use Rattle.std.proofs.lemmas.List.{take-set-le, drop-append-le}
use Rattle.rules.specs.Lists.{one, each}
use Rattle.theory_lists.specs.Each.{each_append, map-append}
use Rattle.theory_lists.specs.Every.{Every, every_left, every_right}
use Rattle.theory_lists.specs.Writes.{take_more, Put, put_full, put_length, put_join}
use Rattle.rows.specs.Rows.{Row, row, rows_of, words, rows_in, row_at, meets_of, met_of, held_rows, entered_rows}

-- ---- rows and words

pub words_append : (a b : List Row) → words (a ++ b) ≡ words a ++ words b
unfolding words
words_append [] b = refl
words_append (r ∷ a) b = ap (λ (l : List ℕ). r.state ∷ r.cover ∷ l) (words_append a b)

pub words-length : (rs : List Row) → length (words rs) ≡ length rs * 2
unfolding words
words-length [] = refl
words-length (r ∷ rs) = omega (arith, words-length rs)

pub rows_of-words : (rs : List Row) → rows_of (words rs) ≡ rs
unfolding rows_of words
rows_of-words [] = refl
rows_of-words (r ∷ rs) = ap (λ (l : List Row). r ∷ l) (rows_of-words rs)

pub words-rows_of : (j : ℕ) (l : List ℕ) → length l ≡ j * 2 → words (rows_of l) ≡ l
unfolding rows_of words
words-rows_of j [] h = refl
words-rows_of j (s ∷ []) h = absurd (omega arith)
words-rows_of zero (s ∷ (c ∷ l)) h = absurd (omega arith)
words-rows_of (suc j) (s ∷ (c ∷ l)) h = ap (λ (z : List ℕ). s ∷ c ∷ z) (words-rows_of j l (omega arith))

pub rows_of-append : (j : ℕ) (a b : List ℕ) → length a ≡ j * 2 → rows_of (a ++ b) ≡ rows_of a ++ rows_of b
unfolding rows_of
rows_of-append j [] b h = refl
rows_of-append j (s ∷ []) b h = absurd (omega arith)
rows_of-append zero (s ∷ (c ∷ a)) b h = absurd (omega arith)
rows_of-append (suc j) (s ∷ (c ∷ a)) b h = ap (λ (l : List Row). row s c ∷ l) (rows_of-append j a b (omega arith))

pub rows_in-words : (n : ℕ) (l : List ℕ) → n * 2 ≤ length l → words (rows_in n l) ≡ take (n * 2) l
rows_in-words n l h = words-rows_of n (take (n * 2) l) (length-take-le (n * 2) l h)

pub rows_in-length : (n : ℕ) (l : List ℕ) → n * 2 ≤ length l → length (rows_in n l) ≡ n
rows_in-length n l h = omega (arith, words-length (rows_in n l), ap length (rows_in-words n l h), length-take-le (n * 2) l h)

-- as many rows as there are, whether or not a single word stands behind them
pub rows_in-all : (n : ℕ) (l : List ℕ) → n * 2 ≤ length l → length l ≤ n * 2 + 1 → rows_in n l ≡ rows_of l
unfolding rows_of
rows_in-all zero [] h k = refl
rows_in-all zero (s ∷ []) h k = refl
rows_in-all zero (s ∷ (c ∷ l)) h k = absurd (omega arith)
rows_in-all (suc n) [] h k = absurd (omega arith)
rows_in-all (suc n) (s ∷ []) h k = absurd (omega arith)
rows_in-all (suc n) (s ∷ (c ∷ l)) h k =
    let more : suc n * 2 ≡ suc (suc (n * 2)) = omega arith in
    ap (λ (m : ℕ). rows_of (take m (s ∷ c ∷ l))) more ∙ ap (λ (z : List Row). row s c ∷ z) (rows_in-all n l (omega arith) (omega arith))

take-two : (i : ℕ) (l : List ℕ) → i * 2 + 2 ≤ length l → take ((i + 1) * 2) l ≡ take (i * 2) l ++ (get_or l (i * 2) 0 ∷ get_or l (i * 2 + 1) 0 ∷ [])
take-two i l long =
    let n : (i + 1) * 2 ≡ suc (i * 2 + 1) = omega arith in
    let m : i * 2 + 1 ≡ suc (i * 2) = omega arith in
    ap (λ (z : ℕ). take z l) n
    ∙ take-suc l (i * 2 + 1) 0 (omega arith)
    ∙ ap (λ (z : List ℕ). z ++ (get_or l (i * 2 + 1) 0 ∷ [])) (ap (λ (z : ℕ). take z l) m ∙ take-suc l (i * 2) 0 (omega arith))
    ∙ append_assoc (take (i * 2) l) (get_or l (i * 2) 0 ∷ []) (get_or l (i * 2 + 1) 0 ∷ [])

-- one row more
pub rows_in-more : (i : ℕ) (l : List ℕ) → i * 2 + 2 ≤ length l → rows_in (i + 1) l ≡ rows_in i l ++ (row_at l i ∷ [])
unfolding rows_of
rows_in-more i l long =
    ap rows_of (take-two i l long)
    ∙ rows_of-append i (take (i * 2) l) (get_or l (i * 2) 0 ∷ get_or l (i * 2 + 1) 0 ∷ []) (length-take-le (i * 2) l (omega arith))

-- what is made of each row, with one row more
pub each_more : {A : Type 0} (f : Row → List A) (i : ℕ) (l : List ℕ) → i * 2 + 2 ≤ length l → each f (rows_in (i + 1) l) ≡ each f (rows_in i l) ++ f (row_at l i)
each_more {A} f i l long =
    ap (each f) (rows_in-more i l long)
    ∙ each_append f (rows_in i l) (row_at l i ∷ [])
    ∙ ap (λ (z : List A). each f (rows_in i l) ++ z) (append-nil (f (row_at l i)))

pub each-taken : {A : Type 0} (f : Row → A) (test : Row → Bool) (i : ℕ) (l : List ℕ) → i * 2 + 2 ≤ length l → test (row_at l i) ≡ true
    → each (λ r. one (test r) (f r)) (rows_in (i + 1) l) ≡ each (λ r. one (test r) (f r)) (rows_in i l) ++ (f (row_at l i) ∷ [])
each-taken {A} f test i l long h = each_more (λ r. one (test r) (f r)) i l long ∙ ap (λ (b : Bool). each (λ r. one (test r) (f r)) (rows_in i l) ++ one b (f (row_at l i))) h

pub each_left : {A : Type 0} (f : Row → A) (test : Row → Bool) (i : ℕ) (l : List ℕ) → i * 2 + 2 ≤ length l → test (row_at l i) ≡ false
    → each (λ r. one (test r) (f r)) (rows_in (i + 1) l) ≡ each (λ r. one (test r) (f r)) (rows_in i l)
each_left {A} f test i l long h =
    each_more (λ r. one (test r) (f r)) i l long
    ∙ ap (λ (b : Bool). each (λ r. one (test r) (f r)) (rows_in i l) ++ one b (f (row_at l i))) h
    ∙ append-nil (each (λ r. one (test r) (f r)) (rows_in i l))

-- the rows before row i, and those from it on
pub rows_split : (i n : ℕ) (l : List ℕ) → i ≤ n → n * 2 ≤ length l → rows_in n l ≡ rows_in i l ++ rows_of (slice (i * 2) (n * 2) l)
rows_split i n l h k =
    ap rows_of (sym (take-append-drop (i * 2) (take (n * 2) l)))
    ∙ ap (λ (z : List ℕ). rows_of (z ++ drop (i * 2) (take (n * 2) l))) (take-take (i * 2) (n * 2) l (omega arith))
    ∙ rows_of-append i (take (i * 2) l) (slice (i * 2) (n * 2) l) (length-take-le (i * 2) l (omega arith))

-- a property of every row is one of row i
pub row_of : (P : Row → Type 0) (i n : ℕ) (l : List ℕ) → i < n → n * 2 ≤ length l → Every P (rows_in n l) → P (row_at l i)
row_of P i n l h k e =
    (every_right P (rows_in i l) (row_at l i ∷ [])
    (subst (Every P) (rows_in-more i l (omega arith)) (every_left P (rows_in (i + 1) l) (rows_of (slice ((i + 1) * 2) (n * 2) l)) (subst (Every P) (rows_split (i + 1) n l (omega arith) k) e)))
    ).0

-- ---- what is written

-- a word at the place after the list counts or does not
pub begins_more : (out L : List ℕ) (w c : ℕ) (b : Bool) → w < length out → take w out ≡ L → take (w + length (one b c)) (set out w c) ≡ L ++ one b c
begins_more out L w c true h k =
    let e : w + 1 ≡ suc w = omega arith in
    ap (λ (n : ℕ). take n (set out w c)) e ∙ take-suc-set out w c h ∙ ap (λ (z : List ℕ). z ++ (c ∷ [])) k
begins_more out L w c false h k = let e : w + 0 ≡ w = omega arith in ap (λ (n : ℕ). take n (set out w c)) e ∙ take-set-le w out w c (omega arith) ∙ k ∙ sym (append-nil L)

-- ---- parts of a list

pub slice_more : (a i : ℕ) (l : List ℕ) → a ≤ i → i < length l → slice a (i + 1) l ≡ slice a i l ++ (get_or l i 0 ∷ [])
slice_more a i l h k =
    let e : i + 1 ≡ suc i = omega arith in
    ap (λ (z : ℕ). drop a (take z l)) e
    ∙ ap (drop a) (take-suc l i 0 k)
    ∙ drop-append-le a (take i l) (get_or l i 0 ∷ []) (omega (arith, length-take-le i l (omega arith)))

-- the rows from row i on, with one row more
pub slice_rows-more : (i j : ℕ) (l : List ℕ) → i ≤ j → j * 2 + 2 ≤ length l → rows_of (slice (i * 2) ((j + 1) * 2) l) ≡ rows_of (slice (i * 2) (j * 2) l) ++ (row_at l j ∷ [])
unfolding rows_of
slice_rows-more i j l h long =
    let n : (j + 1) * 2 ≡ j * 2 + 1 + 1 = omega arith in
    ap (λ (z : ℕ). rows_of (slice (i * 2) z l)) n
    ∙ ap rows_of (slice_more (i * 2) (j * 2 + 1) l (omega arith) (omega arith) ∙ ap (λ (z : List ℕ). z ++ (get_or l (j * 2 + 1) 0 ∷ [])) (slice_more (i * 2) (j * 2) l (omega arith) (omega arith))
    ∙ append_assoc (slice (i * 2) (j * 2) l) (get_or l (j * 2) 0 ∷ []) (get_or l (j * 2 + 1) 0 ∷ []))
    ∙ rows_of-append (j - i) (slice (i * 2) (j * 2) l) (get_or l (j * 2) 0 ∷ get_or l (j * 2 + 1) 0 ∷ []) (length-slice (i * 2) (j * 2) l (omega arith) ∙ omega arith)

pub slice_split : (a m z : ℕ) (l : List ℕ) → a ≤ m → m ≤ z → z ≤ length l → slice a z l ≡ slice a m l ++ slice m z l
slice_split a m z l h k long =
    ap (drop a) (sym (take-append-drop m (take z l)))
    ∙ ap (λ (x : List ℕ). drop a (x ++ slice m z l)) (take-take m z l k)
    ∙ drop-append-le a (take m l) (slice m z l) (omega (arith, length-take-le m l (omega arith)))

pub one-few : (b : Bool) (c : ℕ) → length (one b c) ≤ 1
one-few true c = omega arith
one-few false c = omega arith

-- a row at the place is met unless it is the train's own, and a row elsewhere is not
pub met_offered : (e k i w : ℕ) (l out : List ℕ) → i * 2 + 2 ≤ length l → get_or l (i * 2) 0 / 4096 % 128 ≡ e → w < length out → take w out ≡ met_of e k (rows_in i l)
    → take (w + length (one (not (eqb (get_or l (i * 2) 0 / 524288) k)) (get_or l (i * 2 + 1) 0))) (set out w (get_or l (i * 2 + 1) 0)) ≡ met_of e k (rows_in (i + 1) l)
unfolding met_of meets_of
met_offered e k i w l out long here room before =
    begins_more out (met_of e k (rows_in i l)) w (get_or l (i * 2 + 1) 0) (not (eqb (get_or l (i * 2) 0 / 524288) k)) room before
    ∙ ap (λ (b : Bool). met_of e k (rows_in i l) ++ one (cond b (not (eqb (get_or l (i * 2) 0 / 524288) k)) false) (get_or l (i * 2 + 1) 0)) (sym (eq-eqb (get_or l (i * 2) 0 / 4096 % 128) e here))
    ∙ sym (each_more (λ r. one (meets_of e k r.state) r.cover) i l long)

pub met-passed : (e k i : ℕ) (l : List ℕ) → i * 2 + 2 ≤ length l → (get_or l (i * 2) 0 / 4096 % 128 ≡ e → ⊥) → met_of e k (rows_in (i + 1) l) ≡ met_of e k (rows_in i l)
unfolding met_of meets_of
met-passed e k i l long away =
    each_left (λ r. r.cover) (λ r. meets_of e k r.state) i l long
    (ap (λ (b : Bool). cond b (not (eqb (get_or l (i * 2) 0 / 524288) k)) false) (ne_eqb (get_or l (i * 2) 0 / 4096 % 128) e away))

-- what has filled the lent memory is as much as can be written of more
pub put_filled : {l : List ℕ} {d : ℕ} {r : ℕ} {l' : List ℕ} (a m z : ℕ) (from : List ℕ) → a ≤ m → m ≤ z → z ≤ length from → Put l d (slice a m from) r l' → r ≡ length l
    → Put l d (slice a z from) r l'
put_filled {l} {d} {r} {l'} a m z from h k long f e =
    subst (λ (x : List ℕ). Put l d x r l') (sym (slice_split a m z from h k long)) (put_join f (put_full l' r (slice m z from) r (omega (arith, e, put_length f)) (e ∙ sym (put_length f))))

-- ---- held and entered rows

pub held_rows-more : (s i : ℕ) (l : List ℕ) → i < length l → words (held_rows s (take (i + 1) l)) ≡ words (held_rows s (take i l)) ++ (s ∷ get_or l i 0 ∷ [])
unfolding held_rows words
held_rows-more s i l h =
    ap (λ (z : List ℕ). words (map (λ c. row s c) z)) (take_more i l h)
    ∙ ap words (map-append (λ c. row s c) (take i l) (get_or l i 0 ∷ []))
    ∙ words_append (map (λ c. row s c) (take i l)) (row s (get_or l i 0) ∷ [])

pub entered_rows-more : (s b : ℕ) (two : Bool) (i : ℕ) (l : List ℕ) → i < length l
    → words (entered_rows s b two (take (i + 1) l)) ≡ words (entered_rows s b two (take i l)) ++ words (entered_rows s b two (get_or l i 0 ∷ []))
unfolding entered_rows
entered_rows-more s b two i l h =
    ap (λ (z : List ℕ). words (each (λ c. row s c ∷ one two (row b c)) z)) (take_more i l h)
    ∙ ap words (each_append (λ c. row s c ∷ one two (row b c)) (take i l) (get_or l i 0 ∷ []))
    ∙ words_append (each (λ c. row s c ∷ one two (row b c)) (take i l)) (each (λ c. row s c ∷ one two (row b c)) (get_or l i 0 ∷ []))
