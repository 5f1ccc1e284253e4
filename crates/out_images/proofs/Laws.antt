-- What the functions' proofs cite: the codes of places, the parts of a row, one row, word or sum more, and a word that is read.
-- Places go by the tests of `place_of`; parts of one width stand behind each other, and a word behind them is still the one that was lent. Assumes nothing.
use mathlib.Core.Path.{◌≡◌, refl, sym, ap, ap₂, ◌∙◌}
use mathlib.Core.Bool.{Bool, true, false, cond}
use mathlib.Core.List.{List, [], ◌∷◌, ◌++◌}
use Prim.Native.Nat.{ℕ, zero, suc, ◌+◌, ◌-◌, ◌*◌, ◌^◌, min, ◌≤◌, ◌<◌}
use native.Mathlib.Nat.{mul_assoc, pow-suc, pow-succ', pow-le-pow_right}
use native.Mathlib.Omega.{arith}
use lib.ListN.{length, get_or, take, drop, set, length-append, length-drop}
use lib.Seq.{sets, sets-eq, drop_at}
use Rattle.std.proofs.Math.Decide.{dec_le}
use borrow.Rule.Slice.PartMut.{put_mid}
use Rattle.std.proofs.Common.{append_assoc}
use Rattle.std.proofs.lemmas.Slice.{put_mid-paste}
use Rattle.std.proofs.lemmas.List.Edits.{paste_all}
use lib.Dec.{eqb}
use borrow.Author.Tests.{lt-ltb, le-ltb}
use Rattle.rules.specs.Lists.{each, below}
use Rattle.rules.specs.Turns.{number_of}
use Rattle.rules.specs.Turns.Place.{outside, gone}
use Rattle.rules.specs.Joint.{Entry}
use Rattle.rules.specs.Calls.{bytes, filled, row_image, image_by}
use Rattle.rules.specs.Decoded.{number_in, weight_in}
use Rattle.rules.specs.Plain.{capped}
use Rattle.theory_lists.specs.Below.{length-parts}
use Rattle.theory_lists.specs.Writes.{take_more, sets-append}
use Rattle.out_images.specs.Filled.{filled-sets, filled-whole}
use Rattle.out_images.specs.Below.{parts_more, each_take}
use Rattle.out_images.specs.Rows.{mark_bytes, cover_bytes, row_bytes, image_of_rows, image_of_words, word_in, image_of_sums, Held, Weighs}
use Rattle.out_images.specs.Entries.{rows_image, weights_image_lem, sums_image}

-- ---- a state

pub marks_block : (b : ℕ) → b < 2 → b + 1 ≡ cond (eqb b 1) 2 1
marks_block zero h = refl
marks_block (suc zero) h = refl
marks_block (suc (suc b)) h = absurd (omega arith)

-- a part of the list that is written over
pub part_sets : (i e : ℕ) (l part bs : List ℕ) → part ≡ bs → i + length bs ≡ e → e ≤ length l → put_mid i (e - i) l part ≡ sets l i bs
part_sets i e l part bs same wide fits =
    let width : length bs ≡ e - i = omega arith in
    put_mid-paste i (e - i) l part bs (length bs) same width refl
    ∙ paste_all l i bs (length bs) refl
    ∙ sym (append_assoc (take i l) bs (drop (i + length bs) l))
    ∙ sym (sets-eq bs l i (omega arith))

-- ---- a row

pub row-parts : (l : List ℕ) (at n s c : ℕ) → sets (sets l at (mark_bytes s)) (at + 8) (cover_bytes n c) ≡ sets l at (row_bytes n s c)
unfolding row_bytes mark_bytes
row-parts l at n s c = sets-append (mark_bytes s) (cover_bytes n c) l at

pub length-mark : (s : ℕ) → length (mark_bytes s) ≡ 8
unfolding mark_bytes
length-mark s = refl

pub length-cover : (n c : ℕ) → length (cover_bytes n c) ≡ 8
unfolding cover_bytes
length-cover n c = refl

pub length-row : (n s c : ℕ) → length (row_bytes n s c) ≡ 16
unfolding row_bytes mark_bytes cover_bytes
length-row n s c = refl

-- ---- rows, one after the other

pub rows_more : (n : ℕ) (rows l : List ℕ) (i : ℕ)
    → sets (sets l 0 (image_of_rows n i rows)) (i * 16) (row_bytes n (get_or rows (i * 2) 0) (get_or rows (i * 2 + 1) 0)) ≡ sets l 0 (image_of_rows n (i + 1) rows)
unfolding image_of_rows
rows_more n rows l i =
    parts_more (λ i. row_bytes n (get_or rows (i * 2) 0) (get_or rows (i * 2 + 1) 0)) 16 (λ i. length-row n (get_or rows (i * 2) 0) (get_or rows (i * 2 + 1) 0)) l i

pub rows_none : (n : ℕ) (rows l : List ℕ) → l ≡ sets l 0 (image_of_rows n 0 rows)
unfolding image_of_rows
rows_none n rows l = refl

pub rows-filled : (n m : ℕ) (rows l : List ℕ) → m ≤ 1024 → 16384 ≤ length l
    → sets (filled 16384 [] l) 0 (image_of_rows n m rows) ≡ filled 16384 (image_of_rows n m rows) l
unfolding image_of_rows
rows-filled n m rows l few long =
    filled-sets 16384 (image_of_rows n m rows) l long
    (omega (
      arith,
      length-parts (λ i. row_bytes n (get_or rows (i * 2) 0) (get_or rows (i * 2 + 1) 0)) 16 (λ i. length-row n (get_or rows (i * 2) 0) (get_or rows (i * 2 + 1) 0)) m,
    ))

-- the rows hold entries
pub rows-held : (n m : ℕ) (es : List Entry) (rows l : List ℕ) → length es ≡ m → Held n es rows → filled 16384 (image_of_rows n m rows) l ≡ filled 16384 (each row_image es) l
rows-held n m es rows l k h = ap (λ (i : ℕ). filled 16384 (image_of_rows n i rows) l) (sym k) ∙ ap (λ (image : List ℕ). filled 16384 image l) (rows_image n es rows h)

-- ---- words, one after the other

-- the image of the first words
abbrev pub first_words : ℕ → List ℕ → List ℕ
first_words i ws = each (λ j. bytes 8 (get_or ws j 0)) (below i)

pub words_more : (ws l : List ℕ) (i : ℕ) → sets (sets l 0 (first_words i ws)) (i * 8) (bytes 8 (get_or ws i 0)) ≡ sets l 0 (first_words (i + 1) ws)
words_more ws l i = parts_more (λ j. bytes 8 (get_or ws j 0)) 8 (λ j. refl) l i

pub words-filled : (ws l : List ℕ) → 5040 ≤ length ws → 40320 ≤ length l → sets l 0 (first_words 5040 ws) ≡ filled 40320 (image_of_words (take 5040 ws)) l
unfolding image_of_words
words-filled ws l many long =
    filled-whole 40320 (first_words 5040 ws) l long (length-parts (λ j. bytes 8 (get_or ws j 0)) 8 (λ j. refl) 5040)
    ∙ ap (λ (image : List ℕ). filled 40320 image l) (each_take (bytes 8) ws 5040 many)

-- the words hold weights
pub words_weigh : (weight : ℕ → ℕ → ℕ) (ws l : List ℕ) → Weighs weight ws → filled 40320 (image_of_words (take 5040 ws)) l ≡ filled 40320 (image_by weight) l
words_weigh weight ws l h = ap (λ (image : List ℕ). filled 40320 image l) (weights_image_lem weight ws h)

-- ---- a sum

pub capped-min : (n : ℕ) → min n (2 ^ 64 - 1) ≡ capped n
capped-min n = go (dec_le (suc n) (2 ^ 64))
  where
    go : Dec (suc n ≤ 2 ^ 64) → min n (2 ^ 64 - 1) ≡ capped n
    go (yes below) =
        let least : min n (2 ^ 64 - 1) ≡ n = omega arith in
        least ∙ sym (ap (λ (b : Bool). cond b n (2 ^ 64 - 1)) (lt-ltb n (2 ^ 64) (omega arith)))
    go (no past) =
        let least : min n (2 ^ 64 - 1) ≡ 2 ^ 64 - 1 = omega arith in
        least ∙ sym (ap (λ (b : Bool). cond b n (2 ^ 64 - 1)) (le-ltb n (2 ^ 64) (omega arith)))

-- ---- sums, one after the other

-- a word behind all that was written stands as it stood
word-stays : (image l : List ℕ) (i : ℕ) → length image ≡ i * 8 → i * 8 ≤ length l → word_in (sets l 0 image) i ≡ word_in l i
word-stays image l i wide long =
    let past : 0 + length image ≡ i * 8 = omega arith in
    ap (λ (z : List ℕ). word_in z i) (sets-eq image l 0 (omega arith) ∙ ap (λ (n : ℕ). image ++ drop n l) past)
    ∙ ap (λ (z : List ℕ). number_in (take 8 z)) (drop_at image (drop (i * 8) l) (i * 8) wide)

length-sums : (n : ℕ) (ws l : List ℕ) → length (image_of_sums n ws l) ≡ n * 8
unfolding image_of_sums
length-sums n ws l = length-parts (λ i. bytes 8 (capped (word_in l i + get_or ws i 0))) 8 (λ i. refl) n

pub sums_none : (ws l : List ℕ) → l ≡ sets l 0 (image_of_sums 0 ws l)
unfolding image_of_sums
sums_none ws l = refl

-- word i of the bytes, that is `lent` still, becomes its sum
pub sums-more : (ws l out : List ℕ) (i lent total : ℕ) → i * 8 ≤ length l → out ≡ sets l 0 (image_of_sums i ws l)
    → lent ≡ word_in out i → total ≡ capped (lent + get_or ws i 0) → sets out (i * 8) (bytes 8 total) ≡ sets l 0 (image_of_sums (i + 1) ws l)
unfolding image_of_sums
sums-more ws l out i lent total long before Lent-is total-is =
    let read : lent ≡ word_in l i = Lent-is ∙ ap (λ (z : List ℕ). word_in z i) before ∙ word-stays (image_of_sums i ws l) l i (length-sums i ws l) long in
    let sum : total ≡ capped (word_in l i + get_or ws i 0) = total-is ∙ ap (λ (n : ℕ). capped (n + get_or ws i 0)) read in
    ap₂ (λ (z : List ℕ) (n : ℕ). sets z (i * 8) (bytes 8 n)) before sum
    ∙ parts_more (λ j. bytes 8 (capped (word_in l j + get_or ws j 0))) 8 (λ j. refl) l i

pub sums-filled : (ws l : List ℕ) → 40320 ≤ length l → sets l 0 (image_of_sums 5040 ws l) ≡ filled 40320 (image_of_sums 5040 ws l) l
sums-filled ws l long = filled-whole 40320 (image_of_sums 5040 ws l) l long (length-sums 5040 ws l)

-- the words hold weights
pub sums_weigh : (weight : ℕ → ℕ → ℕ) (ws l : List ℕ) → Weighs weight ws
    → filled 40320 (image_of_sums 5040 ws l) l ≡ filled 40320 (image_by (λ k t. capped (weight_in l k t + weight k t))) l
sums_weigh weight ws l h = ap (λ (image : List ℕ). filled 40320 image l) (sums_image weight ws l h)
