-- The image of words that hold entries is the image of the entries, and the image of weights held in words is that of the weights,
-- also where they are added to those that stand in the bytes.
-- A state gives its mark back, and a packed cover its sets, byte by byte. Assumes nothing.
use Rattle.std.specs.Prelude.{◌≡◌, refl, Bool, cond, List, [], ◌∷◌, ◌++◌, map, ℕ, zero, suc, ◌+◌, ◌-◌, ◌*◌, ◌/◌, ◌%◌, ◌≤◌, ◌<◌, length, get_or, take, replicate}
use Rattle.std.proofs.Common.{sym, ap, ap₂, ◌∙◌, mod-eq_of_lt, arith, length-take, lt-ltb, le-ltb}
use Rattle.std.proofs.Math.Nat.{div-div-eq-div-mul}
use Rattle.rules.specs.Lists.{each, below}
use Rattle.rules.specs.Files.{most_trains}
use Rattle.rules.specs.Joint.{Cover, Entry}
use Rattle.rules.specs.Calls.{bytes, set_image, cover_image, row_image, image_by}
use Rattle.rules.specs.Decoded.{weight_in}
use Rattle.rules.specs.Plain.{capped}
use Rattle.theory_lists.specs.Every.{Every}
use Rattle.cut.specs.Packed.{packed_in, packed}
use Rattle.cut.specs.Outside.{first_of, rest_of}
use Rattle.theory_codes.specs.Codes.{state_of}
use Rattle.theory_codes.specs.States.{mark-state}
use Rattle.theory_lists.specs.Below.{each-span-next, each-below-same, each-blocks}
use Rattle.out_images.specs.Below.{each_take}
use Rattle.out_images.specs.Rows.{row_of, mark_bytes, set_byte, cover_bytes, row_bytes, image_of_rows, SmallCover, SmallEntry, Held}
use Rattle.out_images.specs.Rows.{image_of_words, word_in, image_of_sums, Weighs}

-- ---- covers

-- the bytes of m trains from train k on, of n
abbrev bytes_from : ℕ → ℕ → ℕ → ℕ → List ℕ
bytes_from zero k n c = []
bytes_from (suc m) k n c = set_byte n k c ∷ bytes_from m (suc k) n (c / 256)

bytes_from_eight : (n c : ℕ) → bytes_from 8 0 n c ≡ cover_bytes n c
unfolding cover_bytes
bytes_from_eight n c = simp div-div-eq-div-mul

-- trains that are not there
bytes_from-none : (m k n c : ℕ) → n ≤ k → bytes_from m k n c ≡ replicate m 0
bytes_from-none zero k n c h = refl
bytes_from-none (suc m) k n c h = ap₂ ◌∷◌ (ap (λ (b : Bool). cond b (c % 256) 0) (le-ltb k n h)) (bytes_from-none m (suc k) n (c / 256) (omega arith))

bytes_from-packed : (m : ℕ) (p : Cover) → length p ≤ m → Every (λ s. set_image s < 256) p → (k n : ℕ) → n ≡ k + length p
    → bytes_from m k n (packed_in m p) ≡ map set_image p ++ replicate (m - length p) 0
unfolding packed_in
bytes_from-packed m [] h q k n e =
    let all : m ≡ m - 0 = omega arith in
    bytes_from-none m k n (packed_in m []) (omega arith) ∙ ap (λ (i : ℕ). replicate {A = ℕ} i 0) all
bytes_from-packed zero (s ∷ p) h q k n e = absurd (omega arith)
bytes_from-packed (suc m) (s ∷ p) h q k n e =
    let left : m - length p ≡ suc m - suc (length p) = omega arith in
    ap₂ ◌∷◌
    (ap (λ (t : Bool). cond t ((packed_in m p * 256 + set_image s) % 256) 0) (lt-ltb k n (omega arith)) ∙ first_of (packed_in m p) (set_image s) q.0)
    (ap (bytes_from m (suc k) n) (rest_of (packed_in m p) (set_image s) q.0)
    ∙ bytes_from-packed m p (omega arith) q.1 (suc k) n (omega arith)
    ∙ ap (λ (i : ℕ). map set_image p ++ replicate {A = ℕ} i 0) left)

pub cover_image_lem : (n : ℕ) (p : Cover) → SmallCover n p → cover_bytes n (packed p) ≡ cover_image p
unfolding cover_image
cover_image_lem n p h =
    sym (bytes_from_eight n (packed p)) ∙ bytes_from-packed 8 p (omega (arith, h.few, h.each_train)) h.sets 0 n (omega (arith, h.each_train))

-- ---- rows

pub row_image_lem : (n : ℕ) (r : Entry) → SmallEntry n r → row_bytes n (state_of r.mark) (packed r.cover) ≡ row_image r
unfolding row_bytes mark_bytes row_image
row_image_lem n r h = rw (mark-state r.mark h.mark, cover_image_lem n r.cover h.cover, mod-eq_of_lt {n = r.mark.train} {m = 256} (omega (arith, h.train)))

-- rows that hold entries have the entries' images
pub rows_image : (n : ℕ) (es : List Entry) (rows : List ℕ) → Held n es rows → image_of_rows n (length es) rows ≡ each row_image es
unfolding image_of_rows row_of
rows_image n [] rows h = refl
rows_image n (r ∷ es) [] h = absurd (omega (arith, ap length h.words, length-take {A = ℕ} (length (r ∷ es) * 2) []))
rows_image n (r ∷ es) (a ∷ []) h = absurd (omega (arith, ap length h.words, length-take {A = ℕ} (length (r ∷ es) * 2) (a ∷ [])))
rows_image n (r ∷ es) (a ∷ (b ∷ rows)) h =
    let two : length (r ∷ es) * 2 ≡ suc (suc (length es * 2)) = omega arith in
    let w : a ∷ b ∷ take (length es * 2) rows ≡ state_of r.mark ∷ packed r.cover ∷ each row_of es =
    ap (λ (k : ℕ). take k (a ∷ b ∷ rows)) (sym two) ∙ h.words in
    let state : a ≡ state_of r.mark = cc in
    let cover : b ≡ packed r.cover = cc in
    let words : take (length es * 2) rows ≡ each row_of es = cc in
    ap₂ ◌++◌
    (ap₂ (row_bytes n) state cover ∙ row_image_lem n r h.small.0)
    (each-span-next (λ i. row_bytes n (get_or (a ∷ b ∷ rows) (i * 2) 0) (get_or (a ∷ b ∷ rows) (i * 2 + 1) 0)) (length es) 0
    ∙ each-below-same (λ i. row_bytes n (get_or (a ∷ b ∷ rows) (suc i * 2) 0) (get_or (a ∷ b ∷ rows) (suc i * 2 + 1) 0))
    (λ i. row_bytes n (get_or rows (i * 2) 0) (get_or rows (i * 2 + 1) 0)) (length es) (λ i l. ap₂ (row_bytes n) (at i) (at_next i))
    ∙ rows_image n es rows (record { words = words; small = h.small.1 }))
  where
    at : (i : ℕ) → get_or (a ∷ b ∷ rows) (suc i * 2) 0 ≡ get_or rows (i * 2) 0
    at i =
        let two : suc i * 2 ≡ suc (suc (i * 2)) = omega arith in
        ap (λ (k : ℕ). get_or (a ∷ b ∷ rows) k 0) two

    at_next : (i : ℕ) → get_or (a ∷ b ∷ rows) (suc i * 2 + 1) 0 ≡ get_or rows (i * 2 + 1) 0
    at_next i =
        let two : suc i * 2 + 1 ≡ suc (suc (i * 2 + 1)) = omega arith in
        ap (λ (k : ℕ). get_or (a ∷ b ∷ rows) k 0) two

-- ---- weights

-- words by their places, where that of train k in minute t has the place k · 720 + t
words_image : (word : ℕ → ℕ) (weight : ℕ → ℕ → ℕ) → ((k t : ℕ) → k < most_trains → t < 720 → word (k * 720 + t) ≡ weight k t)
    → each (λ i. bytes 8 (word i)) (below 5040) ≡ image_by weight
words_image word weight h =
    each-blocks (λ i. bytes 8 (word i)) most_trains 720
    ∙ each-below-same _ (λ k. each (λ t. bytes 8 (weight k t)) (below 720)) most_trains
    (λ k l. each-below-same _ (λ t. bytes 8 (weight k t)) 720 (λ t m. ap (bytes 8) (h k t l m)))

pub weights_image_lem : (weight : ℕ → ℕ → ℕ) (ws : List ℕ) → Weighs weight ws → image_of_words (take 5040 ws) ≡ image_by weight
unfolding image_of_words
weights_image_lem weight ws h =
    sym (each_take (bytes 8) ws 5040 h.long) ∙ words_image (λ i. get_or ws i 0) weight h.words

-- the weights that stand in the bytes, each with its weight in the words
pub sums_image : (weight : ℕ → ℕ → ℕ) (ws l : List ℕ) → Weighs weight ws → image_of_sums 5040 ws l ≡ image_by (λ k t. capped (weight_in l k t + weight k t))
unfolding image_of_sums weight_in
sums_image weight ws l h =
    words_image (λ i. capped (word_in l i + get_or ws i 0)) (λ k t. capped (weight_in l k t + weight k t))
    (λ k t m n. ap (λ (w : ℕ). capped (word_in l (k * 720 + t) + w)) (h.words k t m n))
