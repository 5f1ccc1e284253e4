-- A row as the runs hold it, a state and a packed cover, and its image; weights in words, and the image of their sums with those that stand in bytes.
-- Assumes nothing: these are definitions.
use Rattle.std.specs.Prelude.{◌≡◌, cond, List, [], ◌∷◌, ◌++◌, ℕ, ◌+◌, ◌*◌, ◌/◌, ◌%◌, ◌≤◌, ◌<◌, length, get_or, take, drop, ltb}
use Rattle.rules.specs.Lists.{each, below}
use Rattle.rules.specs.Files.{Case, most_trains}
use Rattle.rules.specs.Turns.{kind_of, number_of, Arrival}
use Rattle.rules.specs.Joint.{Cover, Entry, weight_at}
use Rattle.rules.specs.Calls.{bytes, set_image}
use Rattle.rules.specs.Decoded.{number_in}
use Rattle.rules.specs.Plain.{capped}
use Rattle.theory_lists.specs.Every.{Every}
use Rattle.cut.specs.Packed.{packed}
use Rattle.theory_codes.specs.Codes.{state_of, mark_of}
use Rattle.theory_codes.specs.States.{Fit}

-- ---- the words of an entry

-- the two words of an entry
unfoldable pub row_of : Entry → List ℕ
row_of r = state_of r.mark ∷ packed r.cover ∷ []

-- ---- the image of two words

-- the eight bytes of a state
unfoldable pub mark_bytes : ℕ → List ℕ
mark_bytes s =
    let m = mark_of s in
    m.train % 256 ∷ cond m.blocks 2 1 ∷ kind_of m.place ∷ number_of m.place ∷ bytes 2 m.minute ++ (0 ∷ 0 ∷ [])

-- the byte of train k of n, that is v's lowest
abbrev pub set_byte : ℕ → ℕ → ℕ → ℕ
set_byte n k v = cond (ltb k n) (v % 256) 0

-- the eight bytes of a packed cover of n trains
unfoldable pub cover_bytes : ℕ → ℕ → List ℕ
cover_bytes n c =
    set_byte n 0 c
    ∷ set_byte n 1 (c / 256)
    ∷ set_byte n 2 (c / 65536)
    ∷ set_byte n 3 (c / 16777216)
    ∷ set_byte n 4 (c / 4294967296)
    ∷ set_byte n 5 (c / 1099511627776)
    ∷ set_byte n 6 (c / 281474976710656)
    ∷ set_byte n 7 (c / 72057594037927936)
    ∷ []

unfoldable pub row_bytes : ℕ → ℕ → ℕ → List ℕ
row_bytes n s c = mark_bytes s ++ cover_bytes n c

-- the image of the first m rows of two words
unfoldable pub image_of_rows : ℕ → ℕ → List ℕ → List ℕ
image_of_rows n m rows = each (λ i. row_bytes n (get_or rows (i * 2) 0) (get_or rows (i * 2 + 1) 0)) (below m)

-- the image of words, eight bytes each
unfoldable pub image_of_words : List ℕ → List ℕ
image_of_words ws = each (bytes 8) ws

-- the number in the eight bytes of word i
abbrev pub word_in : List ℕ → ℕ → ℕ
word_in l i = number_in (take 8 (drop (i * 8) l))

-- the image of n sums: the first n words that stand in the bytes l, each with its word of ws
unfoldable pub image_of_sums : ℕ → List ℕ → List ℕ → List ℕ
image_of_sums n ws l = each (λ i. bytes 8 (capped (word_in l i + get_or ws i 0))) (below n)

-- ---- what an entry has to be for its words to tell it

-- one set for each of n trains, at most eight, and a byte holds each
pub record SmallCover (n : ℕ) (p : Cover) : Type 0 where
  pub few : n ≤ 8
  pub each_train : length p ≡ n
  pub sets : Every (λ s. set_image s < 256) p

pub record SmallEntry (n : ℕ) (r : Entry) : Type 0 where
  pub train : r.mark.train < 8
  pub mark : Fit r.mark
  pub cover : SmallCover n r.cover

-- the words begin with those of the entries, each of them small
pub record Held (n : ℕ) (es : List Entry) (rows : List ℕ) : Type 0 where
  pub words : take (length es * 2) rows ≡ each row_of es
  pub small : Every (SmallEntry n) es

-- the words are the weights of train k in minute t, at k · 720 + t
pub record Weighs (weight : ℕ → ℕ → ℕ) (ws : List ℕ) : Type 0 where
  pub long : 5040 ≤ length ws
  pub words : (k t : ℕ) → k < most_trains → t < 720 → get_or ws (k * 720 + t) 0 ≡ weight k t

-- the words are the weights of the arrivals
abbrev pub Weighed : Case → List (Arrival Entry) → List ℕ → Type 0
Weighed C arrived ws = Weighs (weight_at C arrived) ws
