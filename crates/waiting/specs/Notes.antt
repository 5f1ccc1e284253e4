-- What a run notes beside its rows, as words: what stirred each pair of train and element, whether a pair of an element is stirred, whether rows of a pair
-- wait, and which minutes the rows show. Assumes nothing: these are definitions.
use Rattle.std.specs.Prelude.{◌≡◌, cond, List, ℕ, zero, suc, ◌+◌, ◌%◌, ◌<◌, length, get_or, set, ltb, eqb}
use Rattle.std.specs.Int.Bits.{bit_or}
use Rattle.quiet.specs.Parts.{Sub}
use Rattle.asking.specs.Ask.{partner_of}
use Rattle.waiting.specs.Calm.{spot}

-- the words of the pairs, at train · 128 + element: what stirred them, from 0 on, and whether rows of theirs wait, from 1152 on
unfoldable pub stir_in : List ℕ → ℕ → ℕ
stir_in N i = cond (ltb i 1024) (get_or N i 0) 0

unfoldable pub asked_in : List ℕ → ℕ → ℕ
asked_in N i = cond (ltb i 1024) (get_or N (1152 + i) 0) 0

-- the pair i is told of the cover c, if rows of it wait; the element's word says that one of its pairs is stirred
unfoldable pub told_of : List ℕ → ℕ → ℕ → List ℕ
told_of N i c = cond (eqb (get_or N (1152 + i) 0) 0) N (set (set N i (bit_or (get_or N i 0) c)) (1024 + i % 128) 1)

-- the pairs of the first k trains with the element e
unfoldable pub told_all : ℕ → List ℕ → ℕ → ℕ → List ℕ
told_all zero N e c = N
told_all (suc k) N e c = told_of (told_all k N e c) (spot k e) c

-- the pairs of all trains with the partner of e, if it has one
unfoldable pub told_across : List ℕ → List ℕ → ℕ → ℕ → List ℕ
told_across T N e c = cond (eqb (partner_of T e) 0) N (told_all 8 N (partner_of T e) c)

-- the pairs of all trains with e, which is left, and with its partner
unfoldable pub told_left : List ℕ → List ℕ → ℕ → ℕ → List ℕ
told_left T N e c = told_across T (told_all 8 N e c) e c

-- a row of the pair i with the cover c now waits
unfoldable pub fresh_of : List ℕ → ℕ → ℕ → List ℕ
fresh_of N i c = set (set (set N (1152 + i) 1) i (bit_or (get_or N i 0) c)) (1024 + i % 128) 1

-- where none of an element's pairs is said to be stirred, none is
pub record Flagged (N : List ℕ) : Type 0 where
  pub long : length N ≡ 6272
  pub flags : (i : ℕ) → i < 1024 → get_or N (1024 + i % 128) 0 ≡ 0 → get_or N i 0 ≡ 0

-- words only grow: what stirred a pair, that rows of it wait, and the minutes that are shown, from 2176 on
pub record Grows (N M : List ℕ) : Type 0 where
  pub stir : (i : ℕ) → Sub (stir_in N i) (stir_in M i)
  pub asked : (i : ℕ) → asked_in M i ≡ 0 → asked_in N i ≡ 0
  pub minutes : (i : ℕ) → i < 4096 → get_or M (2176 + i) 0 ≡ 0 → get_or N (2176 + i) 0 ≡ 0
