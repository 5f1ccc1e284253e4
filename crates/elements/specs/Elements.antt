-- The passes of a minute on rows of two words and the words T that the runs look up. Assumes nothing: these are definitions.
use Rattle.std.specs.Prelude.{List, ℕ, zero, suc, ◌+◌, get_or, set}
use Rattle.std.specs.Int.Bits.{bit_or}
use Rattle.waiting.specs.Calm.{spot}
use Rattle.visiting.specs.Visit.{Outcome, pass_of}

-- step after step, the first n
abbrev pub up_to : (ℕ → Outcome → Outcome) → ℕ → Outcome → Outcome
up_to f zero o = o
up_to f (suc n) o = f n (up_to f n o)

-- the passes for e of the first n trains in order
unfoldable pub element_of : List ℕ → ℕ → ℕ → ℕ → Outcome → Outcome
element_of T t e n o = up_to (λ j. pass_of T t e (get_or T (8 + j) 0)) n o

-- the passes for the first m elements
unfoldable pub elements_of : List ℕ → ℕ → ℕ → Outcome → Outcome
elements_of T t m o = up_to (λ e. element_of T t e (get_or T 0 0)) m o

-- ---- what is noted

-- all that stirred the pairs of the first k trains with the element e
unfoldable pub union_of : ℕ → List ℕ → ℕ → ℕ
union_of zero N e = 0
union_of (suc k) N e = bit_or (union_of k N e) (get_or N (spot k e) 0)

-- the element's word says whether one of its pairs is stirred
unfoldable pub tidied_of : List ℕ → ℕ → List ℕ
tidied_of N e = set N (1024 + e) (union_of 8 N e)
