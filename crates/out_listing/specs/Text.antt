-- The listing from weights as words: the weight of train k in minute t stands at k · 720 + t. Assumes nothing: these are definitions.
use Rattle.std.specs.Prelude.{◌≡◌, List, [], ◌∷◌, ◌++◌, ℕ, ◌+◌, ◌-◌, ◌*◌, ◌^◌, ◌≤◌, ◌<◌, length, get_or}
use Rattle.rules.specs.Lists.{each, sum, below}
use Rattle.rules.specs.Files.{Case}
use Rattle.rules.specs.Turns.{Arrival}
use Rattle.rules.specs.Joint.{Entry, weight_at}
use Rattle.rules.specs.Listing.{decimal, line, total_word, minute_line, listing}
use Rattle.rules.specs.Calls.{filled}

-- the weight of train k in minute t
abbrev pub held_at : List ℕ → ℕ → ℕ → ℕ
held_at ws k t = get_or ws (k * 720 + t) 0

-- the first n minutes of train k
unfoldable pub minute_lines : List ℕ → ℕ → ℕ → List ℕ
minute_lines ws k n = each (λ t. minute_line k t (held_at ws k t)) (below n)

-- what is left of the whole weight after the first n minutes of train k
unfoldable pub left_of : ℕ → List ℕ → ℕ → ℕ → ℕ
left_of whole ws k n = whole - sum (held_at ws k) (below n)

unfoldable pub last_line : ℕ → ℕ → List ℕ
last_line k rest = line (decimal k ∷ (45 ∷ []) ∷ decimal rest ∷ [])

-- the lines of train k, up to minute `last`
unfoldable pub lines_of : ℕ → ℕ → List ℕ → ℕ → List ℕ
lines_of whole last ws k = minute_lines ws k (last + 1) ++ last_line k (left_of whole ws k (last + 1))

-- the lines of the first n trains
unfoldable pub trains_lines : ℕ → ℕ → List ℕ → ℕ → List ℕ
trains_lines whole last ws n = each (lines_of whole last ws) (below n)

unfoldable pub first_line : ℕ → List ℕ
first_line whole = line (total_word ∷ decimal whole ∷ [])

unfoldable pub text_from : ℕ → ℕ → List ℕ → List ℕ
text_from trains last ws = first_line (100 ^ trains) ++ trains_lines (100 ^ trains) last ws trains

-- the words hold the weights of the case's arrivals
pub record Weighs (C : Case) (arrived : List (Arrival Entry)) (trains last : ℕ) (ws : List ℕ) : Type 0 where
  pub all_trains : length C.trains ≡ trains
  pub all_minutes : C.head.last_minute ≡ last
  pub words : (k t : ℕ) → k < trains → t ≤ last → held_at ws k t ≡ weight_at C arrived k t

-- the text l has become L and the zeros after it, and the answer is L's length
pub record Listed (l L : List ℕ) (r : ℕ) (l' : List ℕ) : Type 0 where
  pub bytes : l' ≡ filled (length l) L l
  pub answer : r ≡ length L

-- for each case and arrivals whose weights the words hold, text that is long enough has become their listing
abbrev pub Prints : ℕ → ℕ → List ℕ → List ℕ → ℕ → List ℕ → Type 0
Prints trains last ws l r l' = (C : Case) (v : List (Arrival Entry)) → Weighs C v trains last ws → length (listing C v) ≤ length l → Listed l (listing C v) r l'
