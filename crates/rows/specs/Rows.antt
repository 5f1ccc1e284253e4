-- Rows of two words, a state and a packed cover, as the joint run holds its list in lent words. Assumes nothing: these are definitions.
use Rattle.std.specs.Prelude.{◌≡◌, Bool, false, not, cond, List, [], ◌∷◌, map, ℕ, ◌+◌, ◌*◌, ◌/◌, ◌%◌, ◌≤◌, length, take, drop, get_or, leb, eqb}
use Rattle.rules.specs.Lists.{one, each, keep}
use Rattle.rules.specs.Sweep.{after_moves}
use Rattle.theory_lists.specs.Sweeps.{sweep_moves}

pub record Row : Type 0 where
  pub state : ℕ
  pub cover : ℕ

abbrev pub row : ℕ → ℕ → Row
row s c = record { state = s; cover = c }

-- the rows of a list of words; a single word at the end is none
unfoldable pub rows_of : List ℕ → List Row
rows_of [] = []
rows_of (s ∷ []) = []
rows_of (s ∷ (c ∷ l)) = row s c ∷ rows_of l

-- the words of a list of rows
unfoldable pub words : List Row → List ℕ
words [] = []
words (r ∷ rs) = r.state ∷ r.cover ∷ words rs

-- the first n rows of a list of words
abbrev pub rows_in : ℕ → List ℕ → List Row
rows_in n l = rows_of (take (n * 2) l)

-- row i of a list of words
abbrev pub row_at : List ℕ → ℕ → Row
row_at l i = row (get_or l (i * 2) 0) (get_or l (i * 2 + 1) 0)

-- the first r words of the lent ones are the list L
pub record Begins (L : List ℕ) (r : ℕ) (out : List ℕ) : Type 0 where
  pub few : r ≤ length out
  pub list : take r out ≡ L

-- ---- what a state shows

-- a block whose end is t or earlier
unfoldable pub ended_of : ℕ → ℕ → Bool
ended_of t s = cond (eqb (s / 2048 % 2) 1) (leb (s % 2048) t) false

-- a state of another train than k at the place with code e
unfoldable pub meets_of : ℕ → ℕ → ℕ → Bool
meets_of e k s = cond (eqb (s / 4096 % 128) e) (not (eqb (s / 524288) k)) false

-- ---- what is written

-- the covers that train k meets at e
unfoldable pub met_of : ℕ → ℕ → List Row → List ℕ
met_of e k rs = each (λ r. one (meets_of e k r.state) r.cover) rs

-- the rows that stay when the blocks go that have ended by t
unfoldable pub swept_of : ℕ → List Row → List Row
swept_of t rs = keep (λ r. not (ended_of t r.state)) rs

-- the blocks that have ended by t have gone from the first n rows of `was` in one sweep, and r rows are left: they are 01's list, the places are what the sweep's
-- moves make of them, and what stands behind is as it was
pub record Swept (t n : ℕ) (was : List ℕ) (r : ℕ) (rows : List ℕ) : Type 0 where
  pub few : r ≤ n
  pub list : rows_in r rows ≡ swept_of t (rows_in n was)
  pub places : rows_in n rows ≡ after_moves (sweep_moves (λ x. ended_of t x.state) (rows_in n was)) (rows_in n was)
  pub past : drop (n * 2) rows ≡ drop (n * 2) was

-- a held cover keeps its state
unfoldable pub held_rows : ℕ → List ℕ → List Row
held_rows s cs = map (λ c. row s c) cs

-- an entering cover has its standing row and, where it left an element, its block
unfoldable pub entered_rows : ℕ → ℕ → Bool → List ℕ → List Row
entered_rows s b two cs = each (λ c. row s c ∷ one two (row b c)) cs
