-- The run on rows of two words and the words T that the runs look up: its minutes. Assumes nothing: these are definitions.
use Rattle.std.specs.Prelude.{◌≡◌, List, ℕ, ◌+◌, get_or, replicate}
use Rattle.rows.specs.Rows.{swept_of}
use Rattle.opening.specs.First.{first_rows}
use Rattle.visiting.specs.Visit.{Outcome, guard, read, Kept}
use Rattle.visiting.specs.Visit.Outcome.{refused, stands}
use Rattle.elements.specs.Elements.{up_to, elements_of}

-- the blocks that have ended by t go
unfoldable pub cleared_of : ℕ → Outcome → Outcome
cleared_of t refused = refused
cleared_of t (stands l v) = stands (swept_of t l) v

unfoldable pub minute_of : List ℕ → ℕ → Outcome → Outcome
minute_of T t o = elements_of T t 65 (cleared_of t o)

-- the first n minutes
unfoldable pub minutes_of : List ℕ → ℕ → Outcome → Outcome
minutes_of T n o = up_to (minute_of T) n o

-- ---- contracts

-- what the run from the first list answers, and where it leaves rows and weights
pub record Ran (T : List ℕ) (stop size r : ℕ) (rows weights : List ℕ) : Type 0 where
  pub outcome : read r rows weights ≡ minutes_of T (stop + 1) (guard (get_or T 3 0) (first_rows T) (replicate {A = ℕ} size 0))
  pub kept : Kept r rows
