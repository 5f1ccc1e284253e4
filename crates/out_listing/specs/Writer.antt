-- What a text in the making becomes where numbers are put to it: the same lent memory, with the numbers from its place on. Assumes nothing: these are definitions.
use Rattle.std.specs.Prelude.{◌≡◌, List, ℕ}
use Rattle.theory_lists.specs.Writes.{Put}
use Rattle.std.specs.Borrow.{MutBor}

-- the numbers L are written into the lent memory from the place w on, and r is the next place
pub record Adds (lent : MutBor (List ℕ)) (w : ℕ) (L : List ℕ) (r : ℕ) (lent' : MutBor (List ℕ)) : Type 0 where
  pub same : lent'.ghost_name ≡ lent.ghost_name
  pub put : Put lent.now w L r lent'.now
