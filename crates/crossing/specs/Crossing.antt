-- What becomes of a piece that meets the partner's covers first, and then the element's own, where one list has both. Assumes nothing: this is a definition.
use Rattle.std.specs.Prelude.{List, ℕ, take, drop}
use Rattle.cut.specs.Cut.{Part, carried, crossed}

-- what becomes of the piece p: the list has the partner's covers first, so many, of which those from a place on are still to meet, and then the element's own
abbrev pub crossed_from : ℕ → List ℕ → ℕ → ℕ → ℕ → List Part
crossed_from cap met first at p = crossed (carried cap (drop first met) 0) (drop at (take first met)) p
