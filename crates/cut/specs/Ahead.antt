-- The outside pieces that an `Outsides` still has to give. Assumes nothing: this is a definition.
use Rattle.std.specs.Prelude.{List, ℕ, ◌-◌}
use Rattle.cut.specs.declared.outsides.Outsides.{Outsides}
use Rattle.cut.specs.Cut.{outs}

-- the outside pieces still to come, by rising train number
abbrev pub ahead : Outsides → List ℕ
ahead o = outs (8 - o.train) o.train o.common o.lost
