-- The pieces of packed covers, which meet the partner's and then the element's own, are the pieces of the covers, packed, in order. Assumes nothing.
use Rattle.std.specs.Prelude.{◌≡◌}
use mathlib.Core.List.{List, map}
use Prim.Native.Nat.{ℕ}
use Rattle.rules.specs.Joint.{Cover, carry, across}
use Rattle.theory_lists.specs.Every.{Every}
use Rattle.cut.specs.Cut.{carried, cut_by}
use Rattle.cut.specs.Packed.{packed, packed_piece, Packable}
use Rattle.cut.specs.Bridge.{carried-carry, crossed-across}

pub cut_by-pieces : {k : ℕ} (cap : ℕ) (ms es : List Cover) → Every (Packable k) ms → Every (Packable k) es → (p : Cover) → Packable k p
    → cut_by (record { cap = cap; partner = map packed ms; own = map packed es }) (packed p) ≡ map packed_piece (across (carry cap es 0) ms p)
cut_by-pieces cap ms es g h p own = crossed-across (carried cap (map packed es) 0) (carry cap es 0) (carried-carry cap es h 0) ms g p own
