-- The entries still to meet fall with each call that a cut makes (twice their number, and one more in `cut`), and the loop of `cut` keeps
-- `Cutting` over the outside pieces still to come. Assumes nothing.
use Rattle.std.proofs.Common.{◌+◌, ◌-◌, ◌*◌, length, drop}
use Rattle.cut.specs.Cut.{carried}
use Rattle.cut.specs.Ahead.{ahead}
use Rattle.cut.proofs.Laws.{Cutting}
use Rattle.cut.proofs.+carry_cut.Given as goal

abbrev pub decreases-carry : goal.decreases-carry
decreases-carry l = (length l.meets.now.met.now - l.at) * 2

abbrev pub decreases-cut : goal.decreases-cut
decreases-cut l = (length l.meets.now.met.now - l.at) * 2 + 1

abbrev pub invariant-cut-loop-q : goal.invariant-cut-loop-q
invariant-cut-loop-q l =
    Cutting l.room l.initial.z l.initial.held l.initial.entering (carried l.meets.cap (drop l.at l.meets.met.now) l.count) (ahead l.fn.outsides) l.held l.entering (ahead l.q-iterator) l.z
