-- The partner's entries still to meet fall with each call that a cut makes (twice their number, and one more in `cut_across`), and the loop
-- of `cut_across` keeps `Cutting` over the outside pieces still to come. Assumes nothing.
use Rattle.std.proofs.Common.{◌+◌, ◌-◌, ◌*◌}
use Rattle.crossing.specs.Crossing.{crossed_from}
use Rattle.cut.specs.Ahead.{ahead}
use Rattle.cut.proofs.Laws.{Cutting}
use Rattle.crossing.proofs.+across_cut_across.Given as goal

abbrev pub decreases-across : goal.decreases-across
decreases-across l = (l.meets.now.first - l.at) * 2

abbrev pub decreases-cut_across : goal.decreases-cut_across
decreases-cut_across l = (l.meets.now.first - l.at) * 2 + 1

abbrev pub invariant-cut_across-loop-q : goal.invariant-cut_across-loop-q
invariant-cut_across-loop-q l =
    Cutting l.room l.initial.z l.initial.held l.initial.entering (crossed_from l.meets.cap l.meets.met.now l.meets.first l.at) (ahead l.fn.outsides) l.held l.entering (ahead l.q-iterator) l.z
