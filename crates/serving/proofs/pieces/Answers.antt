-- `serving::pieces` meets its contract: without a partner's covers there is nothing to cross. Assumes nothing.
use Rattle.cut.specs.Cut.{crossed}
use Rattle.serving.proofs.pieces.Goals as goal

pub returns-then-meets-eq0 : goal.returns-then-meets-eq0
unfolding crossed
returns-then-meets-eq0 c = rw c.if-meets-eq0.true c.carry.ensures
