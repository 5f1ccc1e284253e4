-- `moving::Tables::crowd` meets its contract: the count so far and what the trains still to come hold are the whole. Assumes nothing.
use mathlib.Core.Path.{ap}
use native.Mathlib.Omega.{arith}
use Rattle.rules.specs.Lists.{sum}
use Rattle.words.specs.Spans.{onward-next}
use Rattle.moving.specs.Words.{holding}
use Rattle.moving.proofs.Tables.crowd.Goals as goal

pub loop-k-preserved : goal.loop-k-preserved
loop-k-preserved c =
    let a = c.args in (omega arith, omega (arith, c.holding-count.ensures.0, ap (sum (holding a.t a.e a.run.now)) (onward-next c.at-n.result c.loop-k.k c.loop-k-test.true)))
