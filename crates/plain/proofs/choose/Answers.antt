-- `plain::choose` meets its contract: from the last train to the first, what is left of the number is divided by the size of one more table, and the weight is
-- multiplied by that of one more index. Assumes nothing.
use Rattle.std.proofs.Common.{arith, mul_comm}
use Rattle.plain.specs.Choosing.{choosing_first, size-some, train-low, index-low, product-fits, choosing_next, choosing_done}
use Rattle.plain.proofs.choose.Goals as goal

pub loop-k-init : goal.loop-k-init
loop-k-init c = choosing_first c.args.tables.now c.requires c.args.i c.at-n.result _ c.at-n.ensures (omega arith)

pub nonzero_rem-d : goal.nonzero_rem-d
nonzero_rem-d c = size-some c.args.tables.now c.requires c.args.i c.loop-k.invariant c.loop-k-test.true c.at-size.ensures

pub nonzero_div-left : goal.nonzero_div-left
nonzero_div-left c = size-some c.args.tables.now c.requires c.args.i c.loop-k.invariant c.loop-k-test.true c.at-size.ensures

pub overflow_cast-choice : goal.overflow_cast-choice
overflow_cast-choice c = omega (arith, index-low c.args.tables.now c.requires c.args.i c.loop-k.invariant c.loop-k-test.true c.at-size.ensures)

pub bounds-choice-k : goal.bounds-choice-k
bounds-choice-k c =
    let loop = c.loop-k in
    omega (arith, train-low c.args.tables.now c.requires c.args.i loop.invariant c.loop-k-test.true c.at-size.ensures, loop.invariant.size)

pub overflow_mul-weight : goal.overflow_mul-weight
overflow_mul-weight c =
    let loop = c.loop-k in
    let sizes = c.at-size.ensures in
    omega (arith, product-fits c.args.tables.now c.requires c.args.i loop.invariant c.loop-k-test.true sizes c.at-weight.ensures, mul_comm loop.weight c.at-weight.result)

pub loop-k-preserved : goal.loop-k-preserved
loop-k-preserved c =
    let loop = c.loop-k in
    let sizes = c.at-size.ensures in
    let next = choosing_next c.args.tables.now c.requires c.args.i loop.invariant c.loop-k-test.true sizes c.at-weight.ensures in
    rw (mul_comm loop.weight c.at-weight.result) next

pub returns : goal.returns
returns c =
    let loop = c.loop-k in
    let done = choosing_done c.args.tables.now c.requires c.args.i loop.invariant c.loop-k-test.false in
    record { choice = done.0; weight = done.1 }
