-- `single_start::clear` meets its contract: the trains so far are cleared, and the others as they were left. Assumes nothing.
use mathlib.Core.Path.{sym, ◌∙◌, subst}
use Prim.Native.Nat.{◌<◌}
use native.Mathlib.Omega.{arith}
use Rattle.moving.specs.Words.{trains_in}
use Rattle.single_laws.specs.Trail.{Trod, clearing_first, clearing_next, clearing_end}
use Rattle.single_start.proofs.clear.Goals as goal

pub loop-k-init : goal.loop-k-init
loop-k-init c = clearing_first c.requires

pub wipe-requires : goal.wipe-requires
wipe-requires c =
    let loop = c.loop-k in
    let k = loop.k in
    let few : k < 8 = omega (arith, c.loop-k-test.true, c.at-n.ensures.0, c.args.plan.now.planned.few) in
    let trod = subst (Trod c.args.plan.now.tables.words.now loop.run k 1) (sym c.at.ensures) (loop.invariant.trod k (omega arith) few) in
    (few, loop.invariant.size, trod)

pub loop-k-preserved : goal.loop-k-preserved
loop-k-preserved c =
    let loop = c.loop-k in
    let T = c.args.plan.now.tables.words.now in
    let known : loop.k < trains_in T = omega (arith, c.loop-k-test.true, c.at-n.ensures.0) in
    let few : loop.k < 8 = omega (arith, known, c.args.plan.now.planned.few) in
    let wiped = c.wipe.ensures in
    clearing_next T loop.run loop.asks _ _ loop.k known few loop.invariant wiped.0 wiped.1 wiped.2 c.put.ensures

pub shape_of-run : goal.shape_of-run
shape_of-run c = c.loop-k.invariant.size ∙ sym c.requires.size

pub shape_of-asks : goal.shape_of-asks
shape_of-asks c = c.loop-k.invariant.room ∙ sym c.requires.room

pub returns : goal.returns
returns c = clearing_end (omega (arith, c.at-n.ensures.0, c.loop-k-test.false)) c.loop-k.invariant
