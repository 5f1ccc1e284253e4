-- `cut::meeting` meets its contract. The invariant: the place that is sought from `at` on is the place that is sought from i on. Assumes nothing.
use mathlib.Core.Path.{refl, sym, ◌∙◌}
use native.Mathlib.Omega.{arith}
use Rattle.cut.proofs.Laws.{place_short, place-meets, place-on}
use Rattle.cut.proofs.meeting.Goals as goal

pub loop-i-init : goal.loop-i-init
loop-i-init c = (omega arith, refl)

pub returns-then-full : goal.returns-then-full
returns-then-full c =
    let a = c.args in
    (sym (c.loop-i.invariant.1 ∙ place-meets a.need a.p a.met.now c.loop-i.i (omega arith) (omega arith) (sym c.full.ensures ∙ c.if-full.true)), omega arith)

pub loop-i-preserved : goal.loop-i-preserved
loop-i-preserved c =
    let a = c.args in
    (omega arith, c.loop-i.invariant.1 ∙ place-on a.need a.p a.met.now c.loop-i.i (omega arith) (omega arith) (sym c.full.ensures ∙ c.if-full.false))

pub returns : goal.returns
returns c =
    let e = c.loop-i.invariant.1 ∙ place_short c.args.need c.args.p c.args.met.now c.loop-i.i (omega arith) in
    (omega (arith, e), omega (arith, e))
