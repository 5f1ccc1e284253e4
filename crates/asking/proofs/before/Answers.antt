-- `asking::before` meets its contract. The invariant: the train does not go on to e from the places before p. Assumes nothing.
use Rattle.std.proofs.Common.{sym, ◌∙◌, arith}
use Rattle.asking.specs.Reach.{nowhere-more}
use Rattle.asking.proofs.before.Goals as goal

pub loop-p-init : goal.loop-p-init
loop-p-init c = λ j h. absurd (omega arith)

pub returns-then-at-e : goal.returns-then-at-e
returns-then-at-e c =
    let l = c.loop-p in
    (omega arith, record { few = omega arith; first = l.invariant; next = λ h. sym c.at.ensures ∙ c.if-at-e.true })

pub loop-p-preserved : goal.loop-p-preserved
loop-p-preserved c =
    nowhere-more c.args.tables.now c.args.k c.args.e c.loop-p.p c.loop-p.invariant (λ g. c.if-at-e.false (c.at.ensures ∙ g))

pub returns : goal.returns
returns c = record { few = omega arith; first = λ j h. c.loop-p.invariant j (omega arith); next = λ h. absurd (omega arith) }
