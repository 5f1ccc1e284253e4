-- `weigh::brought` meets its contract. The invariant: the sum is that of the covers passed, as the machine sums. Assumes nothing.
use Rattle.std.proofs.Common.{ℕ, ◌+◌, ◌%◌, ◌^◌, sym, ◌∙◌, ap₂, arith, rules, take_all}
use Rattle.weigh.specs.Weighing.{brought-none, brought-more}
use Rattle.weigh.proofs.brought.Goals as goal

pub loop-c-init : goal.loop-c-init
loop-c-init c = (search rules, sym (brought-none _))

pub cover_weight-w-requires : goal.cover_weight-w-requires
cover_weight-w-requires c = c.requires

pub loop-c-preserved : goal.loop-c-preserved
loop-c-preserved c =
    let s = c.args in
    let l = c.loop-c in
    (omega arith, ap₂ (λ (y z : ℕ). (y + z) % 2 ^ 64) l.invariant.1 c.cover_weight-w.ensures ∙ sym (brought-more s.tables.now l.c-index s.covers.now (omega arith)))

pub returns : goal.returns
returns c = rw (← take_all c.loop-c.c-index c.args.covers.now (omega arith)) c.loop-c.invariant.1
