-- `weigh::set_weight` meets its contract. The invariant: what is summed and what is still to sum are the set's weight. Assumes nothing.
use Rattle.std.proofs.Common.{◌≡◌, ℕ, ◌+◌, ◌-◌, ◌*◌, ap, arith}
use Rattle.weigh.specs.Weigh.{set_weight}
use Rattle.weigh.specs.Weighing.{set-none, set-taken, set-left}
use Rattle.weigh.proofs.set_weight.Goals as goal
use Rattle.weigh.proofs.set_weight.Goals.{else-left-eq1, then-left-eq1}

pub loop-i-init : goal.loop-i-init
loop-i-init c =
    let s = c.args in
    let e : 120 + s.j * 8 - (112 + s.j * 8) ≡ 8 = omega arith in
    (omega arith, rw e (omega arith))

pub overflow_add-sum : goal.overflow_add-sum
overflow_add-sum c =
    let s = c.args in
    let p = c.requires in
    let l = c.loop-i in
    omega (arith, c.at-sum.ensures, p.0.weights s.j s.x (omega arith), p.0.words l.i, l.invariant.1)

pub loop-i-preserved : goal.loop-i-preserved
loop-i-preserved c =
    let s = c.args in
    let l = c.loop-i in
    let n : 120 + s.j * 8 - l.i - 1 ≡ 120 + s.j * 8 - (l.i + 1) = omega arith in
    elim c.if-left-eq1.branch [
      | then-left-eq1 w ↦ (omega arith, rw (← n) (omega (arith, w.at-sum.ensures, set-taken s.tables.now l.i (120 + s.j * 8 - l.i) l.left (omega arith) w.if-left-eq1.true)))
      | else-left-eq1 w ↦ (omega arith, rw (← n) (omega (arith, set-left s.tables.now l.i (120 + s.j * 8 - l.i) l.left (omega arith) w.if-left-eq1.false)))
    ]

pub returns : goal.returns
returns c =
    let s = c.args in
    let l = c.loop-i in
    let n : 120 + s.j * 8 - l.i ≡ 0 = omega arith in
    omega (arith, l.invariant.1, ap (λ (z : ℕ). set_weight s.tables.now l.i z l.left) n, set-none s.tables.now l.i l.left)
