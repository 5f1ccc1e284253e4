-- `rows::gather` meets its contract. The invariant: the output begins with the covers met among the first i rows. Assumes nothing.
use mathlib.Core.Path.{◌≡◌, refl, sym, ◌∙◌}
use Prim.Native.Nat.{◌+◌, ◌*◌, ◌/◌}
use native.Mathlib.Omega.{arith}
use mathlib.Core.Bool.{not}
use lib.ListN.{get_or, length-set}
use lib.Dec.{eqb}
use Rattle.rows.specs.Rows.{rows_of, rows_in, met_of}
use Rattle.rows.specs.Written.{met_offered, met-passed, one-few, rows_in-all}
use borrow.Author.Rules.{rules}
use Rattle.rows.proofs.gather.Goals as goal
use Rattle.rows.proofs.gather.Goals.{else-s-e, then-s-e}

pub loop-i-init : goal.loop-i-init
unfolding met_of rows_of
loop-i-init c = (search rules, search rules, refl, refl)

pub offer-w-requires : goal.offer-w-requires
offer-w-requires c = omega (arith, c.loop-i.invariant.1, c.loop-i.invariant.2)

pub loop-i-preserved : goal.loop-i-preserved
loop-i-preserved c =
    let at = c.loop-i in
    let s = c.args in
    elim c.if-s-e.branch [
      | then-s-e w ↦ rw (w.out-is, w.w-is, w.offer-w.ensures.1, w.offer-w.ensures.0) (omega arith, omega (arith, one-few (not (eqb (get_or s.rows.now (at.i * 2) 0 / 524288) s.k)) (get_or s.rows.now (at.i * 2 + 1) 0), at.invariant.1), length-set at.out at.w _ ∙ at.invariant.2, met_offered s.e s.k at.i at.w s.rows.now at.out (omega arith) (omega arith) (omega (arith, at.invariant.1, at.invariant.2)) at.invariant.3)
      | else-s-e w ↦ rw (w.out-is, w.w-is) (omega arith, omega (arith, at.invariant.1), at.invariant.2, at.invariant.3 ∙ sym (met-passed s.e s.k at.i s.rows.now (omega arith) (λ e. omega arith)))
    ]

pub shape_of-out : goal.shape_of-out
shape_of-out c = c.loop-i.invariant.2

pub returns : goal.returns
returns c =
    let rows = c.args.rows.now in
    let all : rows_in c.loop-i.i rows ≡ rows_of rows = rows_in-all c.loop-i.i rows (omega arith) (omega arith) in
    (omega (arith, c.loop-i.invariant.1), record { few = omega (arith, c.loop-i.invariant.1, c.loop-i.invariant.2); list = rw (← all) c.loop-i.invariant.3 })
