-- `clearing::close_up` meets its contract. The invariant is `Closing`: the kept rows stand first, and what is still to be read is unchanged; and the pairs that
-- the rows read so far concern are told. Assumes nothing.
use mathlib.Core.Path.{◌≡◌, sym, ap, ◌∙◌}
use mathlib.Core.Bool.{not}
use Prim.Native.Nat.{◌+◌, ◌*◌, ◌/◌, ◌≤◌}
use native.Mathlib.Omega.{arith}
use lib.ListN.{length, get_or, length-set}
use Rattle.rows.specs.Rows.{rows_of}
use Rattle.rows.specs.Written.{rows_in-all}
use Rattle.rows.specs.Swept.{closing_none, closing_kept, closing_gone}
use Rattle.clearing.specs.Clearing.{leaves_none, leaves_gone, leaves_kept}
use Rattle.clearing.proofs.close_up.Goals as goal
use Rattle.clearing.proofs.close_up.Goals.{else-ended, then-ended}

pub loop-i-init : goal.loop-i-init
unfolding rows_of
loop-i-init c =
    let s = c.args in (omega arith, closing_none s.t s.rows.now, leaves_none s.tables.now s.t s.notes.now c.requires.0)

pub tell_left-requires : goal.tell_left-requires
tell_left-requires c = (omega arith, c.requires.1)

pub bounds-rows-j-else-ended : goal.bounds-rows-j-else-ended
bounds-rows-j-else-ended c =
    let at = c.loop-i in
    omega (arith, length-set at.rows (at.j * 2) (get_or at.rows (at.i * 2) 0))

pub loop-i-preserved : goal.loop-i-preserved
loop-i-preserved c =
    let s = c.args in
    let pairs = c.requires.1 in
    let at = c.loop-i in
    let N = s.notes.now in
    let long : at.i * 2 + 2 ≤ length s.rows.now = omega arith in
    elim c.if-ended.branch [
      | then-ended w ↦ let gone = sym c.ended.ensures ∙ w.if-ended.true in
          let told = leaves_gone s.tables.now pairs at.invariant.1 N at.notes long at.invariant.2 gone in
          rw (w.rows-is, w.notes-is, w.j-is, w.tell_left.ensures) (omega arith, closing_gone at.invariant.1 long (ap not gone), told)
      | else-ended w ↦ let stays = sym c.ended.ensures ∙ w.if-ended.false in
          let kept = closing_kept at.invariant.1 long (ap not stays) in
          let told = leaves_kept s.tables.now pairs at.invariant.1 N at.notes long at.invariant.2 stays in
          rw (w.rows-is, w.notes-is, w.j-is) (omega arith, kept, told)
    ]

pub returns : goal.returns
returns c =
    let at = c.loop-i in
    let was = c.args.rows.now in
    let e : at.i ≡ length was / 2 = omega arith in
    (rw (← e) at.invariant.1, rw (rows_in-all at.i was (omega arith) (omega arith)) at at.invariant.2)
