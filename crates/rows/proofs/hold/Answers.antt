-- `rows::hold` meets its contract. The invariant: what is written are the rows of the first i covers. Assumes nothing.
use borrow.Author.Rules.{rules}
use native.Mathlib.Omega.{arith}
use Rattle.std.proofs.Common.{take_all}
use Rattle.theory_lists.specs.Writes.{put_none, put_join, put_fits, put_length}
use Rattle.rows.specs.Rows.{words, held_rows}
use Rattle.rows.specs.Written.{held_rows-more}
use Rattle.rows.proofs.hold.Goals as goal

pub loop-held-init : goal.loop-held-init
unfolding words held_rows
loop-held-init c = (search rules, put_none _ _ (search rules))

pub append-z-requires : goal.append-z-requires
append-z-requires c = put_fits c.loop-held.invariant.1

pub loop-held-preserved : goal.loop-held-preserved
loop-held-preserved c =
    let at = c.loop-held in
    let s = c.args in
    (omega arith, rw (held_rows-more s.s at.held-index s.covers.now (omega arith)) (put_join at.invariant.1 c.append-z.ensures))

pub shape_of-out : goal.shape_of-out
shape_of-out c = put_length c.loop-held.invariant.1

pub returns : goal.returns
returns c = rw (← take_all c.loop-held.held-index c.args.covers.now (omega arith)) c.loop-held.invariant.1
