-- `rows::enter` meets its contract. The invariant: what is written are the rows of the first i covers. Assumes nothing.
use borrow.Author.Rules.{rules}
use native.Mathlib.Omega.{arith}
use Rattle.std.proofs.Common.{take_all}
use Rattle.theory_lists.specs.Writes.{put_none, put_join, put_fits, put_length}
use Rattle.rows.specs.Rows.{words, entered_rows}
use Rattle.rows.specs.Written.{entered_rows-more}
use Rattle.rows.proofs.enter.Goals as goal

pub loop-c-init : goal.loop-c-init
unfolding words entered_rows
loop-c-init c = (search rules, put_none _ _ (search rules))

pub enter_one-z-requires : goal.enter_one-z-requires
enter_one-z-requires c = put_fits c.loop-c.invariant.1

pub loop-c-preserved : goal.loop-c-preserved
loop-c-preserved c =
    let at = c.loop-c in
    let s = c.args in
    (omega arith, rw (entered_rows-more s.s s.b s.two at.c-index s.covers.now (omega arith)) (put_join at.invariant.1 c.enter_one-z.ensures))

pub shape_of-out : goal.shape_of-out
shape_of-out c = put_length c.loop-c.invariant.1

pub returns : goal.returns
returns c = rw (← take_all c.loop-c.c-index c.args.covers.now (omega arith)) c.loop-c.invariant.1
