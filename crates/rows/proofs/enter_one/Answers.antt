-- `rows::enter_one` meets its contract: the standing row, and the block where there is one. Assumes nothing.
use Rattle.rows.specs.Rows.{words, entered_rows}
use Rattle.theory_lists.specs.Writes.{put_join, put_fits}
use Rattle.rows.proofs.enter_one.Goals as goal

pub append-requires : goal.append-requires
append-requires c = put_fits c.append-next.ensures

pub returns-then-two : goal.returns-then-two
unfolding words entered_rows
returns-then-two c = rw c.if-two.true (put_join c.append-next.ensures c.append.ensures)

pub returns : goal.returns
unfolding words entered_rows
returns c = rw c.if-two.false c.append-next.ensures
