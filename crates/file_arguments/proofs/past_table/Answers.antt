-- `file_arguments::past_table` meets its contract: the table is train k's, and its pairs are held against the index. Assumes nothing.
use mathlib.Core.Path.{sym}
use Rattle.file_arguments.specs.Arguments.{past_table}
use Rattle.file_arguments.proofs.past_table.Goals as goal

pub returns : goal.returns
unfolding past_table
returns c = simp (sym c.train_table-table.ensures.bytes, sym c.pairs.ensures, sym c.byte.ensures.0)
