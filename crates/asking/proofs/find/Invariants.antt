-- `asking::find` meets its contract. The invariant: the test says no to each of the rows passed. Assumes nothing.
use Rattle.std.proofs.Common.{◌*◌, false}
use Rattle.std.proofs.Math.Seq.{slice}
use Rattle.theory_lists.specs.Every.{Every}
use Rattle.rows.specs.Rows.{rows_of}
use Rattle.asking.proofs.find.Given as goal

abbrev pub invariant-loop-j : goal.invariant-loop-j
invariant-loop-j g l = Every (λ x. goal.F-post g l.test x.state x.cover false) (rows_of (slice (l.i * 2) (l.j * 2) l.rows))
