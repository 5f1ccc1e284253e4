-- `clearing::mark` meets its contract. The invariant: of the first i rows those that are due wait. Assumes nothing.
use Rattle.rows.specs.Rows.{rows_in}
use Rattle.clearing.specs.Clear.{Marks}
use Rattle.clearing.proofs.mark.Given as goal

abbrev pub invariant-loop-i : goal.invariant-loop-i
invariant-loop-i l = Marks l.tables l.t (rows_in l.i l.rows) l.initial.notes l.notes
