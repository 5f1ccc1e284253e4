-- `clearing::enrol` meets its contract. The invariant: the minutes of the first i rows are shown. Assumes nothing.
use Rattle.rows.specs.Rows.{rows_in}
use Rattle.clearing.specs.Clear.{Enrols}
use Rattle.clearing.proofs.enrol.Given as goal

abbrev pub invariant-loop-i : goal.invariant-loop-i
invariant-loop-i l = Enrols (rows_in l.i l.rows) l.notes
