-- `clearing::close_up` meets its contract. The invariant is `Closing`: the kept rows stand first, and what is still to be read is unchanged; and the pairs that
-- the rows read so far concern are told. Assumes nothing.
use Prim.Native.Nat.{◌≤◌}
use Rattle.rows.specs.Rows.{rows_in}
use Rattle.rows.specs.Swept.{Closing}
use Rattle.clearing.specs.Clear.{Leaves}
use Rattle.clearing.proofs.close_up.Given as goal

abbrev pub invariant-loop-i : goal.invariant-loop-i
invariant-loop-i l = (l.j ≤ l.i) × Closing l.t l.i l.initial.rows l.j l.rows × Leaves l.tables l.t (rows_in l.i l.initial.rows) l.initial.notes l.notes
