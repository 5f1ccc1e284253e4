-- `clearing::first_ended` meets its contract. The invariant: no row looked at so far goes. Assumes nothing.
use mathlib.Core.Path.{◌≡◌}
use mathlib.Core.Bool.{false}
use Rattle.theory_lists.specs.Every.{Every}
use Rattle.rows.specs.Rows.{rows_in, ended_of}
use Rattle.clearing.proofs.first_ended.Given as goal

abbrev pub invariant-loop-i : goal.invariant-loop-i
invariant-loop-i l = Every (λ r. ended_of l.t r.state ≡ false) (rows_in l.i l.rows)
