-- `rows::gather` meets its contract. The invariant: the output begins with the covers met among the first i rows. Assumes nothing.
use mathlib.Core.Path.{◌≡◌}
use Prim.Native.Nat.{◌/◌, ◌≤◌}
use lib.ListN.{length, take}
use Rattle.rows.specs.Rows.{rows_in, met_of}
use Rattle.rows.proofs.gather.Given as goal

abbrev pub invariant-loop-i : goal.invariant-loop-i
invariant-loop-i l = (l.i ≤ length l.rows / 2) × (l.w ≤ l.i) × (length l.out ≡ length l.initial.out) × (take l.w l.out ≡ met_of l.e l.k (rows_in l.i l.rows))
