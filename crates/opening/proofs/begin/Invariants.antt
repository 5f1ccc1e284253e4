-- `opening::begin` meets its contract. The invariant: the rows of the first k trains are written. Assumes nothing.
use mathlib.Core.Path.{◌≡◌}
use Prim.Native.Nat.{◌-◌, ◌≤◌}
use lib.ListN.{get_or}
use Rattle.theory_lists.specs.Writes.{Put}
use Rattle.rows.specs.Rows.{words}
use Rattle.opening.specs.Beginning.{first_trains}
use Rattle.opening.proofs.begin.Given as goal

abbrev pub invariant-loop-k : goal.invariant-loop-k
invariant-loop-k l = (l.n ≡ get_or l.tables 0 0) × Put l.initial.rows 0 (words (first_trains l.tables l.k)) l.at l.rows
