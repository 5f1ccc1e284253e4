-- `opening::first_train` meets its contract. The invariant: the rows of the first d delays are written. Assumes nothing.
use mathlib.Core.Path.{◌≡◌}
use mathlib.Core.List.{map}
use Prim.Native.Nat.{◌+◌, ◌-◌, ◌≤◌}
use lib.ListN.{get_or}
use Rattle.rules.specs.Lists.{below}
use Rattle.theory_lists.specs.Writes.{Put}
use Rattle.rows.specs.Rows.{words}
use Rattle.opening.specs.First.{first_row}
use Rattle.opening.proofs.first_train.Given as goal

abbrev pub invariant-loop-d : goal.invariant-loop-d
invariant-loop-d l = (l.n ≡ get_or l.tables (40 + l.k) 0) × (l.arrival ≡ get_or l.tables (32 + l.k) 0) × Put l.initial.rows l.w (words (map (first_row l.tables l.k) (below l.d))) l.at l.rows
