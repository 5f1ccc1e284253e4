-- `rows::hold` meets its contract. The invariant: what is written are the rows of the first i covers. Assumes nothing.
use Prim.Native.Nat.{◌≤◌}
use lib.ListN.{length, take}
use Rattle.theory_lists.specs.Writes.{Put}
use Rattle.rows.specs.Rows.{words, held_rows}
use Rattle.rows.proofs.hold.Given as goal

abbrev pub invariant-loop-held : goal.invariant-loop-held
invariant-loop-held l = (l.held-index ≤ length l.covers) × Put l.initial.out l.w (words (held_rows l.s (take l.held-index l.covers))) l.z l.out
