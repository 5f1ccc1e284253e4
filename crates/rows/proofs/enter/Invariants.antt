-- `rows::enter` meets its contract. The invariant: what is written are the rows of the first i covers. Assumes nothing.
use Prim.Native.Nat.{◌≤◌}
use lib.ListN.{length, take}
use Rattle.theory_lists.specs.Writes.{Put}
use Rattle.rows.specs.Rows.{words, entered_rows}
use Rattle.rows.proofs.enter.Given as goal

abbrev pub invariant-loop-c : goal.invariant-loop-c
invariant-loop-c l = (l.c-index ≤ length l.covers) × Put l.initial.out l.w (words (entered_rows l.s l.b l.two (take l.c-index l.covers))) l.z l.out
