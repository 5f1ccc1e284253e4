-- `weigh::brought` meets its contract. The invariant: the sum is that of the covers passed, as the machine sums. Assumes nothing.
use Rattle.std.proofs.Common.{◌≡◌, ◌≤◌, length, take}
use Rattle.weigh.specs.Weigh.{brought_of}
use Rattle.weigh.proofs.brought.Given as goal

abbrev pub invariant-loop-c : goal.invariant-loop-c
invariant-loop-c l = (l.c-index ≤ length l.covers) × (l.sum ≡ brought_of l.tables (take l.c-index l.covers))
