-- `cut::meeting` meets its contract. The invariant: the place that is sought from `at` on is the place that is sought from i on. Assumes nothing.
use mathlib.Core.Path.{◌≡◌}
use Prim.Native.Nat.{◌+◌, ◌≤◌}
use lib.ListN.{length, drop}
use Rattle.cut.specs.Cut.{passed}
use Rattle.cut.proofs.meeting.Given as goal

abbrev pub invariant-loop-i : goal.invariant-loop-i
invariant-loop-i l = (l.i ≤ length l.met) × (l.at + passed l.need l.p (drop l.at l.met) ≡ l.i + passed l.need l.p (drop l.i l.met))
