-- `file_bodies::pairs_verdict` meets its contract: the loop searches for a bad pair by index and sums the weights of those passed. Assumes nothing.
use mathlib.Core.Path.{◌≡◌}
use mathlib.Core.Bool.{false}
use Prim.Native.Nat.{◌+◌, ◌*◌, ◌≤◌}
use lib.ListN.{get_or}
use Rattle.file_bodies.specs.Bodies.{any_below, sum_below, bad_pair}
use Rattle.file_bodies.proofs.pairs_verdict.Given as goal

abbrev pub invariant-loop-k : goal.invariant-loop-k
invariant-loop-k l = (any_below (bad_pair l.body) l.k ≡ false) × (l.total ≡ sum_below (λ i. get_or l.body (2 * i + 2) 0) l.k) × (l.total ≤ 256 * l.k)
