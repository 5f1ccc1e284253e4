-- `weigh::cover_weight` meets its contract. The invariant: the product so far and that of the trains still to come are the cover's weight, and each
-- factor is at most 100. Assumes nothing.
use Rattle.std.proofs.Common.{◌≡◌, ◌-◌, ◌*◌, ◌^◌, ◌≤◌, get_or}
use Rattle.weigh.specs.Weigh.{cover_weight}
use Rattle.weigh.proofs.cover_weight.Given as goal

abbrev pub invariant-loop-j : goal.invariant-loop-j
invariant-loop-j l = (l.n ≡ get_or l.tables 0 0) × (l.j ≤ l.n) × (cover_weight l.tables 0 l.n l.c ≡ l.product * cover_weight l.tables l.j (l.n - l.j) l.left) × (l.product ≤ 100 ^ l.j)
