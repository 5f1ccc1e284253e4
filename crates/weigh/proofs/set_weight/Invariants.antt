-- `weigh::set_weight` meets its contract. The invariant: what is summed and what is still to sum are the set's weight. Assumes nothing.
use Rattle.std.proofs.Common.{◌≡◌, ◌+◌, ◌-◌, ◌*◌}
use Rattle.weigh.specs.Weigh.{set_weight}
use Rattle.weigh.proofs.set_weight.Given as goal

abbrev pub invariant-loop-i : goal.invariant-loop-i
invariant-loop-i l = (l.first ≡ 112 + l.j * 8) × (set_weight l.tables (112 + l.j * 8) 8 l.x ≡ l.sum + set_weight l.tables l.i (120 + l.j * 8 - l.i) l.left)
