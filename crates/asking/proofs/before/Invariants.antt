-- `asking::before` meets its contract. The invariant: the train does not go on to e from the places before p. Assumes nothing.
use Rattle.std.proofs.Common.{◌≡◌, ℕ, ◌+◌, ◌*◌, ◌<◌, get_or}
use Rattle.asking.proofs.before.Given as goal

abbrev pub invariant-loop-p : goal.invariant-loop-p
invariant-loop-p l = ((j : ℕ) → j < l.p → get_or l.tables (240 + (l.k * 128 + j)) 0 ≡ l.e → ⊥)
