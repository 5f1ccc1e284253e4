-- `single_start::first` meets its contract: the trains so far have their first turns, and the others what they had. Assumes nothing.
use mathlib.Core.Bool.{true}
use Rattle.single_laws.specs.Moves.{RenewedTo}
use Rattle.single_start.proofs.first.Given as goal

abbrev pub invariant-loop-i : goal.invariant-loop-i
invariant-loop-i l = RenewedTo l.plan.tables.words.now l.run 0 (λ z. true) l.initial.asks l.i l.asks
