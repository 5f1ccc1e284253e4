-- `single_turn::tell` meets its contract: of the trains so far those who wait have their turns anew, and the others what they had. Assumes nothing.
use Rattle.single_laws.specs.Moves.{waits_for, RenewedTo}
use Rattle.single_turn.proofs.tell.Given as goal

abbrev pub invariant-loop-i : goal.invariant-loop-i
invariant-loop-i l = RenewedTo l.plan.tables.words.now l.run l.q (waits_for l.plan.tables.words.now l.left) l.initial.asks l.i l.asks
