-- `single_start::clear` meets its contract: the trains so far are cleared, and the others as they were left. Assumes nothing.
use Rattle.single_laws.specs.Trail.{Clearing}
use Rattle.single_start.proofs.clear.Given as goal

abbrev pub invariant-loop-k : goal.invariant-loop-k
invariant-loop-k l = Clearing l.plan.tables.words.now l.k l.run l.asks
