-- `plain::choose` meets its contract: from the last train to the first, what is left of the number is divided by the size of one more table, and the weight is
-- multiplied by that of one more index. Assumes nothing.
use Rattle.plain.specs.Choosing.{Choosing}
use Rattle.plain.proofs.choose.Given as goal

abbrev pub invariant-loop-k : goal.invariant-loop-k
invariant-loop-k l = Choosing l.tables l.i l.n l.choice l.k l.left l.weight
