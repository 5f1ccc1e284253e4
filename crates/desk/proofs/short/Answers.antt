-- `desk::short` meets its contract: each way follows the tests of `short`. Assumes nothing.
use borrow.Author.Tests.{lt-ltb, le-ltb}
use Rattle.rules.specs.Calls.{short}
use Rattle.desk.proofs.short.Goals as goal

pub returns-then-rows-lt16384 : goal.returns-then-rows-lt16384
unfolding short
returns-then-rows-lt16384 c = simp (lt-ltb _ _ c.if-rows-lt16384.true)

pub returns-then-weights-lt40320 : goal.returns-then-weights-lt40320
unfolding short
returns-then-weights-lt40320 c = simp (le-ltb _ _ c.if-rows-lt16384.false, lt-ltb _ _ c.if-weights-lt40320.true)

pub returns-else-weights-lt40320 : goal.returns-else-weights-lt40320
unfolding short
returns-else-weights-lt40320 c = simp (le-ltb _ _ c.if-rows-lt16384.false, le-ltb _ _ c.if-weights-lt40320.false)
