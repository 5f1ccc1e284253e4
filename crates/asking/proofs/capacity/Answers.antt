-- `asking::capacity` meets its contract, by the test of its branch. Assumes nothing.
use Rattle.std.proofs.Common.{le-ltb, lt-ltb}
use Rattle.asking.specs.Ask.{cap_of}
use Rattle.asking.proofs.capacity.Goals as goal

pub returns-then-e-lt-WAY_OUT : goal.returns-then-e-lt-WAY_OUT
unfolding cap_of
returns-then-e-lt-WAY_OUT c = simp (lt-ltb _ _ c.if-e-lt-WAY_OUT.true, c.at.ensures)

pub returns : goal.returns
unfolding cap_of
returns c = simp (le-ltb _ _ c.if-e-lt-WAY_OUT.false)
