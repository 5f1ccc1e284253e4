-- `asking::meet_on` meets its contract, by the test of its branch. Assumes nothing.
use Rattle.std.proofs.Common.{refl, arith, le-ltb, lt-ltb}
use Rattle.asking.specs.Ask.{met_on}
use Rattle.asking.proofs.meet_on.Goals as goal

pub returns-then-e-ge-WAY_OUT : goal.returns-then-e-ge-WAY_OUT
unfolding met_on
returns-then-e-ge-WAY_OUT c = (omega arith, rw (le-ltb _ _ c.if-e-ge-WAY_OUT.true) (record { few = omega arith; list = refl }))

pub returns : goal.returns
unfolding met_on
returns c = (c.gather.ensures.0, rw (lt-ltb _ _ c.if-e-ge-WAY_OUT.false) c.gather.ensures.1)
