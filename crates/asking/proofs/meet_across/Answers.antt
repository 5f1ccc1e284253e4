-- `asking::meet_across` meets its contract, by the test of its branch. Assumes nothing.
use Rattle.std.proofs.Common.{refl, arith, eq-eqb, ne_eqb}
use Rattle.asking.specs.Ask.{met_across}
use Rattle.asking.proofs.meet_across.Goals as goal

pub returns-then-w-eq0 : goal.returns-then-w-eq0
unfolding met_across
returns-then-w-eq0 c = (omega arith, rw (eq-eqb _ _ c.if-w-eq0.true) (record { few = omega arith; list = refl }))

pub returns : goal.returns
unfolding met_across
returns c = (c.gather.ensures.0, rw (ne_eqb _ _ c.if-w-eq0.false) c.gather.ensures.1)
