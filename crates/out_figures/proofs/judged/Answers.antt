-- `out_figures::judged` meets its contract: its two tests are those of the judgement. Assumes nothing.
use mathlib.Core.Path.{ap}
use borrow.Author.Tests.{eq-eqb, ne_eqb}
use Rattle.out_figures.specs.Sums.{judgement}
use Rattle.out_figures.specs.declared.Punctuality.TheVariants.{Share}
use Rattle.out_figures.proofs.judged.Goals as goal

pub returns-then-on-eq0 : goal.returns-then-on-eq0
unfolding judgement
returns-then-on-eq0 c = simp (eq-eqb c.args.on 0 c.if-on-eq0.true)

pub returns-then-on-total : goal.returns-then-on-total
unfolding judgement
returns-then-on-total c = simp (ne_eqb _ _ c.if-on-eq0.false, eq-eqb _ _ c.if-on-total.true)

pub returns : goal.returns
unfolding judgement
returns c = simp (ne_eqb _ _ c.if-on-eq0.false, ne_eqb _ _ c.if-on-total.false) (ap Share c.share.ensures)
