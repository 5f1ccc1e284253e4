-- `file_bodies::pairs_verdict` meets its contract: the loop searches for a bad pair by index and sums the weights of those passed. Assumes nothing.
use native.Mathlib.Omega.{arith}
use mathlib.Core.Path.{sym, ◌∙◌}
use borrow.Author.Tests.{eq-eqb, ne_eqb}
use Rattle.file_bodies.specs.Bodies.{bad_pair, pairs_verdict}
use Rattle.file_bodies.specs.Search.{any_none, any-more, any_here, any-end, sum-none, sum_more, sum-end}
use Rattle.file_bodies.proofs.pairs_verdict.Goals as goal

pub loop-k-init : goal.loop-k-init
unfolding pairs_verdict
loop-k-init c = (any_none _, sym (sum-none _), omega arith)

pub returns-then-bad_pair : goal.returns-then-bad_pair
unfolding pairs_verdict
returns-then-bad_pair c = rw (any_here (bad_pair c.args.body.now) _ _ c.loop-k-test.true (sym c.bad_pair.ensures ∙ c.if-bad_pair.true))

pub loop-k-preserved : goal.loop-k-preserved
unfolding pairs_verdict
loop-k-preserved c =
    let l = c.loop-k in (
      any-more _ _ l.invariant.0 (sym c.bad_pair.ensures ∙ c.if-bad_pair.false),
      rw (sum_more, ← l.invariant.1, ← c.byte-total.ensures.0),
      omega arith,
    )

pub returns-then-total-eq100 : goal.returns-then-total-eq100
unfolding pairs_verdict
returns-then-total-eq100 c =
    let l = c.loop-k in
    simp (any-end _ _ _ l.auto.k-end c.loop-k-test.false l.invariant.0, sum-end _ _ _ l.auto.k-end c.loop-k-test.false l.invariant.1, eq-eqb _ _ c.if-total-eq100.true)

pub returns : goal.returns
unfolding pairs_verdict
returns c =
    let l = c.loop-k in
    simp (any-end _ _ _ l.auto.k-end c.loop-k-test.false l.invariant.0, sum-end _ _ _ l.auto.k-end c.loop-k-test.false l.invariant.1, ne_eqb _ _ c.if-total-eq100.false)
