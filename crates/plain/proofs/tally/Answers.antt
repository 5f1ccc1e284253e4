-- `plain::tally` meets its contract: the trains still to come add to what the trains before them have left. Assumes nothing.
use Rattle.std.proofs.Common.{ℕ, ◌+◌, ◌<◌, sym, ap, ◌∙◌, arith}
use Rattle.rules.specs.Lists.{fold, below}
use Rattle.words.specs.Spans.{onward, fold-all, fold_next, fold_end}
use Rattle.plain.specs.Words.{arrived_in, tallied_in}
use Rattle.plain.proofs.tally.Invariants.{step}
use Rattle.plain.proofs.tally.Goals as goal

pub loop-k-init : goal.loop-k-init
unfolding tallied_in
loop-k-init c =
    let a = c.args in (
      c.at-n.ensures,
      omega arith,
      fold-all (step a.run.now a.weight) c.at-n.result a.ws.now
          ∙ ap (λ (n : ℕ). fold (step a.run.now a.weight) (below n) a.ws.now) c.at-n.ensures,
    )

pub add_arrival-requires : goal.add_arrival-requires
add_arrival-requires c =
    let loop = c.loop-k in
    let low : loop.k < 8 = omega (arith, c.loop-k-test.true, loop.invariant.0, c.requires.0) in
    (low, omega (arith, c.at.ensures, c.requires.1 loop.k (omega (arith, c.loop-k-test.true, loop.invariant.0))))

pub loop-k-preserved : goal.loop-k-preserved
loop-k-preserved c =
    let a = c.args in
    let loop = c.loop-k in
    let n = c.at-n.result in
    let u = c.add_arrival.new.ws in (
      loop.invariant.0,
      omega (arith, loop.invariant.1),
      ap (fold (step a.run.now a.weight) (onward n (loop.k + 1)))
          (c.add_arrival.ensures ∙ ap (λ (v : ℕ). arrived_in loop.k v a.weight loop.ws) c.at.ensures)
          ∙ sym (fold_next (step a.run.now a.weight) n loop.k loop.ws c.loop-k-test.true)
          ∙ loop.invariant.2,
    )

pub shape_of-ws : goal.shape_of-ws
shape_of-ws c = c.loop-k.invariant.1

pub returns : goal.returns
returns c =
    let a = c.args in
    sym (fold_end (step a.run.now a.weight) c.at-n.result c.loop-k.k c.loop-k.ws c.loop-k-test.false) ∙ c.loop-k.invariant.2
