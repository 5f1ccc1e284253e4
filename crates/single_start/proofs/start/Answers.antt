-- `single_start::start` meets its contract: the words so far and the trains still to come give what all give. Assumes nothing.
use mathlib.Core.Path.{sym, ap, ◌∙◌}
use Prim.Native.Nat.{ℕ, ◌+◌}
use native.Mathlib.Omega.{arith}
use lib.ListN.{get_or}
use Rattle.rules.specs.Lists.{fold}
use Rattle.words.specs.Spans.{onward, fold-all, fold_next, fold_end}
use Rattle.moving.specs.Words.{waits_in, start_in}
use Rattle.single_start.proofs.start.Goals as goal

pub loop-k-init : goal.loop-k-init
loop-k-init c =
    let a = c.args in (omega arith, fold-all (λ j u. waits_in a.tables.now.words.now j (get_or a.choice.now j 0) u) c.at-n.result a.run.now)

pub wait-requires : goal.wait-requires
wait-requires c = (omega (arith, c.at-n.ensures.1, c.loop-k-test.true), c.index.ensures.1)

pub loop-k-preserved : goal.loop-k-preserved
loop-k-preserved c =
    let a = c.args in
    let k = c.loop-k.k in (
      omega arith,
      ap (fold (λ j u. waits_in a.tables.now.words.now j (get_or a.choice.now j 0) u) (onward c.at-n.result (k + 1)))
          (c.wait.ensures ∙ ap (λ (d : ℕ). waits_in a.tables.now.words.now k d c.loop-k.run) c.index.ensures.0)
          ∙ sym (fold_next (λ j u. waits_in a.tables.now.words.now j (get_or a.choice.now j 0) u) c.at-n.result k c.loop-k.run c.loop-k-test.true)
          ∙ c.loop-k.invariant.1,
    )

pub shape_of-run : goal.shape_of-run
shape_of-run c = c.loop-k.invariant.0

pub returns : goal.returns
unfolding start_in
returns c =
    let a = c.args in
    simp (sym c.at-n.ensures.0) (sym (fold_end (λ j u. waits_in a.tables.now.words.now j (get_or a.choice.now j 0) u) c.at-n.result c.loop-k.k c.loop-k.run c.loop-k-test.false) ∙ c.loop-k.invariant.1)
