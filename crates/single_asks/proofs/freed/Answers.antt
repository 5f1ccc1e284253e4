-- `single_asks::freed` meets its contract: the best so far and the blocks still to come give what all give. Assumes nothing.
use mathlib.Core.Path.{◌≡◌, sym, ap, ◌∙◌}
use Prim.Native.Nat.{ℕ, ◌+◌, ◌*◌}
use native.Mathlib.Omega.{arith}
use lib.ListN.{get_or}
use Rattle.rules.specs.Lists.{fold}
use Rattle.words.specs.Spans.{onward, fold_next}
use Rattle.moving.specs.Words.{nearer}
use Rattle.single_laws.specs.Least.{min-nearer, not-nearer}
use Rattle.single_asks.proofs.freed.Goals as goal
use Rattle.single_asks.proofs.freed.Goals.{then-t-end, else-t-end}

pub loop-k-preserved : goal.loop-k-preserved
loop-k-preserved c =
    let a = c.args in
    let l = c.loop-k in
    let first : c.if-t-end.best ≡ nearer (a.t + 1) c.at-end.result l.best =
    elim c.if-t-end.branch [
      | then-t-end w ↦ w.best-is ∙ w.min-best.ensures ∙ min-nearer (a.t + 1) c.at-end.result l.best (omega (arith, w.if-t-end.true))
      | else-t-end w ↦ w.best-is ∙ not-nearer (a.t + 1) c.at-end.result l.best (omega (arith, w.if-t-end.false))
    ] in
    ap (fold (λ j b. nearer (a.t + 1) (get_or a.run.now (24 + a.e * 8 + j) 0) b) (onward c.at-n.result (l.k + 1)))
    (first ∙ ap (λ (q : ℕ). nearer (a.t + 1) q l.best) c.at-end.ensures)
    ∙ sym (fold_next (λ j b. nearer (a.t + 1) (get_or a.run.now (24 + a.e * 8 + j) 0) b) c.at-n.result l.k l.best c.loop-k-test.true)
    ∙ l.invariant
