-- `single::soonest` meets its contract: the best so far and the turns still to come give what all give. Assumes nothing.
use mathlib.Core.Path.{◌≡◌, sym, ap, ◌∙◌}
use Prim.Native.Nat.{ℕ, ◌+◌, ◌≤◌}
use native.Mathlib.Omega.{arith}
use lib.ListN.{get_or}
use mathlib.Core.List.{List}
use Rattle.rules.specs.Lists.{fold, below}
use Rattle.words.specs.Spans.{onward, fold_next, fold_end}
use Rattle.moving.specs.Words.{nearer}
use Rattle.single_laws.specs.Going.{soonest_in}
use Rattle.single_laws.specs.Least.{min-nearer}
use Rattle.single.proofs.soonest.Goals as goal

pub loop-i-preserved : goal.loop-i-preserved
loop-i-preserved c =
    let asks = c.args.asks.now in
    let n = c.at-n.result in
    let l = c.loop-i in
    let least : c.min-best.result ≡ nearer 0 c.at.result l.best = c.min-best.ensures ∙ min-nearer 0 c.at.result l.best (omega arith) in
    ap (fold (λ j b. nearer 0 (get_or asks j 0) b) (onward n (l.i + 1))) (least ∙ ap (λ (q : ℕ). nearer 0 q l.best) c.at.ensures)
    ∙ sym (fold_next (λ j b. nearer 0 (get_or asks j 0) b) n l.i l.best c.loop-i-test.true)
    ∙ l.invariant

-- after the last train the best is the least of all
least-of-all : (T asks : List ℕ) (n i best end : ℕ) → n ≡ get_or T 0 0 → n ≤ i → fold (λ j b. nearer 0 (get_or asks j 0) b) (onward n i) best ≡ fold (λ j b. nearer 0 (get_or asks j 0) b) (below n) end
    → best ≡ soonest_in T asks end
unfolding soonest_in
least-of-all T asks n i best end all last so_far =
    sym (fold_end (λ j b. nearer 0 (get_or asks j 0) b) n i best last) ∙ so_far ∙ ap (λ (m : ℕ). fold (λ j b. nearer 0 (get_or asks j 0) b) (below m) end) all

pub returns-then-best-end : goal.returns-then-best-end
returns-then-best-end c =
    let a = c.args in
    (least-of-all a.tables.now a.asks.now c.at-n.result c.loop-i.i c.loop-i.best a.end c.at-n.ensures c.loop-i-test.false c.loop-i.invariant, c.if-best-end.true)

pub returns-else-best-end : goal.returns-else-best-end
returns-else-best-end c =
    let a = c.args in
    let least : c.loop-i.best ≡ soonest_in a.tables.now a.asks.now a.end =
    least-of-all a.tables.now a.asks.now c.at-n.result c.loop-i.i c.loop-i.best a.end c.at-n.ensures c.loop-i-test.false c.loop-i.invariant in
    omega (arith, least, c.if-best-end.false)
