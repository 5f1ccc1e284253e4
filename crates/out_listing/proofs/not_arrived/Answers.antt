-- `out_listing::not_arrived` meets its contract. The loop keeps what the first `t` minutes leave of the whole weight. Assumes nothing.
use Rattle.std.proofs.Common.{◌≡◌, ap, ap₂, ◌∙◌, ℕ, ◌+◌, ◌-◌, arith}
use Rattle.out_listing.specs.Text.{left_of}
use Rattle.out_listing.proofs.Laws.{left-none, left-more}
use Rattle.out_listing.proofs.not_arrived.Goals as goal

pub loop-t-init : goal.loop-t-init
loop-t-init c = left-none c.args.whole c.args.weights.now c.args.k

pub loop-t-preserved : goal.loop-t-preserved
loop-t-preserved c =
    let a = c.args in
    c.saturating_sub-rest.ensures ∙ ap₂ (λ (x y : ℕ). x - y) c.loop-t.invariant c.weight.ensures ∙ left-more a.whole a.weights.now a.k c.loop-t.t

pub returns : goal.returns
returns c =
    let a = c.args in
    let n : c.loop-t.t ≡ a.last + 1 = omega arith in
    c.loop-t.invariant ∙ ap (left_of a.whole a.weights.now a.k) n
