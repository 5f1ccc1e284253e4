-- `out_listing::Text::minute_lines` meets its contract. The loop keeps the lines of the first `t` minutes put. Assumes nothing.
use Rattle.std.proofs.Common.{◌≡◌, ap, ◌∙◌, ℕ, ◌+◌, ◌++◌, arith}
use Rattle.rules.specs.Listing.{minute_line}
use Rattle.out_listing.specs.Text.{minute_lines}
use Rattle.out_listing.proofs.Laws.{minutes-none, minutes-more}
use Rattle.out_listing.proofs.Writes.{adds_none, adds_join, adds_as}
use Rattle.out_listing.proofs.Text.minute_lines.Goals as goal

pub loop-t-init : goal.loop-t-init
loop-t-init c =
    let a = c.args in
    adds_as (adds_none a.self.now.bytes a.self.now.at a.self.now.within) (minutes-none a.weights.now a.k)

pub loop-t-preserved : goal.loop-t-preserved
loop-t-preserved c =
    let a = c.args in
    let t = c.loop-t.t in
    adds_as
    (adds_join c.loop-t.invariant c.minute_line.ensures)
    (ap (λ (w : ℕ). minute_lines a.weights.now a.k t ++ minute_line a.k t w) c.weight.ensures ∙ minutes-more a.weights.now a.k t)

pub returns : goal.returns
returns c =
    let n : c.loop-t.t ≡ c.args.last + 1 = omega arith in
    adds_as c.loop-t.invariant (ap (minute_lines c.args.weights.now c.args.k) n)
