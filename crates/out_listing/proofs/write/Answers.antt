-- `out_listing::write` meets its contract. The loop keeps the lines of the first `k` trains put behind the first line, in cleared text. Assumes nothing.
use Rattle.std.proofs.Common.{◌≡◌, ◌∙◌, arith, rules}
use Rattle.rules.specs.Listing.{listing}
use Rattle.theory_lists.specs.Writes.{put_as}
use Rattle.out_listing.specs.Printed.{text-listing, wrote_listed}
use Rattle.out_listing.proofs.Laws.{trains-none, trains-more, text-parts}
use Rattle.out_listing.proofs.Writes.{adds_none, adds_join, adds_as, lent_back, zeros-filled}
use Rattle.out_listing.proofs.write.Goals as goal

pub loop-k-init : goal.loop-k-init
loop-k-init c =
    let first = c.first_line.new.self in
    adds_as (adds_none first.bytes first.at first.within) (trains-none c.whole_weight-whole.result c.args.last c.args.weights.now)

pub loop-k-preserved : goal.loop-k-preserved
loop-k-preserved c =
    adds_as (adds_join c.loop-k.invariant c.train_lines.ensures) (trains-more c.whole_weight-whole.result c.args.last c.args.weights.now c.loop-k.k)

pub returns-clause-put : goal.returns-clause-put
returns-clause-put c =
    let a = c.args in
    let all : c.loop-k.k ≡ a.trains = omega arith in
    lent_back
    (adds_as (adds_join c.first_line.ensures c.loop-k.invariant)
    (text-parts c.whole_weight-whole.result a.trains a.last a.weights.now c.loop-k.k c.whole_weight-whole.ensures all))
    (c.fill.ensures.after (λ y e. e) ∙ zeros-filled a.text.now) (search rules)

pub returns-clause-prints : goal.returns-clause-prints
returns-clause-prints c =
    let a = c.args in
    λ C v w fits. wrote_listed a.text.now (listing C v) _ _ (put_as (returns-clause-put c) (text-listing C v a.trains a.last a.weights.now w)) fits
