-- `out_images::clear` meets its contract: zeros as far as n, and the memory past it. Assumes nothing.
use Rattle.std.proofs.Common.{◌≡◌, ap, ◌∙◌, ℕ, List, ◌++◌, take, drop, length-take-le}
use Rattle.std.proofs.Math.ListN.{replicate}
use Rattle.out_images.specs.Filled.{cleared-filled}
use Rattle.out_images.proofs.clear.Goals as goal

pub returns : goal.returns
returns c =
    let a = c.args in
    ap (λ (zeros : List ℕ). zeros ++ drop a.n a.out.now) (c.fill.ensures.after (λ y e. e))
    ∙ ap (λ (k : ℕ). replicate {A = ℕ} k 0 ++ drop a.n a.out.now) (length-take-le a.n a.out.now c.requires)
    ∙ cleared-filled a.n a.out.now
