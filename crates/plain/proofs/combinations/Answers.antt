-- `plain::combinations` meets its contract: the product of the sizes from a train on is that of one train more, times its size. Assumes nothing.
use Rattle.std.proofs.Common.{◌≡◌, ℕ, ◌+◌, ◌-◌, ◌*◌, ◌^◌, ◌<◌, ◌≤◌, get_or, drop, sym, ap, ◌∙◌, ap₂, arith, mul_comm}
use Rattle.theory_plain.specs.Numbered.{times}
use Rattle.plain.specs.Words.{sizes_in}
use Rattle.plain.specs.Choosing.{times-end, times-next, power_more, eights_fit}
use Rattle.plain.proofs.combinations.Goals as goal

pub loop-k-init : goal.loop-k-init
loop-k-init c =
    let tables = c.args.tables.now in
    let all : c.at-n.result ≡ get_or tables 0 0 = c.at-n.ensures in
    let none : c.at-n.result - c.at-n.result ≡ 0 = omega arith in (
      omega arith,
      all,
      sym (ap (λ (k : ℕ). times (drop k (sizes_in tables))) all ∙ times-end tables c.requires),
      omega (arith, ap (λ (j : ℕ). 8 ^ j) none),
    )

pub overflow_mul-product : goal.overflow_mul-product
overflow_mul-product c =
    let loop = c.loop-k in
    let few = c.requires.few in
    let size : c.at-product.result ≤ 8 = omega (arith, c.at-product.ensures, c.requires.most (loop.k - 1) (omega (arith, loop.invariant.0, loop.invariant.1, c.loop-k-test.true))) in
    let more = power_more 8 c.at-n.result loop.k c.at-product.result loop.product c.loop-k-test.true loop.invariant.0 size loop.invariant.3 in
    omega (arith, mul_comm loop.product c.at-product.result, eights_fit (c.at-n.result - (loop.k - 1)) (c.at-product.result * loop.product) (omega (arith, loop.invariant.1)) more)

pub loop-k-preserved : goal.loop-k-preserved
loop-k-preserved c =
    let tables = c.args.tables.now in
    let loop = c.loop-k in
    let some = c.loop-k-test.true in
    let low : loop.k - 1 < get_or tables 0 0 = omega (arith, loop.invariant.0, loop.invariant.1, some) in
    let size : c.at-product.result ≤ 8 = omega (arith, c.at-product.ensures, c.requires.most (loop.k - 1) low) in
    let back : loop.k ≡ loop.k - 1 + 1 = omega arith in (
      omega (arith, loop.invariant.0),
      loop.invariant.1,
      mul_comm loop.product c.at-product.result
          ∙ ap₂ (λ (s p : ℕ). s * p) c.at-product.ensures (loop.invariant.2 ∙ ap (λ (k : ℕ). times (drop k (sizes_in tables))) back)
          ∙ times-next tables c.requires (loop.k - 1) low,
      omega (arith, mul_comm loop.product c.at-product.result, power_more 8 c.at-n.result loop.k c.at-product.result loop.product some loop.invariant.0 size loop.invariant.3),
    )

pub returns : goal.returns
returns c =
    let tables = c.args.tables.now in
    let done : c.loop-k.k ≡ 0 = omega (arith, c.loop-k-test.false) in
    c.loop-k.invariant.2 ∙ ap (λ (k : ℕ). times (drop k (sizes_in tables))) done
