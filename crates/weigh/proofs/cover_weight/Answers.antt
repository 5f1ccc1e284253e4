-- `weigh::cover_weight` meets its contract. The invariant: the product so far and that of the trains still to come are the cover's weight, and each
-- factor is at most 100. Assumes nothing.
use Rattle.std.proofs.Common.{◌≡◌, ℕ, ◌+◌, ◌-◌, ◌*◌, ◌/◌, ◌≤◌, sym, ap, ◌∙◌, one-mul, mul-one, arith, rules}
use Rattle.weigh.specs.Weigh.{cover_weight, weight_of}
use Rattle.weigh.specs.Weighing.{set_bound, cover-none, cover-more, product-more, product-fits}
use Rattle.weigh.proofs.cover_weight.Goals as goal

pub loop-j-init : goal.loop-j-init
loop-j-init c =
    let s = c.args in
    let n : c.at-n.result ≡ c.at-n.result - 0 = omega arith in
    (search rules, omega arith, ap (λ (z : ℕ). cover_weight s.tables.now 0 z s.c) n ∙ sym (one-mul (cover_weight s.tables.now 0 (c.at-n.result - 0) s.c)), omega arith)

pub set_weight-w-requires : goal.set_weight-w-requires
set_weight-w-requires c = (c.requires, omega (arith, c.requires.trains))

pub overflow_mul-product : goal.overflow_mul-product
overflow_mul-product c =
    let s = c.args in
    let l = c.loop-j in
    let w : c.set_weight-w.result ≤ 100 = set_bound s.tables.now l.j _ c.requires (omega (arith, c.requires.trains)) c.set_weight-w.ensures in
    omega (arith, product-fits (l.j + 1) (l.product * c.set_weight-w.result) (omega (arith, c.requires.trains)) (product-more l.j l.product c.set_weight-w.result l.invariant.3 w))

pub loop-j-preserved : goal.loop-j-preserved
loop-j-preserved c =
    let s = c.args in
    let l = c.loop-j in
    let w : c.set_weight-w.result ≤ 100 = set_bound s.tables.now l.j _ c.requires (omega (arith, c.requires.trains)) c.set_weight-w.ensures in
    let n : c.at-n.result - l.j - 1 ≡ c.at-n.result - (l.j + 1) = omega arith in (
      l.invariant.0,
      omega arith,
      l.invariant.2 ∙ cover-more s.tables.now l.j (c.at-n.result - l.j) l.product l.left (omega arith)
          ∙ ap (λ (z : ℕ). l.product * z * cover_weight s.tables.now (l.j + 1) (c.at-n.result - l.j - 1) (l.left / 256)) (sym c.set_weight-w.ensures)
          ∙ ap (λ (z : ℕ). l.product * c.set_weight-w.result * cover_weight s.tables.now (l.j + 1) z (l.left / 256)) n,
      product-more l.j l.product c.set_weight-w.result l.invariant.3 w,
    )

pub returns : goal.returns
unfolding weight_of
returns c =
    let s = c.args in
    let l = c.loop-j in
    let n : c.at-n.result - l.j ≡ 0 = omega arith in
    sym (ap (λ (z : ℕ). cover_weight s.tables.now 0 z s.c) (sym c.at-n.ensures) ∙ l.invariant.2
    ∙ ap (λ (z : ℕ). l.product * cover_weight s.tables.now l.j z l.left) n ∙ ap (λ (z : ℕ). l.product * z) (cover-none s.tables.now l.j l.left) ∙ mul-one l.product)
