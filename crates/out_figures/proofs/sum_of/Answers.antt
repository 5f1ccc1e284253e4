-- `out_figures::sum_of` meets its contract. The sum so far and the rest of the window are the whole, and no minute counts more than 719 times. Assumes nothing.
use Rattle.std.proofs.Common.{◌≡◌, ap₂, ℕ, ◌+◌, ◌*◌, ◌≤◌, List, arith}
use Rattle.std.proofs.Math.Nat.{mul-le-mul_right}
use Rattle.out_figures.specs.Sums.{word_of, arrived_weight, weight_times}
use Rattle.out_figures.specs.Laws.{rest, rest-whole, rest-next, rest_end}
use Rattle.out_figures.proofs.sum_of.Goals as goal

start-most : (ws : List ℕ) (k last : ℕ) → 0 + 719 * rest (word_of ws k) last 0 ≤ 719 * arrived_weight ws k last
unfolding arrived_weight
start-most ws k last = omega (arith, rest-whole (word_of ws k) last)

start : (ws : List ℕ) (k last : ℕ) (f : ℕ → ℕ) → 0 + rest (λ t. f t * word_of ws k t) last 0 ≡ weight_times ws k last f
unfolding weight_times
start ws k last f = omega (arith, rest-whole (λ t. f t * word_of ws k t) last)

pub loop-t-init : goal.loop-t-init
loop-t-init g c =
    let a = c.args in
    (start-most a.weights.now a.k a.last, λ f h. start a.weights.now a.k a.last f)

-- a minute counts 719 times at most, and what it counts is within the rest
module _ (ws : List ℕ) (k last t n w : ℕ) where
  counts-most : t ≤ last → n ≤ 719 → w ≡ word_of ws k t → n * w + 719 * rest (word_of ws k) last (t + 1) ≤ 719 * rest (word_of ws k) last t
  counts-most h few e = omega (arith, mul-le-mul_right w few, rest-next (word_of ws k) last t h)

  counts : (f : ℕ → ℕ) → t ≤ last → n ≡ f t → w ≡ word_of ws k t
      → rest (λ t. f t * word_of ws k t) last t ≡ n * w + rest (λ t. f t * word_of ws k t) last (t + 1)
  counts f h d e = omega (arith, rest-next (λ t. f t * word_of ws k t) last t h, ap₂ (λ (x y : ℕ). x * y) d e)

pub overflow_mul-sum : goal.overflow_mul-sum
overflow_mul-sum g c =
    let a = c.args in
    let t = c.loop-t.t in
    let within : t ≤ a.last = omega arith in
    omega (
      arith,
      counts-most a.weights.now a.k a.last t c.times.result c.at.result within (c.requires.most t c.times.result within c.times.ensures) c.at.ensures,
      c.loop-t.invariant.0,
      c.requires.weighed.part,
    )

pub overflow_add-sum : goal.overflow_add-sum
overflow_add-sum g c =
    let a = c.args in
    let t = c.loop-t.t in
    let within : t ≤ a.last = omega arith in
    omega (
      arith,
      counts-most a.weights.now a.k a.last t c.times.result c.at.result within (c.requires.most t c.times.result within c.times.ensures) c.at.ensures,
      c.loop-t.invariant.0,
      c.requires.weighed.part,
    )

pub loop-t-preserved : goal.loop-t-preserved
loop-t-preserved g c =
    let a = c.args in
    let t = c.loop-t.t in
    let within : t ≤ a.last = omega arith in
    let few = counts-most a.weights.now a.k a.last t c.times.result c.at.result within (c.requires.most t c.times.result within c.times.ensures) c.at.ensures in (
      omega (arith, few, c.loop-t.invariant.0),
      λ f h. omega (arith, counts a.weights.now a.k a.last t c.times.result c.at.result f within (h t c.times.result within c.times.ensures) c.at.ensures, c.loop-t.invariant.1 f h),
    )

pub returns : goal.returns
returns g c =
    let a = c.args in
    λ f h. omega (arith, c.loop-t.invariant.1 f h, rest_end (λ t. f t * word_of a.weights.now a.k t) a.last c.loop-t.t (omega arith))
