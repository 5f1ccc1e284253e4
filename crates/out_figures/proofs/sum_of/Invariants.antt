-- `out_figures::sum_of` meets its contract. The sum so far and the rest of the window are the whole, and no minute counts more than 719 times. Assumes nothing.
use Rattle.std.proofs.Common.{◌≡◌, ℕ, ◌+◌, ◌*◌, ◌≤◌}
use Rattle.out_figures.specs.Sums.{arrived_weight, weight_times, word_of}
use Rattle.out_figures.specs.Laws.{rest}
use Rattle.out_figures.proofs.sum_of.Given as goal

abbrev pub invariant-loop-t : goal.invariant-loop-t
invariant-loop-t g l =
    (l.sum + 719 * rest (word_of l.weights l.k) l.last l.t ≤ 719 * arrived_weight l.weights l.k l.last)
    × ((f : ℕ → ℕ) → ((t n : ℕ) → t ≤ l.last → goal.F-post g l.times t n → n ≡ f t)
    → l.sum + rest (λ t. f t * word_of l.weights l.k t) l.last l.t ≡ weight_times l.weights l.k l.last f)
