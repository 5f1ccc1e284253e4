-- `plain::combinations` meets its contract: the product of the sizes from a train on is that of one train more, times its size. Assumes nothing.
use Rattle.std.proofs.Common.{◌≡◌, ◌-◌, ◌^◌, ◌≤◌, get_or, drop}
use Rattle.theory_plain.specs.Numbered.{times}
use Rattle.plain.specs.Words.{sizes_in}
use Rattle.plain.proofs.combinations.Given as goal

abbrev pub invariant-loop-k : goal.invariant-loop-k
invariant-loop-k l =
    (l.k ≤ l.n) × (l.n ≡ get_or l.tables 0 0) × (l.product ≡ times (drop l.k (sizes_in l.tables))) × (l.product ≤ 8 ^ (l.n - l.k))
