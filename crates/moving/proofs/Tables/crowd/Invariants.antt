-- `moving::Tables::crowd` meets its contract: the count so far and what the trains still to come hold are the whole. Assumes nothing.
use mathlib.Core.Path.{◌≡◌}
use Prim.Native.Nat.{◌+◌, ◌*◌, ◌≤◌}
use Rattle.rules.specs.Lists.{sum, below}
use Rattle.words.specs.Spans.{onward}
use Rattle.moving.specs.Words.{holding}
use Rattle.moving.proofs.Tables.crowd.Given as goal

abbrev pub invariant-loop-k : goal.invariant-loop-k
invariant-loop-k l =
    (l.count ≤ 2 * l.k) × (l.count + sum (holding l.t l.e l.run) (onward l.n l.k) ≡ sum (holding l.t l.e l.run) (below l.n))
