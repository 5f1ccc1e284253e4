-- `single_asks::freed` meets its contract: the best so far and the blocks still to come give what all give. Assumes nothing.
use mathlib.Core.Path.{◌≡◌}
use Prim.Native.Nat.{◌+◌, ◌*◌}
use lib.ListN.{get_or}
use Rattle.rules.specs.Lists.{fold, below}
use Rattle.words.specs.Spans.{onward}
use Rattle.moving.specs.Words.{nearer}
use Rattle.single_asks.proofs.freed.Given as goal

abbrev pub invariant-loop-k : goal.invariant-loop-k
invariant-loop-k l =
    fold (λ j b. nearer (l.t + 1) (get_or l.run (24 + l.e * 8 + j) 0) b) (onward l.n l.k) l.best ≡ fold (λ j b. nearer (l.t + 1) (get_or l.run (24 + l.e * 8 + j) 0) b) (below l.n) l.bound
