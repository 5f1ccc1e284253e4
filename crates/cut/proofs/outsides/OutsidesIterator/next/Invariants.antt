-- `next` of `cut::Outsides` meets its contract. The invariant: what is still to come stays the same while the trains passed lose nothing. Assumes nothing.
use mathlib.Core.Path.{◌≡◌}
use Rattle.cut.specs.Ahead.{ahead}
use Rattle.cut.proofs.outsides.OutsidesIterator.next.Given as goal

abbrev pub invariant-loop-self : goal.invariant-loop-self
invariant-loop-self l = ahead l.initial.self ≡ ahead l.self

abbrev pub decreases-loop-self : goal.decreases-loop-self
decreases-loop-self l = l.self.lost
