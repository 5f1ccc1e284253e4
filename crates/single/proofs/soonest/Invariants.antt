-- `single::soonest` meets its contract: the best so far and the turns still to come give what all give. Assumes nothing.
use mathlib.Core.Path.{◌≡◌}
use lib.ListN.{get_or}
use Rattle.rules.specs.Lists.{fold, below}
use Rattle.words.specs.Spans.{onward}
use Rattle.moving.specs.Words.{nearer}
use Rattle.single.proofs.soonest.Given as goal

abbrev pub invariant-loop-i : goal.invariant-loop-i
invariant-loop-i l = fold (λ j b. nearer 0 (get_or l.asks j 0) b) (onward l.n l.i) l.best ≡ fold (λ j b. nearer 0 (get_or l.asks j 0) b) (below l.n) l.end
