-- `single_start::start` meets its contract: the words so far and the trains still to come give what all give. Assumes nothing.
use mathlib.Core.Path.{◌≡◌}
use lib.ListN.{length, get_or}
use Rattle.rules.specs.Lists.{fold, below}
use Rattle.words.specs.Spans.{onward}
use Rattle.moving.specs.Words.{waits_in}
use Rattle.single_start.proofs.start.Given as goal

abbrev pub invariant-loop-k : goal.invariant-loop-k
invariant-loop-k l =
    (length l.run ≡ length l.initial.run)
    × (fold (λ j u. waits_in l.tables.words.now j (get_or l.choice j 0) u) (onward l.n l.k) l.run ≡ fold (λ j u. waits_in l.tables.words.now j (get_or l.choice j 0) u) (below l.n) l.initial.run)
