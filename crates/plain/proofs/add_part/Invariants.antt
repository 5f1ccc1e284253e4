-- `plain::add_part` meets its contract: the choices still to come are added to what the choices before them have left. Assumes nothing.
use Rattle.std.proofs.Common.{◌≡◌, ◌≤◌, length}
use Rattle.rules.specs.Lists.{fold}
use Rattle.words.specs.Spans.{onward}
use Rattle.single_laws.specs.Trail.{Left}
use Rattle.plain.specs.Words.{added_in}
use Rattle.plain.proofs.add_part.Given as goal

abbrev pub invariant-loop-i : goal.invariant-loop-i
invariant-loop-i l =
    (l.first ≤ l.i) × (length l.ws ≡ length l.initial.ws) × Left l.tables l.run l.asks × (fold (added_in l.tables l.stop) (onward l.end l.i) l.ws ≡ fold (added_in l.tables l.stop) (onward l.end l.first) l.initial.ws)
