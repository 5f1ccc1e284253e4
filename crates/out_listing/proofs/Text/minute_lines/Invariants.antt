-- `out_listing::Text::minute_lines` meets its contract. The loop keeps the lines of the first `t` minutes put. Assumes nothing.
use Rattle.out_listing.specs.Text.{minute_lines}
use Rattle.out_listing.specs.Writer.{Adds}
use Rattle.out_listing.proofs.Text.minute_lines.Given as goal

abbrev pub invariant-loop-t : goal.invariant-loop-t
invariant-loop-t l = Adds l.initial.self.bytes l.initial.self.at (minute_lines l.weights l.k l.t) l.self.at l.self.bytes
