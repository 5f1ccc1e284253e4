-- `out_listing::write` meets its contract. The loop keeps the lines of the first `k` trains put behind the first line, in cleared text. Assumes nothing.
use Rattle.out_listing.specs.Text.{trains_lines}
use Rattle.out_listing.specs.Writer.{Adds}
use Rattle.out_listing.proofs.write.Given as goal

abbrev pub invariant-loop-k : goal.invariant-loop-k
invariant-loop-k l = Adds l.initial.out.bytes l.initial.out.at (trains_lines l.whole l.last l.weights l.k) l.out.at l.out.bytes
