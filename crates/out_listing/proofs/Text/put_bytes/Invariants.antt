-- `out_listing::Text::put_bytes` meets its contract. The loop keeps the first bytes of the word put. Assumes nothing.
use Rattle.std.proofs.Common.{take}
use Rattle.out_listing.specs.Writer.{Adds}
use Rattle.out_listing.proofs.Text.put_bytes.Given as goal

abbrev pub invariant-loop-b : goal.invariant-loop-b
invariant-loop-b l = Adds l.initial.self.bytes l.initial.self.at (take l.b-index l.word) l.self.at l.self.bytes
