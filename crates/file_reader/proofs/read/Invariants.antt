-- `file_reader::read` meets its contract: what is left of the reading answers for the whole, and each turn passes one field. Assumes nothing.
use Rattle.std.proofs.Common.{◌-◌, length}
use Rattle.file_reader.specs.Laws.{Left}
use Rattle.file_reader.specs.Facts.{Within}
use Rattle.file_reader.proofs.read.Given as goal

abbrev pub invariant-loop-seen : goal.invariant-loop-seen
invariant-loop-seen l = record { within : Within l.file l.seen; left : Left l.book l.file l.seen }

abbrev pub decreases-loop-seen : goal.decreases-loop-seen
decreases-loop-seen l = length l.file - l.seen.at
