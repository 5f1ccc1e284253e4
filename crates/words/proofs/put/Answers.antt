-- `words::put` meets its contract: past the end nothing is written. Assumes nothing.
use mathlib.Core.Path.{sym}
use lib.Seq.{set_out}
use Rattle.words.proofs.put.Goals as goal

pub returns-else-j-l : goal.returns-else-j-l
returns-else-j-l c = sym (set_out _ _ _ c.if-j-l.false)
