-- `out_listing::Text::put_bytes` meets its contract. The loop keeps the first bytes of the word put. Assumes nothing.
use Rattle.std.proofs.Common.{arith}
use lib.Seq.{take_all}
use Rattle.out_listing.proofs.Laws.{word_more}
use Rattle.out_listing.proofs.Writes.{adds_none, adds_join, adds_as}
use Rattle.out_listing.proofs.Text.put_bytes.Goals as goal

pub loop-b-init : goal.loop-b-init
loop-b-init c = adds_none c.args.self.now.bytes c.args.self.now.at c.args.self.now.within

pub loop-b-preserved : goal.loop-b-preserved
loop-b-preserved c = adds_as (adds_join c.loop-b.invariant c.put.ensures) (word_more c.args.word.now c.loop-b.b-index (omega arith))

pub returns : goal.returns
returns c = adds_as c.loop-b.invariant (take_all c.loop-b.b-index c.args.word.now (omega arith))
