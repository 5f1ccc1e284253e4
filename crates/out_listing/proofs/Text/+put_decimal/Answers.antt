-- `out_listing::Text::put_decimal` meets its contract. The digits of a number of ten or more are those of its tenth and then the last one. Assumes nothing.
use Rattle.std.proofs.Common.{arith}
use Rattle.out_listing.proofs.Laws.{decimal-one, decimal-more}
use Rattle.out_listing.proofs.Writes.{adds_join, adds_as}
use Rattle.out_listing.proofs.Text.+put_decimal.Goals as goal
use Rattle.out_listing.proofs.Text.+put_decimal.Goals.{then-v-ge10, else-v-ge10}

pub returns : goal.returns
returns t c = elim c.if-v-ge10.branch [
  | then-v-ge10 w ↦ adds_as (adds_join w.put_decimal.ensures (rw w.self-is at c.put.ensures)) (decimal-more c.args.v (omega arith) (omega arith))
  | else-v-ge10 w ↦ adds_as (rw w.self-is at c.put.ensures) (decimal-one c.args.v (omega arith))
]
