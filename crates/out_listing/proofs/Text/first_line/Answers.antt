-- `out_listing::Text::first_line` meets its contract. The word, the number and the line feed are the line. Assumes nothing.
use Rattle.out_listing.proofs.Laws.{first-parts}
use Rattle.out_listing.proofs.Writes.{adds_join, adds_as}
use Rattle.out_listing.proofs.Text.first_line.Goals as goal

pub returns : goal.returns
returns c = adds_as (adds_join c.put_bytes.ensures c.put_number.ensures) (first-parts c.args.whole)
