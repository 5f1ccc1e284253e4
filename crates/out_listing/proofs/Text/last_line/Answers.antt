-- `out_listing::Text::last_line` meets its contract. The number, the dash and the weight are the line. Assumes nothing.
use Rattle.out_listing.proofs.Laws.{last-parts}
use Rattle.out_listing.proofs.Writes.{adds_join, adds_as}
use Rattle.out_listing.proofs.Text.last_line.Goals as goal

pub returns : goal.returns
returns c =
    adds_as (adds_join (adds_join c.put_number.ensures c.put_bytes.ensures) c.put_number-2.ensures) (last-parts c.args.k c.args.rest)
