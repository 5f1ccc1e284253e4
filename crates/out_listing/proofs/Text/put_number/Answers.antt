-- `out_listing::Text::put_number` meets its contract. The digits and then the byte are put as one. Assumes nothing.
use Rattle.out_listing.proofs.Writes.{adds_join}
use Rattle.out_listing.proofs.Text.put_number.Goals as goal

pub returns : goal.returns
returns c = adds_join c.put_decimal.ensures c.put.ensures
