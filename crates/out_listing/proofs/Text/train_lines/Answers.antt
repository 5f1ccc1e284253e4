-- `out_listing::Text::train_lines` meets its contract. The minutes' lines and then the last line are the train's. Assumes nothing.
use Rattle.out_listing.proofs.Laws.{lines_parts}
use Rattle.out_listing.proofs.Writes.{adds_join, adds_as}
use Rattle.out_listing.proofs.Text.train_lines.Goals as goal

pub returns : goal.returns
returns c =
    let a = c.args in
    adds_as
    (adds_join c.minute_lines.ensures c.last_line.ensures)
    (lines_parts a.whole a.last a.weights.now a.k c.not_arrived.result c.not_arrived.ensures)
