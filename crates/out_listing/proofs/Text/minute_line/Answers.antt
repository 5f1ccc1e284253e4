-- `out_listing::Text::minute_line` meets its contract. Without weight there is no line, and nothing is put; otherwise three numbers are the line. Assumes nothing.
use Rattle.out_listing.proofs.Laws.{minute-some}
use Rattle.out_listing.proofs.Writes.{adds_join, adds_as}
use Rattle.out_listing.proofs.Text.minute_line.Goals as goal

pub returns-then-w-ne0 : goal.returns-then-w-ne0
returns-then-w-ne0 c =
    adds_as
    (adds_join (adds_join c.put_number.ensures c.put_number-then-w-ne0.ensures) c.put_number-then-w-ne0-2.ensures)
    (minute-some c.args.k c.args.t c.args.w c.if-w-ne0.true)
