-- `out_listing::refused_line` meets its contract. The word and three numbers are the line. Assumes nothing.
use Rattle.std.proofs.Common.{refl, rules}
use Rattle.out_listing.proofs.Laws.{refused-parts}
use Rattle.out_listing.proofs.Writes.{adds_join, adds_as, lent_back}
use Rattle.out_listing.proofs.refused_line.Goals as goal

pub returns : goal.returns
returns c =
    lent_back
    (adds_as
    (adds_join (adds_join (adds_join c.put_bytes.ensures c.put_number.ensures) c.put_number-2.ensures) c.put_number-3.ensures)
    (refused-parts c.args.number c.args.file c.args.place)) refl (search rules)
