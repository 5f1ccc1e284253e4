-- `out_rows::put_row` meets its contract. The mark's bytes and then the cover's are the row's. Assumes nothing.
use Rattle.std.proofs.Common.{ap, ◌∙◌, ℕ, ◌+◌, ◌-◌, List, arith}
use borrow.Rule.Slice.PartMut.{put_mid}
use lib.Seq.{sets, length-sets}
use Rattle.out_images.specs.Rows.{mark_bytes, cover_bytes}
use Rattle.out_images.proofs.Laws.{part_sets, row-parts, length-mark, length-cover}
use Rattle.out_rows.proofs.put_row.Goals as goal

pub returns : goal.returns
returns c =
    let a = c.args in
    let mark = part_sets a.at (a.at + 8) a.out.now _ (mark_bytes a.s) (c.copy_from_slice.ensures.after ∙ c.mark_bytes.ensures) (omega (arith, length-mark a.s)) (omega arith) in
    ap (λ (l : List ℕ). put_mid (a.at + 8) (a.at + 16 - (a.at + 8)) l c.copy_from_slice-2.new.self) mark
    ∙ part_sets (a.at + 8) (a.at + 16) (sets a.out.now a.at (mark_bytes a.s)) _ (cover_bytes a.n a.c) (c.copy_from_slice-2.ensures.after ∙ c.cover_bytes.ensures)
    (omega (arith, length-cover a.n a.c)) (omega (arith, length-sets a.out.now a.at (mark_bytes a.s)))
    ∙ row-parts a.out.now a.at a.n a.s a.c
