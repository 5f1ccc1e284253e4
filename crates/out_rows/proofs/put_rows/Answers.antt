-- `out_rows::put_rows` meets its contract. The loop keeps the first `i` rows written into cleared memory, a row at each multiple of 16. Assumes nothing.
use mathlib.Core.Path.{◌≡◌, refl, ap, ◌∙◌}
use mathlib.Core.List.{List}
use Prim.Native.Nat.{ℕ, ◌+◌, ◌*◌, ◌/◌}
use native.Mathlib.Omega.{arith}
use lib.ListN.{get_or, length}
use lib.Seq.{sets}
use Rattle.out_images.specs.Rows.{row_bytes, image_of_rows}
use Rattle.out_images.proofs.Laws.{rows_more, rows_none, rows-filled, rows-held}
use Rattle.out_rows.proofs.put_rows.Goals as goal

pub loop-i-init : goal.loop-i-init
loop-i-init c = (omega arith, rows_none _ _ _, refl)

pub loop-i-preserved : goal.loop-i-preserved
loop-i-preserved c =
    let at = c.loop-i in
    let a = c.args in (
      omega arith,
      c.put_row.ensures
          ∙ ap (λ (l : List ℕ). sets l (at.i * 16) (row_bytes a.n (get_or a.rows.now (at.i * 2) 0) (get_or a.rows.now (at.i * 2 + 1) 0))) at.invariant.1
          ∙ rows_more a.n a.rows.now c.clear.new.out at.i,
      c.put_row.auto.out ∙ at.invariant.2,
    )

pub returns : goal.returns
returns c =
    let a = c.args in
    let m : c.loop-i.i ≡ length a.rows.now / 2 = omega arith in
    let filled-rows =
    c.loop-i.invariant.1
    ∙ ap (λ (i : ℕ). sets c.clear.new.out 0 (image_of_rows a.n i a.rows.now)) m
    ∙ ap (λ (l : List ℕ). sets l 0 (image_of_rows a.n (length a.rows.now / 2) a.rows.now)) c.clear.ensures
    ∙ rows-filled a.n (length a.rows.now / 2) a.rows.now a.out.now (omega arith) c.requires.1 in
    record { out_after = filled-rows; out_after_2 = λ es k h. filled-rows ∙ rows-held a.n (length a.rows.now / 2) es a.rows.now a.out.now k h }
