-- `out_rows::put_rows` meets its contract. The loop keeps the first `i` rows written into cleared memory, a row at each multiple of 16. Assumes nothing.
use mathlib.Core.Path.{◌≡◌}
use Prim.Native.Nat.{◌/◌, ◌≤◌}
use lib.ListN.{length}
use lib.Seq.{sets}
use Rattle.out_images.specs.Rows.{image_of_rows}
use Rattle.out_rows.proofs.put_rows.Given as goal

abbrev pub invariant-loop-i : goal.invariant-loop-i
invariant-loop-i l = (l.i ≤ length l.rows / 2) × (l.out ≡ sets l.initial.out 0 (image_of_rows l.n l.i l.rows)) × (length l.out ≡ length l.initial.out)
