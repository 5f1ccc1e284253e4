-- `out_images::add_weights` meets its contract. The loop keeps the first `w` sums written; the word at `w` is still the one that was lent,
-- so what is put there is the sum of the lent weight and the added one, and 5,040 of them fill the required part. Assumes nothing.
use mathlib.Core.Path.{◌≡◌}
use Prim.Native.Nat.{◌≤◌}
use lib.ListN.{length}
use lib.Seq.{sets}
use Rattle.out_images.specs.Rows.{image_of_sums}
use Rattle.out_images.proofs.add_weights.Given as goal

abbrev pub invariant-loop-w : goal.invariant-loop-w
invariant-loop-w l = (l.w ≤ 5040) × (l.out ≡ sets l.initial.out 0 (image_of_sums l.w l.weights l.initial.out)) × (length l.out ≡ length l.initial.out)
