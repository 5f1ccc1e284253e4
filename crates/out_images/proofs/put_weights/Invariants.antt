-- `out_images::put_weights` meets its contract. The loop keeps the first `i` words written, a word at each multiple of 8; 5,040 of them fill the required part. Assumes nothing.
use mathlib.Core.Path.{◌≡◌}
use Prim.Native.Nat.{◌≤◌}
use lib.ListN.{length}
use lib.Seq.{sets}
use Rattle.out_images.proofs.Laws.{first_words}
use Rattle.out_images.proofs.put_weights.Given as goal

abbrev pub invariant-loop-i : goal.invariant-loop-i
invariant-loop-i l = (l.i ≤ 5040) × (l.out ≡ sets l.initial.out 0 (first_words l.i l.weights)) × (length l.out ≡ length l.initial.out)
