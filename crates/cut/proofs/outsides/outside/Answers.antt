-- `cut::outside` meets its contract. Both shifts are exact: what train k and those after it lose fits, and so does train k's byte. Assumes nothing.
use Prim.Native.Nat.{◌*◌, ◌%◌, ◌^◌}
use native.Mathlib.Omega.{arith}
use lib.Bits.{and_le_l}
use Rattle.cut.specs.Cut.{outside_of}
use Rattle.cut.proofs.Laws.{shifted, mask_small}
use Rattle.cut.proofs.outsides.outside.Goals as goal

pub overflow_add-result : goal.overflow_add-result
overflow_add-result c = let e = shifted c.args.lost c.args.k (omega arith) in omega arith

pub overflow_sub-result : goal.overflow_sub-result
overflow_sub-result c = omega (arith, and_le_l c.args.c (255 * 2 ^ (8 * c.args.k) % 2 ^ 64))

pub returns : goal.returns
unfolding outside_of
returns c = rw (shifted c.args.lost c.args.k (omega arith), shifted 255 c.args.k (mask_small c.args.k (omega arith)))
