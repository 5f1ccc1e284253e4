-- `cut::full` meets its contract. The sum stays below 2 ^ 64, and the test is the one of `full-marks` at eight bytes. Assumes nothing.
use native.Mathlib.Omega.{arith}
use lib.Bits.{and_le_r}
use Rattle.cut.proofs.Marks.{full-marks}
use Rattle.cut.proofs.full.Goals as goal

pub overflow_add-result : goal.overflow_add-result
overflow_add-result c = omega (arith, and_le_r c.args.v 0x7f7f7f7f7f7f7f7f)

pub returns : goal.returns
returns c = full-marks 8 c.args.v (omega arith)
