-- `out_figures::share` meets its contract: a whole number up to 10^14 is below 2^53, so that it casts without loss. Assumes nothing.
use mathlib.Core.Path.{refl}
use Prim.Native.Nat.{◌^◌}
use native.Mathlib.Omega.{arith}
use lib.Dec.{le→leb}
use lib.Ieee.{in_float}
use Rattle.rules.specs.Figures.{double}
use Rattle.out_figures.proofs.share.Goals as goal

pub int_to_float-result : goal.int_to_float-result
unfolding in_float
int_to_float-result c = le→leb c.args.part (2 ^ 53) (omega arith)

pub int_to_float-result-2 : goal.int_to_float-result-2
unfolding in_float
int_to_float-result-2 c = le→leb c.args.whole (2 ^ 53) (omega arith)

pub returns : goal.returns
unfolding double
returns c = refl
