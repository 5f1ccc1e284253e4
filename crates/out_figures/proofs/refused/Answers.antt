-- `out_figures::refused` meets its contract: each field is 0. Assumes nothing.
use mathlib.Core.Path.{refl}
use lib.Ieee.{of_bits}
use Rattle.out_figures.proofs.refused.Goals as goal

pub returns : goal.returns
unfolding of_bits
returns c = refl
