-- `rows::offer` meets its contract, by whose row it is. Assumes nothing.
use mathlib.Core.Path.{refl}
use native.Mathlib.Omega.{arith}
use Prim.Native.Nat.{◌/◌}
use borrow.Author.Tests.{eq-eqb, ne_eqb}
use Rattle.rows.proofs.offer.Goals as goal

pub returns-then-s-k : goal.returns-then-s-k
returns-then-s-k c = (refl, rw (eq-eqb (c.args.s / 524288) c.args.k (omega arith)) (omega arith))

pub returns : goal.returns
returns c = (refl, rw (ne_eqb (c.args.s / 524288) c.args.k (λ e. omega arith)) refl)
