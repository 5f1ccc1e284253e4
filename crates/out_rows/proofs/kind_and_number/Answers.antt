-- `out_rows::kind_and_number` meets its contract: each arm follows the tests of `place_of`; the way out and the outside have number 0. Assumes nothing.
use Rattle.std.proofs.Common.{refl, arith}
use borrow.Author.Tests.{lt-ltb, le-ltb, ne_eqb}
use Rattle.theory_codes.specs.Codes.{place_of}
use Rattle.out_rows.proofs.kind_and_number.Goals as goal

pub returns-in-0-to-23 : goal.returns-in-0-to-23
unfolding place_of
returns-in-0-to-23 c = simp (lt-ltb c.args.p 24 (omega arith))

pub returns-in-24-to-63 : goal.returns-in-24-to-63
unfolding place_of
returns-in-24-to-63 c = simp (le-ltb c.args.p 24 (omega arith), lt-ltb c.args.p 64 (omega arith))

pub returns-in-64 : goal.returns-in-64
unfolding place_of
returns-in-64 c = rw c.in-64.is refl

pub returns-in_default : goal.returns-in_default
unfolding place_of
returns-in_default c = simp (le-ltb c.args.p 24 (omega arith), le-ltb c.args.p 64 (omega arith), ne_eqb c.args.p 64 (λ e. omega arith))
