-- `opening::first_byte` meets its contract, by the tests of its branches. Assumes nothing.
use mathlib.Core.Path.{◌≡◌}
use Prim.Native.Nat.{◌*◌, ◌%◌, ◌^◌, ◌≤◌}
use native.Mathlib.Omega.{arith}
use lib.Pow.{pow_pos}
use borrow.Author.Tests.{eq-eqb, ne_eqb, lt-ltb, le-ltb}
use Rattle.opening.specs.First.{first_byte}
use Rattle.opening.specs.Beginning.{shift_one, power_small, power_byte}
use Rattle.opening.proofs.first_byte.Goals as goal

pub returns-then-j-k : goal.returns-then-j-k
unfolding first_byte
returns-then-j-k c =
    (simp (eq-eqb _ _ c.if-j-k.true, shift_one c.args.d (omega arith)), rw (shift_one c.args.d (omega arith)) (power_byte c.args.d c.requires.1))

pub overflow_shl-result-then-j-at : goal.overflow_shl-result-then-j-at
overflow_shl-result-then-j-at c = omega (arith, c.at-n.ensures, c.requires.0.delays c.args.j c.requires.2)

pub overflow_sub-result : goal.overflow_sub-result
overflow_sub-result c =
    let n : c.at-n.result ≤ 8 = omega (arith, c.at-n.ensures, c.requires.0.delays c.args.j c.requires.2) in
    omega (arith, shift_one c.at-n.result n, pow_pos c.at-n.result)

pub returns-then-j-at : goal.returns-then-j-at
unfolding first_byte
returns-then-j-at c =
    let n : c.at-n.result ≤ 8 = omega (arith, c.at-n.ensures, c.requires.0.delays c.args.j c.requires.2) in
    let e : 1 * 2 ^ c.at-n.result % 2 ^ 64 ≡ 2 ^ c.at-n.result = shift_one c.at-n.result n in
    (rw (e, ne_eqb c.args.j c.args.k c.if-j-k.false, ← c.at.ensures, lt-ltb c.args.j c.at.result c.if-j-at.true, c.at-n.ensures), rw e (omega (arith, power_small c.at-n.result n)))

pub returns : goal.returns
unfolding first_byte
returns c = (rw (ne_eqb c.args.j c.args.k c.if-j-k.false, ← c.at.ensures, le-ltb c.args.j c.at.result c.if-j-at.false), omega arith)
