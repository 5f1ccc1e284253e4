-- `passing::pass` meets its contract, by `pass_law` from what its four calls ensure. Assumes nothing.
use mathlib.Core.Path.{refl}
use native.Mathlib.Omega.{arith}
use lib.Seq.{length-take-le}
use Rattle.asking.specs.Ask.{stirs_of}
use Rattle.serving.specs.Outputs.{two_bounds}
use Rattle.serving.proofs.Passing.{pass_law, pass-went}
use borrow.Author.Rules.{rules}
use Rattle.passing.proofs.pass.Goals as goal

pub walk-z-requires : goal.walk-z-requires
walk-z-requires c =
    let met = c.meet-m in
    (search rules, search rules, search rules, search rules, search rules, search rules, search rules, omega (arith, met.ensures.some, length-take-le met.result.all met.new.out met.ensures.few))

pub enter-r-requires : goal.enter-r-requires
enter-r-requires c =
    let b = two_bounds c.walk-z.ensures.two in
    b.place

pub returns : goal.returns
returns c =
    let s = c.args in
    let p = c.requires in
    let test = stirs_of s.key s.q.minute s.u in record { keeps = record { rows = refl; met = refl; held = refl; entering = refl; rows_long = c.copy.auto.out; met_long = c.meet-m.auto.out; held_long = c.walk-z.auto.held; entering_long = c.walk-z.auto.entering }; passed = pass_law test s.q s.n s.i s.rows.now p.space p.n_in_bounds.0 p.n_in_bounds.1 p.n_in_bounds.4 {z = c.walk-z.result} c.meet-m.ensures c.copy.ensures c.walk-z.ensures.two c.enter-r.ensures; every = pass-went test s.q s.n s.i s.rows.now p.space p.n_in_bounds.0 p.n_in_bounds.1 p.n_in_bounds.4 c.walk-z.result.moved c.meet-m.ensures c.copy.ensures c.walk-z.ensures.every }
