-- `single_turn::advance` meets its contract: it counts the element, and writes the next turn. Assumes nothing.
use mathlib.Core.Path.{sym}
use Prim.Native.Nat.{◌%◌}
use native.Mathlib.Omega.{arith}
use Rattle.moving.specs.Words.{order_in}
use Rattle.single_turn.proofs.advance.Goals as goal

pub ask-requires : goal.ask-requires
ask-requires c =
    let p = c.requires in
    let a = c.args in
    let plan = a.plan.now.planned in
    let k = order_in a.plan.now.tables.words.now (a.q % 8) in
    let fits = p.0 k (plan.known (a.q % 8) p.1) in
    (omega arith, fits, omega (arith, p.2))

pub returns : goal.returns
returns c = simp (sym c.at-moves.ensures, sym c.put.ensures, sym c.ask.ensures) c.put-2.ensures
