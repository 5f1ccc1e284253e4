-- `single_turn::admit` meets its contract: the train enters, and its next turn and those of who waited for what it left are known. Assumes nothing.
use mathlib.Core.Path.{ap}
use Prim.Native.Nat.{ℕ, ◌+◌, ◌%◌}
use native.Mathlib.Omega.{arith}
use lib.ListN.{get_or}
use Rattle.single_laws.specs.Going.{turn-known, turn-own, turn-minute}
use Rattle.single_laws.specs.Moves.{read_fits, read-size, read-going}
use Rattle.single_turn.proofs.admit.Goals as goal

pub enter-requires : goal.enter-requires
enter-requires c =
    let p = c.requires in
    let plan = c.args.plan.now.planned in
    let few = turn-known plan p.0 p.1 p.2 in
    (omega (arith, c.at-k.ensures.0, few), turn-minute plan p.0 p.1 p.2, turn-own plan p.0 p.1 p.2)

pub advance-requires : goal.advance-requires
advance-requires c =
    let p = c.requires in
    let plan = c.args.plan.now.planned in
    let a = c.args in
    let k = c.at-k.ensures.0 in
    let few = turn-known plan p.0 p.1 p.2 in
    let moves = p.0.moves _ (plan.known (a.q % 8) p.1.0) in (
      read_fits plan p.0 p.1 p.2 p.3 c.at-k.result _ k c.enter.ensures,
      p.1.0,
      p.2,
      omega (arith, k, few),
      omega (arith, moves, ap (λ (j : ℕ). get_or a.asks.now (8 + j) 0) k),
    )

pub tell-requires : goal.tell-requires
tell-requires c =
    let p = c.requires in
    let plan = c.args.plan.now.planned in
    let k = c.at-k.result in (
      read_fits plan p.0 p.1 p.2 p.3 k _ c.at-k.ensures.0 c.enter.ensures,
      read-size plan p.0 p.1 p.2 p.3 k c.at-left.result _ _
          c.at-k.ensures.0 c.at-left.ensures c.enter.ensures c.advance.ensures,
      omega (arith, p.2),
    )

pub returns : goal.returns
returns c =
    let p = c.requires in
    let plan = c.args.plan.now.planned in
    let both = read-going plan p.0 p.1 p.2 p.3 c.at-k.result c.at-left.result _ _
    c.at-k.ensures.0 c.at-left.ensures c.enter.ensures c.advance.ensures _ c.tell.ensures in
    record { going = both.0; words = both.1 }
