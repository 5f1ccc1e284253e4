-- `single_asks::hold` meets its contract: it writes the first turn after a block has ended, which is no later than minute 65,536. Assumes nothing.
use Prim.Native.Nat.{◌/◌, ◌%◌}
use native.Mathlib.Omega.{arith}
use Rattle.single_laws.specs.Held.{reopened_settled}
use Rattle.single_asks.proofs.hold.Goals as goal

pub turn-requires : goal.turn-requires
turn-requires c =
    let a = c.args in
    let settled = reopened_settled a.tables.now.words.now a.run.now (a.q / 1024) (a.q / 8 % 128) 65536 (omega (arith, c.requires.0)) in
    (omega (arith, c.reopened-t.ensures, settled.0), omega (arith, c.requires.1), omega arith)
