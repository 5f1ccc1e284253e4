-- `single::run_to` meets its contract: the turns below those of the minute after the stop are the minutes up to it. Assumes nothing.
use mathlib.Core.Path.{ap, ◌∙◌}
use Prim.Native.Nat.{suc}
use native.Mathlib.Omega.{arith}
use Rattle.rules.specs.Lists.{fold, below}
use Rattle.moving.specs.Words.{minute_in, ran_in}
use Rattle.moving.specs.Turns.{minutes-turns}
use Rattle.single.proofs.run_to.Goals as goal

pub turns-requires : goal.turns-requires
turns-requires c =
    let p = c.requires in
    (c.begin.ensures.going, omega (arith, p.1))

pub returns : goal.returns
unfolding ran_in
returns c =
    let ran = c.turns.ensures in
    let a = c.args in
    let T = a.tables.now in
    let turns = minutes-turns T c.requires.0.few a.stop _ in
    record { words = ran.words ∙ turns ∙ ap (fold (minute_in T) (below (suc a.stop))) c.begin.ensures.words; left = ran.left }
