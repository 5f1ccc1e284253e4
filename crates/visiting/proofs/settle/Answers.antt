-- `visiting::settle` meets its contract: its steps are those of `settled_of`. Assumes nothing.
use mathlib.Core.Path.{◌∙◌}
use native.Mathlib.Omega.{arith}
use Rattle.visiting.specs.Settling.{settled_steps}
use Rattle.visiting.proofs.settle.Goals as goal

pub tell_left-requires : goal.tell_left-requires
tell_left-requires c = (omega arith, c.requires.1.pairs)

pub tell_across-requires : goal.tell_across-requires
tell_across-requires c = (omega arith, c.requires.1.pairs)

pub returns : goal.returns
returns c =
    let s = c.args in
    c.show-2.ensures
    ∙ settled_steps s.tables.now s.q s.from s.moved s.notes.now _ _ _ _ c.wake_due.ensures c.tell_left.ensures
    c.tell_across.ensures c.show.ensures
