-- `single_asks::ask` meets its contract: the turn of the next element, or none. Assumes nothing.
use mathlib.Core.Path.{ap, ◌∙◌}
use Prim.Native.Nat.{◌/◌}
use Rattle.single_laws.specs.Asks.{not_before, ask-some, ask-none}
use Rattle.single_laws.specs.Least.{max-later}
use Rattle.single_asks.proofs.ask.Goals as goal

pub returns-then-e-ge-OUTSIDE : goal.returns-then-e-ge-OUTSIDE
returns-then-e-ge-OUTSIDE c =
    let a = c.args in
    c.turn.ensures ∙ ask-none a.tables.now.words.now a.run.now a.q a.i c.at-k.result c.at.result c.at-e.result c.at-k.ensures.0 c.at.ensures c.at-e.ensures.0 c.if-e-ge-OUTSIDE.true

pub returns : goal.returns
returns c =
    let a = c.args in
    ask-some a.tables.now.words.now a.run.now a.q a.i c.at-k.result c.at.result c.at-e.result
    c.at-k.ensures.0 c.at.ensures c.at-e.ensures.0
    c.at-2.result c.max-t.result c.not_before.result
    c.if-e-ge-OUTSIDE.false c.at-2.ensures (c.max-t.ensures ∙ max-later c.at-2.result (a.q / 1024)) (c.not_before.ensures ∙ ap (not_before a.q) c.turn-2.ensures)
