-- `single::turns` meets its contract: the words so far and the turns still to come give what all give, and the next turn is the least. Assumes nothing.
use mathlib.Core.Path.{◌≡◌}
use Prim.Native.Nat.{◌-◌, ◌≤◌, ◌<◌}
use Rattle.rules.specs.Lists.{fold, below}
use Rattle.words.specs.Spans.{onward}
use Rattle.moving.specs.Words.{served_at}
use Rattle.single_laws.specs.Going.{Going, Called, soonest_in}
use Rattle.single.proofs.turns.Given as goal

abbrev pub invariant-loop-q : goal.invariant-loop-q
invariant-loop-q l =
    let q = soonest_in l.plan.tables.words.now l.asks l.end in
    (q ≤ l.end)
    × Going l.plan.tables.words.now l.run l.asks q
    × (q < l.end → Called l.plan.tables.words.now l.asks q)
    × (fold (served_at l.plan.tables.words.now) (onward l.end q) l.run ≡ fold (served_at l.plan.tables.words.now) (below l.end) l.initial.run)

abbrev pub decreases-loop-q : goal.decreases-loop-q
decreases-loop-q l = l.end - soonest_in l.plan.tables.words.now l.asks l.end
