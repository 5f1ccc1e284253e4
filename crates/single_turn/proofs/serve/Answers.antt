-- `single_turn::serve` meets its contract: the train is let in, or held. Assumes nothing.
use mathlib.Core.Path.{sym, ◌∙◌}
use Rattle.single_laws.specs.Going.{turn-own, held-going, held-served}
use Rattle.single_turn.proofs.serve.Goals as goal

pub lets-requires : goal.lets-requires
lets-requires c = let p = c.requires in turn-own c.args.plan.now.planned p.0 p.1 p.2

pub admit-requires : goal.admit-requires
admit-requires c = let p = c.requires in (p.0, p.1, p.2, sym c.lets.ensures ∙ c.if-lets.true)

pub returns-then-lets : goal.returns-then-lets
returns-then-lets c = c.admit.ensures

pub hold-requires : goal.hold-requires
hold-requires c = let p = c.requires in (p.2, turn-own c.args.plan.now.planned p.0 p.1 p.2)

pub returns-else-lets : goal.returns-else-lets
returns-else-lets c =
    let p = c.requires in
    let plan = c.args.plan.now.planned in
    let shut = sym c.lets.ensures ∙ c.if-lets.false in
    let held = c.hold.ensures in
    record { going = held-going plan p.0 p.1 p.2 shut held; words = held-served plan p.0 p.1 p.2 shut held }
