-- `telling::measure` meets its contract: plan, last minute and trains are the tables' words. Assumes nothing.
use Rattle.telling.specs.Answered.{measure_asks, measure_gives}
use Rattle.telling.proofs.measure.Goals as goal

pub figures_of-requires : goal.figures_of-requires
figures_of-requires c =
    measure_asks c.args.tables.now c.args.ws.now c.args.train c.at-plan.ensures c.at-last.ensures c.at-trains.ensures c.whole_weight-total.ensures c.requires

pub returns : goal.returns
returns c =
    measure_gives c.args.tables.now c.args.ws.now c.args.train c.at-plan.ensures c.at-last.ensures c.at-trains.ensures c.whole_weight-total.ensures c.args.limit c.figures_of.ensures.case
