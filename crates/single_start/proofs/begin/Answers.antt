-- `single_start::begin` meets its contract: on what was cleared the choice begins as on words of 0. Assumes nothing.
use Rattle.single_laws.specs.Moves.{begins_fits, begins_words, begins_going}
use Rattle.single_start.proofs.begin.Goals as goal

pub first-requires : goal.first-requires
first-requires c =
    let a = c.args in
    let plan = a.plan.now.planned in
    (begins_fits a.plan.now.tables.words.now _ _ _ a.choice.now plan c.clear.ensures c.start.ensures, c.clear.ensures.room)

pub returns : goal.returns
returns c =
    let a = c.args in
    let T = a.plan.now.tables.words.now in
    let plan = a.plan.now.planned in record {
      going = begins_going T _ _ _ a.choice.now plan c.clear.ensures c.start.ensures _ c.first.ensures;
      words = begins_words T _ _ _ a.choice.now plan c.clear.ensures c.start.ensures;
    }
