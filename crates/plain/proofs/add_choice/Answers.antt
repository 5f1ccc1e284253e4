-- `plain::add_choice` meets its contract: what was chosen is run, and what has arrived is added. Assumes nothing.
use Rattle.std.proofs.Common.{sym, subst, arith, length-take-le}
use Rattle.plain.specs.Words.{Timely}
use Rattle.plain.specs.Adding.{ran-chosen, added-choice}
use Rattle.plain.proofs.add_choice.Goals as goal

pub slice_bounds-run_to-end : goal.slice_bounds-run_to-end
slice_bounds-run_to-end c =
    let n = c.at-n.result in
    let choose = c.choose-weight in
    let sized = c.requires.0.sized in
    sym (length-take-le n choose.result.0 (omega (arith, c.at-n.ensures, sized.few)))

pub tally-requires : goal.tally-requires
tally-requires c =
    let tables = c.args.tables.now in
    let choose = c.choose-weight in
    let ran = ran-chosen tables c.args.stop c.args.i choose.result.0 c.at-n.ensures choose.ensures.choice c.run_to.ensures.words in (
      c.requires.0.sized.few,
      subst (Timely tables) (sym ran) (c.requires.0.timely c.args.i c.requires.1),
    )

pub returns : goal.returns
returns c =
    let tables = c.args.tables.now in
    let choose = c.choose-weight in
    let run-to = c.run_to in (
      run-to.ensures.left,
      added-choice tables c.args.stop c.args.i choose.result.0 c.at-n.ensures choose.ensures.choice run-to.ensures.words c.args.ws.now
          choose.ensures.weight c.tally.ensures,
    )
