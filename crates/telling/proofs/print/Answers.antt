-- `telling::print` meets its contract: the first part of the text is written by the listing. Assumes nothing.
use mathlib.Core.Path.{sym}
use lib.Seq.{length-take-le}
use Rattle.telling.specs.Answered.{printed}
use Rattle.telling.proofs.print.Goals as goal

pub slice_bounds-write-end-2 : goal.slice_bounds-write-end-2
slice_bounds-write-end-2 c = sym (length-take-le 32768 c.args.text.now c.requires.1)

pub returns : goal.returns
returns c =
    printed c.args.tables.now c.args.ws.now c.args.text.now _ c.at-trains.ensures c.at-last.ensures c.requires.1 c.write-length.ensures.prints c.answered.ensures
