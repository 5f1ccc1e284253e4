-- `file_plan::way_part` meets its contract: two parts fill the list. Assumes nothing.
use native.Mathlib.Omega.{arith}
use mathlib.Core.Path.{◌∙◌, ap, ap₂}
use mathlib.Core.List.{◌++◌}
use lib.ListN.{length}
use Rattle.file_tables.specs.Model.{tracks_from}
use Rattle.file_tables.specs.Fills.{two-parts}
use Rattle.file_tables.specs.Walks.{next-part-length, stay-part-length}
use Rattle.file_plan.proofs.way_part.Goals as goal

pub returns : goal.returns
returns c =
    let g = c.args in
    let ts = tracks_from g.case.now g.tracks.count g.tracks.at in
    two-parts g.out.now c.next_table.new.out c.stay_table.new.out 1024 1024
    (ap length c.next_table.ensures ∙ next-part-length g.case.now ts g.trains.count g.trains.at (omega arith))
    (ap length c.stay_table.ensures ∙ stay-part-length g.case.now ts g.trains.count g.trains.at (omega arith))
    (omega arith)
    ∙ ap₂ ◌++◌ c.next_table.ensures c.stay_table.ensures
