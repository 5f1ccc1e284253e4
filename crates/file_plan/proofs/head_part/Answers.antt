-- `file_plan::head_part` meets its contract: two parts fill the list. Assumes nothing.
use native.Mathlib.Omega.{arith}
use mathlib.Core.Path.{◌∙◌, ap, ap₂}
use mathlib.Core.List.{◌++◌}
use lib.ListN.{length}
use Rattle.file_tables.specs.Model.{head_part, priority_of}
use Rattle.file_tables.specs.Fills.{order-row-length, two-parts}
use Rattle.file_plan.proofs.head_part.Goals as goal

pub returns : goal.returns
unfolding head_part
returns c =
    let g = c.args in
    two-parts g.out.now c.heads.new.out c.order.new.out 8 8 (ap length c.heads.ensures) (ap length c.order.ensures ∙ order-row-length (priority_of g.case.now g.trains.at g.trains.count) g.trains.count (omega arith)) (omega arith)
    ∙ ap₂ ◌++◌ c.heads.ensures c.order.ensures
