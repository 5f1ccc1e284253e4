-- `file_plan::train_part` meets its contract: four parts fill the list. Assumes nothing.
use native.Mathlib.Omega.{arith}
use mathlib.Core.Path.{refl, ◌∙◌, ap, ap₂}
use mathlib.Core.List.{◌++◌}
use lib.ListN.{length}
use Rattle.file_tables.specs.Model.{train_part}
use Rattle.file_tables.specs.Fills.{train-row-length, four_parts}
use Rattle.file_plan.proofs.train_part.Goals as goal

pub returns : goal.returns
unfolding train_part
returns c =
    let g = c.args in
    let cs = g.case.now in
    let bk = g.book.now in
    four_parts g.out.now c.train_table.new.out c.train_table-2.new.out 8 8
    (ap length c.train_table.ensures ∙ train-row-length cs bk g.trains.count g.trains.at 0 (omega arith))
    (ap length c.train_table-2.ensures ∙ train-row-length cs bk g.trains.count g.trains.at 1 (omega arith))
    c.train_table-3.new.out 16 8 refl
    (ap length c.train_table-3.ensures ∙ train-row-length cs bk g.trains.count g.trains.at 2 (omega arith))
    c.train_table-4.new.out 24 8 refl
    (ap length c.train_table-4.ensures ∙ train-row-length cs bk g.trains.count g.trains.at 3 (omega arith))
    (omega arith)
    ∙ ap₂ ◌++◌ c.train_table.ensures (ap₂ ◌++◌ c.train_table-2.ensures (ap₂ ◌++◌ c.train_table-3.ensures c.train_table-4.ensures))
