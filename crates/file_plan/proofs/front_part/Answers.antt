-- `file_plan::front_part` meets its contract: four parts fill the list. Assumes nothing.
use native.Mathlib.Omega.{arith}
use mathlib.Core.Path.{refl, ◌∙◌, ap, ap₂}
use mathlib.Core.List.{◌++◌}
use lib.ListN.{length}
use Rattle.file_tables.specs.Fills.{head-part-length, train-part-length, pair-part-length, four_parts}
use Rattle.file_plan.proofs.front_part.Goals as goal

pub returns : goal.returns
returns c =
    let g = c.args in
    let cs = g.case.now in
    let bk = g.book.now in
    four_parts g.out.now c.head_part.new.out c.train_part.new.out 16 32
    (ap length c.head_part.ensures ∙ head-part-length cs g.trains.count g.trains.at (omega arith))
    (ap length c.train_part.ensures ∙ train-part-length cs bk g.trains.count g.trains.at (omega arith))
    c.pair_table.new.out 48 64 refl
    (ap length c.pair_table.ensures ∙ pair-part-length cs bk g.trains.count g.trains.at 1 (omega arith))
    c.pair_table-2.new.out 112 64 refl
    (ap length c.pair_table-2.ensures ∙ pair-part-length cs bk g.trains.count g.trains.at 2 (omega arith))
    (omega arith)
    ∙ ap₂ ◌++◌ c.head_part.ensures (ap₂ ◌++◌ c.train_part.ensures (ap₂ ◌++◌ c.pair_table.ensures c.pair_table-2.ensures))
