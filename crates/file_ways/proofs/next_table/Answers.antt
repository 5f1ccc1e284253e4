-- `file_ways::next_table` meets its contract: each train's piece is its row. Assumes nothing.
use Rattle.std.proofs.Common.{◌≡◌, arith, rules, refl, length, replicate}
use Rattle.file_fields.specs.Fields.{past}
use Rattle.file_tables.specs.Model.{tracks_from, next_row_of, next_part}
use Rattle.file_tables.specs.Fills.{rows-rest}
use Rattle.file_tables.specs.Walks.{next-row-length}
use Rattle.file_ways.proofs.next_table.Goals as goal

pub returns : goal.returns
unfolding next_part
returns c =
    let g = c.args in
    let t = g.trains in
    let cs = g.case.now in
    let ts = tracks_from cs g.tracks.count g.tracks.at in
    let f : c.fill.new.self ≡ replicate (length g.out.now) 127 = search rules in
    rows-rest (next_row_of cs ts) (past cs) 128 (next-row-length cs ts) _ c.fill.new.self g.out.now t.count t.at t.count 1024 127
    (c.each_train.ensures (next_row_of cs ts) (record { made = λ at piece left h e p. search rules; wide = next-row-length cs ts })) f (omega arith) refl
