-- `file_ways::stay_table` meets its contract: each train's piece is its row. Assumes nothing.
use Rattle.std.proofs.Common.{◌≡◌, arith, rules, refl, length, replicate}
use Rattle.file_fields.specs.Fields.{past}
use Rattle.file_tables.specs.Model.{tracks_from, stay_row, stay_part}
use Rattle.file_tables.specs.Fills.{rows-rest}
use Rattle.file_tables.specs.Walks.{stay-row-length}
use Rattle.file_ways.proofs.stay_table.Goals as goal

pub returns : goal.returns
unfolding stay_part
returns c =
    let g = c.args in
    let t = g.trains in
    let cs = g.case.now in
    let ts = tracks_from cs g.tracks.count g.tracks.at in
    let f : c.fill.new.self ≡ replicate (length g.out.now) 0 = search rules in
    rows-rest (stay_row cs ts) (past cs) 128 (stay-row-length cs ts) _ c.fill.new.self g.out.now t.count t.at t.count 1024 0
    (c.each_train.ensures (stay_row cs ts) (record { made = λ at piece left h e p. search rules; wide = stay-row-length cs ts })) f (omega arith) refl
