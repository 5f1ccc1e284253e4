-- `file_lookup::no_table` meets its contract: neither file has a place for the table. Assumes nothing.
use Rattle.std.proofs.Common.{sym}
use Rattle.std.proofs.Math.Bool.{not-not}
use Rattle.file_lookup.specs.Search.{table-missing}
use Rattle.file_lookup.proofs.no_table.Goals as goal

pub returns-then-is_none : goal.returns-then-is_none
returns-then-is_none c =
    let a = c.is_none.ensures in
    let b = c.is_none-then-is_none.ensures in
    let t = c.if-is_none.true in
    rw (table-missing, ← c.table_at.ensures, ← c.table_at-then-is_none.ensures, a, t, b) (sym (not-not _))

pub returns-else-is_none : goal.returns-else-is_none
returns-else-is_none c =
    let a = c.is_none.ensures in
    let t = c.if-is_none.false in
    rw (table-missing, ← c.table_at.ensures, a, t)
