-- `file_lookup::table` meets its contract: the case's table is used, and otherwise the book's. Assumes nothing.
use Rattle.std.proofs.Common.{refl, sym, ◌∙◌, Some, None}
use Rattle.file_lookup.specs.Search.{table-chosen}
use Rattle.file_lookup.specs.Final.{looked}
use Rattle.file_lookup.proofs.table.Goals as goal

pub returns-in-Some : goal.returns-in-Some
returns-in-Some c = looked (c.body_at.ensures ∙ sym (table-chosen _ _ _ (Some _) _ (sym c.table_at.ensures ∙ c.in-Some.is) refl))

pub returns-in-Some-table_at : goal.returns-in-Some-table_at
returns-in-Some-table_at c =
    looked
    (c.body_at-in-Some-table_at.ensures
    ∙ sym (table-chosen _ _ _ None (Some _) (sym c.table_at.ensures ∙ c.in_default.is) (sym c.table_at-2.ensures ∙ c.in-Some-table_at.is)))

pub returns-in-None : goal.returns-in-None
returns-in-None c = looked (sym (table-chosen _ _ _ None None (sym c.table_at.ensures ∙ c.in_default.is) (sym c.table_at-2.ensures ∙ c.in-None.is)))
