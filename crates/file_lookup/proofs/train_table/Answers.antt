-- `file_lookup::train_table` meets its contract: the train's place, the type behind it, and the lookup of that type. Assumes nothing.
use Rattle.std.proofs.Common.{◌≡◌, ap, sym, ◌∙◌, ℕ, ◌+◌, Some, None}
use Rattle.std.proofs.iter.Serving.{serving}
use Rattle.rules.specs.Files.{byte}
use Rattle.file_lookup.specs.Lookup.{table_bytes, train_place}
use Rattle.file_lookup.specs.Search.{train_inside, type-there, type-none}
use Rattle.file_lookup.specs.Tables.{train-table}
use Rattle.file_lookup.proofs.train_table.Goals as goal

pub map_or-t-requires : goal.map_or-t-requires
map_or-t-requires c x e =
    let p = train_inside _ _ _ (sym c.train_at.ensures ∙ e) in
    grind serving

pub returns : goal.returns
returns c =
    let a = c.args in
    let there : (i : ℕ) → c.train_at.result ≡ Some i → byte a.case.now (i + 4) ≡ byte a.case.now (train_place a.case.now a.k + 4) =
    λ i e. type-there _ _ _ (sym c.train_at.ensures ∙ e) in
    let nowhere : c.train_at.result ≡ None → 0 ≡ byte a.case.now (train_place a.case.now a.k + 4) = λ e. type-none _ _ (sym c.train_at.ensures ∙ e) in
    let t : c.map_or-t.result ≡ byte a.case.now (train_place a.case.now a.k + 4) = grind (serving, there, nowhere) in
    train-table (c.table.ensures.bytes ∙ ap (λ (n : ℕ). table_bytes a.case.now a.book.now n) t)
