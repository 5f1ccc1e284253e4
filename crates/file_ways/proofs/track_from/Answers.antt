-- `file_ways::track_from` meets its contract: the first track that leads there is found, or none does. Assumes nothing.
use Rattle.std.proofs.Common.{◌≡◌, ℕ, Option, Some, None, ◌+◌, ◌*◌, refl, sym, ◌∙◌, arith, rules, tests, option_map}
use Rattle.std.proofs.lemmas.Iterator.{YieldsList-from_range}
use Rattle.std.proofs.lemmas.Iterator.Search.{find_from_yields_List}
use Rattle.rules.specs.Files.{leads}
use Rattle.file_tables.specs.Model.{track_in}
use Rattle.file_tables.specs.Walks.{track_first}
use Rattle.file_ways.proofs.track_from.Goals as goal

itself : (r : Option ℕ) → option_map (λ x. x) r ≡ r
itself None = refl
itself (Some j) = refl

pub returns : goal.returns
returns c =
    let g = c.args in
    let n = g.tracks.count in
    let o = g.tracks.at in
    let found =
    find_from_yields_List (λ j. leads g.from g.to (track_in g.case.now (o + 6 * j))) _ _ c.find.result c.find.ensures.ran (YieldsList-from_range 0 n n refl (omega arith))
    (λ x b q k. search (rules, tests)) in
    rw (sym (itself c.find.result) ∙ found) (track_first g.case.now g.from g.to o n)
