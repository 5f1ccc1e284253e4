-- `file_lookup::lacking_at` meets its contract: the search's test is that of a train whose type has no table. Assumes nothing.
use Rattle.std.proofs.Common.{◌∙◌, rules}
use Rattle.file_lookup.specs.Search.{first-found}
use Rattle.file_lookup.proofs.lacking_at.Goals as goal

pub returns : goal.returns
returns c = c.nth_place.ensures _ (record { same = λ i b h p. search rules }) ∙ first-found _ _
