-- `file_lookup::train_at` meets its contract: the search's test is that of a train. Assumes nothing.
use Rattle.std.proofs.Common.{◌∙◌, eqb, rules}
use Rattle.rules.specs.Files.{byte}
use Rattle.file_lookup.specs.Search.{train-found}
use Rattle.file_lookup.proofs.train_at.Goals as goal

pub returns : goal.returns
returns c = c.nth_place.ensures (λ i. eqb (byte c.args.case.now i) 4) (record { same = λ i b h p. search rules }) ∙ train-found _ _
