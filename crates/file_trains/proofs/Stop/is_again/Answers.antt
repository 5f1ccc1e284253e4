-- `file_trains::Stop::is_again` meets its contract: `any` over the earlier stops is the search by index. Assumes nothing.
use mathlib.Core.Path.{refl}
use borrow.Author.Rules.{rules}
use borrow.Author.Tests.{tests}
use lib.Dec.{eqb}
use Rattle.file_bodies.specs.Bodies.{repeated, stop}
use Rattle.file_bodies.proofs.Any.{any_answers}
use Rattle.file_trains.proofs.Stop.is_again.Goals as goal

pub returns : goal.returns
unfolding repeated
returns c =
    let b = c.args.self.now.body.now in
    rw (← c.station-here.ensures)
    (any_answers _ _ _ (λ i. eqb (stop b i) c.station-here.result) _ c.any.ensures.ran refl (λ x q h. search (rules, tests)) (λ x q h. search (rules, tests)))
