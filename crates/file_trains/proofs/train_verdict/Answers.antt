-- `file_trains::train_verdict` meets its contract: `any` over the stops is the search by index, and the times come after it. Assumes nothing.
use mathlib.Core.Path.{refl, sym, ◌∙◌}
use borrow.Author.Rules.{rules}
use borrow.Author.Tests.{tests}
use Rattle.file_bodies.specs.Bodies.{bad_stop, train_verdict}
use Rattle.file_bodies.proofs.Any.{any_answers}
use Rattle.file_trains.proofs.train_verdict.Goals as goal

pub returns-then-any : goal.returns-then-any
unfolding train_verdict
returns-then-any c =
    let k = c.args.known.now in
    let found = any_answers _ _ _ (bad_stop k.bytes.now k.base k.tracks k.stations c.args.body.now) _ c.any.ensures.ran refl (λ x q h. search (rules, tests)) (λ x q h. search (rules, tests)) in
    rw (sym found ∙ c.if-any.true)

pub returns : goal.returns
unfolding train_verdict
returns c =
    let k = c.args.known.now in
    let found = any_answers _ _ _ (bad_stop k.bytes.now k.base k.tracks k.stations c.args.body.now) _ c.any.ensures.ran refl (λ x q h. search (rules, tests)) (λ x q h. search (rules, tests)) in
    rw (sym found ∙ c.if-any.false) c.times_verdict.ensures
