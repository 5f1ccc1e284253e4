-- `file_arguments::wrong_choice` meets its contract: `any` over the trains is the search by index. Assumes nothing.
use mathlib.Core.Path.{refl}
use borrow.Author.Rules.{rules}
use borrow.Author.Tests.{tests, eq-eqb, ne_eqb}
use Rattle.file_bodies.proofs.Any.{any_answers}
use Rattle.file_arguments.specs.Arguments.{past_table, choice_wrong}
use Rattle.file_arguments.proofs.wrong_choice.Goals as goal

pub returns-then-choice-trains : goal.returns-then-choice-trains
unfolding choice_wrong
returns-then-choice-trains c = simp (ne_eqb _ _ c.if-choice-trains.true)

pub returns-else-choice-trains : goal.returns-else-choice-trains
unfolding choice_wrong
returns-else-choice-trains c =
    let a = c.args in
    simp (eq-eqb _ _ c.if-choice-trains.false)
    (any_answers _ _ _ (past_table a.case.now a.book.now a.choice.now) _ c.any.ensures.ran refl (λ x q h. search (rules, tests)) (λ x q h. search (rules, tests)))
