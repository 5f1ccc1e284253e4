-- `file_trains::times_verdict` meets its contract: `any` over the stops is the search by index, and the last departure is held against the last minute.
-- Assumes nothing.
use mathlib.Core.Path.{refl, sym, ◌∙◌}
use borrow.Author.Rules.{rules}
use borrow.Author.Tests.{tests, lt-ltb, le-ltb}
use Rattle.file_bodies.specs.Bodies.{bad_time, times_verdict}
use Rattle.file_bodies.proofs.Any.{any_answers}
use Rattle.file_trains.proofs.times_verdict.Goals as goal
use Rattle.file_trains.proofs.times_verdict.Goals.{then-any-via-then-any, then-any-via-else-any+then-word-last}

pub returns-then-any : goal.returns-then-any
unfolding times_verdict
returns-then-any c =
    let found = any_answers _ _ _ (bad_time c.args.body.now) _ c.any.ensures.ran refl (λ x q h. search (rules, tests)) (λ x q h. search (rules, tests)) in
    elim c.then-any.branch [
      | then-any-via-then-any w ↦ rw (sym found ∙ w.if-any.true)
      | then-any-via-else-any+then-word-last w ↦ simp (sym found ∙ w.if-any.false, sym w.word.ensures.0, sym c.word-last.ensures.0, lt-ltb _ _ w.if-word-last.true)
    ]

pub returns : goal.returns
unfolding times_verdict
returns c =
    let found = any_answers _ _ _ (bad_time c.args.body.now) _ c.any.ensures.ran refl (λ x q h. search (rules, tests)) (λ x q h. search (rules, tests)) in
    simp (sym found ∙ c.if-any.false, sym c.word.ensures.0, sym c.word-last.ensures.0, le-ltb _ _ c.if-word-last.false)
