-- `desk::lampreysong_figures` meets its contract: memory too short, refused, or the figures of the run over the whole window. Assumes nothing.
use Rattle.std.proofs.Common.{refl, sym, ap, ◌∙◌, subst, ℕ, []}
use Rattle.out_figures.specs.Answers.{no_figures}
use Rattle.laying.specs.Told.{Reached}
use Rattle.telling.specs.Answers.{train_figures}
use Rattle.desk.specs.Laws.{train-starts, train_runs}
use Rattle.theory_sound.specs.Runs.{train-answer}
use Rattle.telling.specs.Answered.{measurable, measured_figures}
use Rattle.desk.specs.Ends.{long-rows, long-weights, was_refused, refusal_told, was_answered, laid-stood, figures-short, figures-refused, figures-answered}
use Rattle.desk.proofs.lampreysong_figures.Goals as goal

pub returns-then-short : goal.returns-then-short
returns-then-short c =
    figures-short c.args.case.now c.args.book.now c.args.train c.args.limit c.refused_for.ensures c.refused_figures.ensures (sym c.short.ensures ∙ c.if-short.true)

pub lay-requires : goal.lay-requires
lay-requires c =
    let a = c.args in
    let long = sym c.short.ensures ∙ c.if-short.false in
    record {
      start = train-starts a.case.now a.book.now c.word-last.ensures.0 a.train c.for_train-files.ensures;
      long = (long-rows 0 a.rows.now a.weights.now [] long, long-weights 0 a.rows.now a.weights.now [] long);
      none = refl;
    }

pub refused_for-requires-in-Err : goal.refused_for-requires-in-Err
refused_for-requires-in-Err c = subst (Reached {A = ℕ}) c.in-Err.is c.lay.ensures.reached

pub returns-in-Err : goal.returns-in-Err
returns-in-Err c =
    let a = c.args in
    figures-refused a.case.now a.book.now a.train a.limit (train_runs a.case.now a.book.now c.word-last.ensures.0 a.train c.for_train-files.ensures)
    (sym c.short.ensures ∙ c.if-short.false) c.lay.ensures.laid (was_refused c.in-Err.is c.lay.ensures.reached)
    (c.refused_figures-in-Err.ensures ∙ ap (λ p. train_figures p no_figures) (c.refused_for-in-Err.ensures ∙ refusal_told c.in-Err.is))

pub measure-figures-requires : goal.measure-figures-requires
measure-figures-requires c =
    let a = c.args in
    let U = train_runs a.case.now a.book.now c.word-last.ensures.0 a.train c.for_train-files.ensures in
    let z = laid-stood c.lay.ensures.laid (was_answered c.in_default.is) in
    measurable (train-answer a.case.now a.book.now a.train z.run (sym U ∙ z.is)) _ z.looked _ z.weighed

pub returns : goal.returns
returns c =
    let a = c.args in
    let U = train_runs a.case.now a.book.now c.word-last.ensures.0 a.train c.for_train-files.ensures in
    let z = laid-stood c.lay.ensures.laid (was_answered c.in_default.is) in
    figures-answered a.case.now a.book.now a.train a.limit U (sym c.short.ensures ∙ c.if-short.false) c.lay.ensures.laid z
    (measured_figures (train-answer a.case.now a.book.now a.train z.run (sym U ∙ z.is)) _ z.looked _ z.weighed a.limit c.measure-figures.ensures) (c.train_figures.ensures ∙ ap (λ p. train_figures p c.measure-figures.result) c.answered.ensures)
