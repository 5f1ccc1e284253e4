-- `desk::lampreysong_run` meets its contract: memory too short, or the run after the files and the stop minute. Assumes nothing.
use Rattle.std.proofs.Common.{refl, sym, ◌∙◌, []}
use Rattle.desk.specs.Laws.{stop-starts, stop_runs}
use Rattle.desk.specs.Ends.{run_short, run-laid, long-rows, long-weights}
use Rattle.desk.proofs.lampreysong_run.Goals as goal

pub returns-then-short : goal.returns-then-short
returns-then-short c = run_short c.args.case.now c.args.book.now c.args.stop c.refused_for.ensures (sym c.short.ensures ∙ c.if-short.true)

pub lay-laid-requires : goal.lay-laid-requires
lay-laid-requires c =
    let a = c.args in
    let long = sym c.short.ensures ∙ c.if-short.false in
    record {
      start = stop-starts a.case.now a.book.now a.stop c.for_stop-files.ensures;
      long = (long-rows 0 a.rows.now a.weights.now [] long, long-weights 0 a.rows.now a.weights.now [] long);
      none = refl;
    }

pub answer_to-requires : goal.answer_to-requires
answer_to-requires c = c.lay-laid.ensures.reached

pub returns : goal.returns
returns c =
    let a = c.args in
    run-laid a.case.now a.book.now a.stop (stop_runs a.case.now a.book.now a.stop c.for_stop-files.ensures) (sym c.short.ensures ∙ c.if-short.false)
    c.lay-laid.ensures.laid c.answer_to.ensures
