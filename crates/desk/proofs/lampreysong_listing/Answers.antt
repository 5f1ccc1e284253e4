-- `desk::lampreysong_listing` meets its contract: memory too short, refused, or the listing of the run over the whole window. Assumes nothing.
use Rattle.std.proofs.Common.{refl, sym, ◌∙◌, subst, ℕ, arith}
use Rattle.laying.specs.Told.{Reached}
use Rattle.desk.specs.Laws.{whole-starts, whole_runs}
use Rattle.theory_sound.specs.Runs.{whole-answer}
use Rattle.telling.specs.Answered.{printable, printed-listing}
use Rattle.desk.specs.Ends.{long-rows, long-weights, long-text, was_refused, refusal_told, was_answered, laid-stood, listing-short, listing-refused, listing-printed}
use Rattle.desk.proofs.lampreysong_listing.Goals as goal

pub returns-then-short : goal.returns-then-short
returns-then-short c = listing-short c.args.case.now c.args.book.now c.args.text.now c.refused_for.ensures (sym c.short.ensures ∙ c.if-short.true)

pub lay-requires : goal.lay-requires
lay-requires c =
    let a = c.args in
    let long = sym c.short.ensures ∙ c.if-short.false in
    record {
      start = whole-starts a.case.now a.book.now c.word-last.ensures.0 c.read_files-files.ensures;
      long = (long-rows 32768 a.rows.now a.weights.now a.text.now long, long-weights 32768 a.rows.now a.weights.now a.text.now long);
      none = refl;
    }

pub refused_for-requires-in-Err : goal.refused_for-requires-in-Err
refused_for-requires-in-Err c = subst (Reached {A = ℕ}) c.in-Err.is c.lay.ensures.reached

pub clear-requires : goal.clear-requires
clear-requires c =
    let a = c.args in
    omega (arith, long-text 32768 a.rows.now a.weights.now a.text.now (sym c.short.ensures ∙ c.if-short.false))

pub returns-in-Err : goal.returns-in-Err
returns-in-Err c =
    let a = c.args in
    listing-refused a.case.now a.book.now a.text.now (whole_runs a.case.now a.book.now c.word-last.ensures.0 c.read_files-files.ensures)
    (sym c.short.ensures ∙ c.if-short.false) c.lay.ensures.laid (was_refused c.in-Err.is c.lay.ensures.reached)
    (c.refused_for-in-Err.ensures ∙ refusal_told c.in-Err.is) c.clear.ensures

pub print-requires : goal.print-requires
print-requires c =
    let a = c.args in
    let U = whole_runs a.case.now a.book.now c.word-last.ensures.0 c.read_files-files.ensures in
    let z = laid-stood c.lay.ensures.laid (was_answered c.in_default.is) in
    (printable (whole-answer a.case.now a.book.now z.run (sym U ∙ z.is)) _ z.looked, long-text 32768 a.rows.now a.weights.now a.text.now (sym c.short.ensures ∙ c.if-short.false))

pub returns : goal.returns
returns c =
    let a = c.args in
    let U = whole_runs a.case.now a.book.now c.word-last.ensures.0 c.read_files-files.ensures in
    let z = laid-stood c.lay.ensures.laid (was_answered c.in_default.is) in
    listing-printed a.case.now a.book.now a.text.now U (sym c.short.ensures ∙ c.if-short.false) c.lay.ensures.laid z
    (printed-listing (whole-answer a.case.now a.book.now z.run (sym U ∙ z.is)) _ z.looked _ a.text.now z.weighed c.print.ensures)
