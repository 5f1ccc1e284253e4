-- `desk::begin_plain` meets its contract: weights too short, files or stop minute refused, or nothing of these. Assumes nothing.
use Rattle.std.proofs.Common.{ap, refl, subst, ◌∙◌, sym}
use Rattle.file_lookup.specs.Told.{told}
use Rattle.laying.specs.Steps.{Tells, files_answer}
use Rattle.desk.specs.Laws.{stop-starts}
use Rattle.desk.specs.Plain.{start_tells, plain_short, plain_refused}
use Rattle.desk.proofs.begin_plain.Goals as goal

pub returns-then-weights-lt40320 : goal.returns-then-weights-lt40320
returns-then-weights-lt40320 c =
    let a = c.args in
    λ which image. plain_short which image a.case.now a.book.now a.stop a.weights.now c.refused_for.ensures c.if-weights-lt40320.true

pub refused_for-requires-in-Err : goal.refused_for-requires-in-Err
refused_for-requires-in-Err c =
    let a = c.args in
    subst Tells (ap told c.in-Err.is) (start_tells a.case.now a.book.now a.stop _ (stop-starts a.case.now a.book.now a.stop c.for_stop.ensures))

pub returns-in-Err : goal.returns-in-Err
returns-in-Err c =
    let a = c.args in
    let e = ap told c.in-Err.is in
    λ which image. plain_refused which image a.case.now a.book.now a.stop a.weights.now c.for_stop.ensures c.if-weights-lt40320.false e
    (c.refused_for-in-Err.ensures ∙ sym (ap files_answer e)) c.clear.ensures

pub returns-in-Ok : goal.returns-in-Ok
returns-in-Ok c = (sym (ap told c.in-Ok.is) ∙ c.for_stop.ensures, c.if-weights-lt40320.false, refl)
