-- `desk::lampreysong_single` meets its contract: refused, or the minute of the run on the case's tables. Assumes nothing.
use Rattle.std.proofs.Common.{sym, ap, subst, ◌∙◌, arith}
use Rattle.file_lookup.specs.Told.{told}
use Rattle.laying.specs.Steps.{files_answer, Tells}
use Rattle.desk.specs.Single.{single_tells, single-refused, single-ready, single-small, single-answered}
use Rattle.desk.proofs.lampreysong_single.Goals as goal

pub refused_for-requires : goal.refused_for-requires
refused_for-requires c =
    let a = c.args in
    subst Tells (ap told c.in-Err.is) (single_tells a.case.now a.book.now a.choice.now a.train c.for_single.ensures)

pub returns-in-Err : goal.returns-in-Err
returns-in-Err c =
    let a = c.args in
    let e = ap told c.in-Err.is in
    single-refused a.case.now a.book.now a.choice.now a.train c.for_single.ensures e (c.refused_for.ensures ∙ sym (ap files_answer e))

pub arrival-requires : goal.arrival-requires
arrival-requires c =
    let a = c.args in
    let e = c.for_single.ensures in
    let ready = single-ready a.case.now a.book.now a.choice.now a.train e (ap told c.in-Ok.is) in
    single-small a.case.now a.book.now a.choice.now a.train e ready _ (c.fill.ensures.1 ready.of ready.accepted ready.sizes)
    (λ i. omega (arith, c.shared_slice_known-1.given i)) (λ i. omega (arith, c.shared_slice_known-2-1.given i))

pub returns-in-Ok : goal.returns-in-Ok
returns-in-Ok c =
    let a = c.args in
    let e = c.for_single.ensures in
    let ready = single-ready a.case.now a.book.now a.choice.now a.train e (ap told c.in-Ok.is) in
    single-answered a.case.now a.book.now a.choice.now a.train e ready _ (c.fill.ensures.1 ready.of ready.accepted ready.sizes) c.arrival.ensures.case
    c.answered.ensures
