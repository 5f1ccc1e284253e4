-- `desk::lampreysong_plain` meets its contract: refused as it begins, or every choice run and what they add put into the weights. Assumes nothing.
use Rattle.std.proofs.Common.{refl, ap, subst, ◌∙◌, rules}
use Rattle.rules.specs.Joint.{choices}
use Rattle.rules.specs.Plain.{plain_run, plain_image, plain_call}
use Rattle.desk.specs.Plain.{start_begins, plain_answered, whole-ran}
use Rattle.rules.specs.Calls.{image_by, filled}
use Rattle.desk.specs.Begun.{Begun}
use Rattle.desk.specs.Laws.{stop-starts}
use Rattle.desk.proofs.lampreysong_plain.Goals as goal

pub returns-in-Err : goal.returns-in-Err
unfolding plain_call plain_run
returns-in-Err c =
    let a = c.args in
    subst (λ r. Begun a.case.now a.book.now a.stop a.weights.now r c.begin_plain.new.weights) c.in-Err.is c.begin_plain.ensures
    choices plain_image

pub run_plain-n-requires : goal.run_plain-n-requires
run_plain-n-requires c =
    let a = c.args in
    let begun = subst (λ r. Begun a.case.now a.book.now a.stop a.weights.now r c.begin_plain.new.weights) c.in-Ok.is c.begin_plain.ensures in
    (start_begins a.case.now a.book.now a.stop refl (stop-starts a.case.now a.book.now a.stop begun.0), search rules)

pub returns-in-Ok : goal.returns-in-Ok
unfolding plain_call plain_run
returns-in-Ok c =
    let a = c.args in
    let begun = subst (λ r. Begun a.case.now a.book.now a.stop a.weights.now r c.begin_plain.new.weights) c.in-Ok.is c.begin_plain.ensures in
    plain_answered choices plain_image a.case.now a.book.now a.stop a.weights.now begun.0 begun.1 refl c.answered.ensures
    (whole-ran a.case.now a.book.now a.stop a.weights.now c.run_plain-n.ensures
    (λ w h. c.put_weights.ensures.by_index w h ∙ ap (λ l. filled 40320 (image_by w) l) begun.2))
