-- `desk::lampreysong_plain_part` meets its contract: refused as it begins, or the choices of the part run and what they add added to the weights. Assumes nothing.
use Rattle.std.proofs.Common.{refl, ap, subst, ◌∙◌, rules, ◌+◌}
use Rattle.plain.specs.Counting.{part}
use Rattle.rules.specs.Plain.{part_run, part_image, part_call, capped}
use Rattle.desk.specs.Plain.{start_begins, plain_answered, part-ran}
use Rattle.rules.specs.Decoded.{weight_in}
use Rattle.rules.specs.Calls.{image_by, filled}
use Rattle.desk.specs.Begun.{Begun}
use Rattle.desk.specs.Laws.{stop-starts}
use Rattle.desk.proofs.lampreysong_plain_part.Goals as goal

pub returns-in-Err : goal.returns-in-Err
unfolding part_call part_run
returns-in-Err c =
    let a = c.args in
    subst (λ r. Begun a.case.now a.book.now a.stop a.weights.now r c.begin_plain.new.weights) c.in-Err.is c.begin_plain.ensures
    (λ C. part C a.first a.most) (part_image a.weights.now)

pub run_plain-n-requires : goal.run_plain-n-requires
run_plain-n-requires c =
    let a = c.args in
    let begun = subst (λ r. Begun a.case.now a.book.now a.stop a.weights.now r c.begin_plain.new.weights) c.in-Ok.is c.begin_plain.ensures in
    (start_begins a.case.now a.book.now a.stop refl (stop-starts a.case.now a.book.now a.stop begun.0), search rules)

pub returns-in-Ok : goal.returns-in-Ok
unfolding part_call part_run
returns-in-Ok c =
    let a = c.args in
    let begun = subst (λ r. Begun a.case.now a.book.now a.stop a.weights.now r c.begin_plain.new.weights) c.in-Ok.is c.begin_plain.ensures in
    plain_answered (λ C. part C a.first a.most) (part_image a.weights.now) a.case.now a.book.now a.stop a.weights.now begun.0 begun.1 refl c.answered.ensures
    (part-ran a.case.now a.book.now a.stop a.weights.now a.first a.most c.run_plain-n.ensures
    (λ w h. c.add_weights.ensures.by_index w h ∙ ap (λ l. filled 40320 (image_by (λ k t. capped (weight_in l k t + w k t))) l) begun.2))
