-- `desk::lampreysong_field` meets its contract: each arm is the answer for what stands at the place. Assumes nothing.
use native.Mathlib.Omega.{arith}
use Rattle.std.proofs.Common.{ap, ◌∙◌}
use Rattle.desk.specs.Fields.{none_given, field_gives, field-small}
use Rattle.desk.proofs.lampreysong_field.Goals as goal

pub overflow_cast-result : goal.overflow_cast-result
overflow_cast-result c =
    omega (arith, (field-small c.args.file.now c.args.place c.field_at.ensures c.in-Whole.is (λ i. omega (arith, c.shared_slice_known-1.given i))).0)

pub overflow_cast-result-in-Whole : goal.overflow_cast-result-in-Whole
overflow_cast-result-in-Whole c =
    omega (arith, (field-small c.args.file.now c.args.place c.field_at.ensures c.in-Whole.is (λ i. omega (arith, c.shared_slice_known-1.given i))).1)

pub returns-in-Whole : goal.returns-in-Whole
returns-in-Whole c = field_gives c.args.file.now c.args.place c.field_at.ensures c.in-Whole.is

pub returns-in-Ended : goal.returns-in-Ended
returns-in-Ended c = c.no_field.ensures ∙ field_gives c.args.file.now c.args.place c.field_at.ensures c.in-Ended.is

pub returns-in-Overrun : goal.returns-in-Overrun
returns-in-Overrun c =
    c.no_field-in-Overrun.ensures
    ∙ ap (λ n. none_given n c.args.place) c.number.ensures
    ∙ field_gives c.args.file.now c.args.place c.field_at.ensures c.in-Overrun.is
