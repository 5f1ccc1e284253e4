-- `file_lookup::body_at` meets its contract: a whole field gives its body, and else there is nothing. Assumes nothing.
use borrow.Author.Rules.{rules}
use native.Mathlib.Omega.{arith}
use mathlib.Core.Path.{sym, ◌∙◌}
use Rattle.file_fields.specs.Walk.{field-here, field-gone}
use Rattle.file_lookup.specs.Laws.{body-whole, body-none}
use Rattle.file_lookup.proofs.body_at.Goals as goal

pub returns-in_default : goal.returns-in_default
returns-in_default c = body-none _ _ (field-gone _ _ (λ t n e q. c.in_default.not-Whole t n e (c.field_at.ensures ∙ q)))

pub overflow_add-result : goal.overflow_add-result
overflow_add-result c =
    let w = field-here _ _ _ _ _ (sym c.field_at.ensures ∙ c.in-Whole.is) in
    search rules

pub slice_bounds-result-count : goal.slice_bounds-result-count
slice_bounds-result-count c =
    let w = field-here _ _ _ _ _ (sym c.field_at.ensures ∙ c.in-Whole.is) in
    omega arith

pub slice_bounds-result-start : goal.slice_bounds-result-start
slice_bounds-result-start c =
    let w = field-here _ _ _ _ _ (sym c.field_at.ensures ∙ c.in-Whole.is) in
    omega arith

pub slice_bounds-result-end-2 : goal.slice_bounds-result-end-2
slice_bounds-result-end-2 c =
    let w = field-here _ _ _ _ _ (sym c.field_at.ensures ∙ c.in-Whole.is) in
    omega arith

pub returns : goal.returns
returns c =
    let w = field-here _ _ _ _ _ (sym c.field_at.ensures ∙ c.in-Whole.is) in
    body-whole _ _ w.stands w.ends
