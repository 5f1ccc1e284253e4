-- `file_lookup::nth_place` meets its contract: the fields still ahead answer for the whole file, and each turn passes one. Assumes nothing.
use Rattle.std.proofs.Common.{sym, ◌∙◌, arith}
use Rattle.file_fields.specs.Walk.{field-here, field-gone}
use Rattle.file_lookup.specs.Search.{ahead-start, ahead-end, ahead-here, ahead-passed, ahead-next}
use Rattle.file_lookup.proofs.nth_place.Goals as goal

pub loop-end-init : goal.loop-end-init
loop-end-init g c = λ test a. ahead-start test _ _

pub passes-requires : goal.passes-requires
passes-requires g c =
    let w = field-here _ _ _ _ _ (sym c.field_at.ensures ∙ c.in-Whole.is) in
    c.requires _ (omega arith)

pub returns-then-left-eq0 : goal.returns-then-left-eq0
returns-then-left-eq0 g c = λ test a.
    let w = field-here _ _ _ _ _ (sym c.field_at.ensures ∙ c.in-Whole.is) in
    ahead-here (c.loop-end.invariant test a) w (sym (a.same _ _ (omega arith) c.passes.ensures) ∙ c.if-passes.true) c.if-left-eq0.true

pub loop-end-smaller-else-left-eq0 : goal.loop-end-smaller-else-left-eq0
loop-end-smaller-else-left-eq0 g c =
    let w = field-here _ _ _ _ _ (sym c.field_at.ensures ∙ c.in-Whole.is) in
    omega arith

pub loop-end-preserved-else-left-eq0 : goal.loop-end-preserved-else-left-eq0
loop-end-preserved-else-left-eq0 g c = λ test a.
    let w = field-here _ _ _ _ _ (sym c.field_at.ensures ∙ c.in-Whole.is) in
    ahead-passed (c.loop-end.invariant test a) w (sym (a.same _ _ (omega arith) c.passes.ensures) ∙ c.if-passes.true) (omega arith)

pub loop-end-smaller : goal.loop-end-smaller
loop-end-smaller g c =
    let w = field-here _ _ _ _ _ (sym c.field_at.ensures ∙ c.in-Whole.is) in
    omega arith

pub loop-end-preserved : goal.loop-end-preserved
loop-end-preserved g c = λ test a.
    let w = field-here _ _ _ _ _ (sym c.field_at.ensures ∙ c.in-Whole.is) in
    ahead-next (c.loop-end.invariant test a) w (sym (a.same _ _ (omega arith) c.passes.ensures) ∙ c.if-passes.false)

pub returns : goal.returns
returns g c = λ test a.
    ahead-end (c.loop-end.invariant test a) (field-gone _ _ (λ t n e q. c.in_default.not-Whole t n e (c.field_at.ensures ∙ q)))
