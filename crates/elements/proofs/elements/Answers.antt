-- `elements::elements` meets its contract. The invariant: the first e elements have been visited. Assumes nothing.
use mathlib.Core.Path.{◌≡◌, refl, sym, ap, ◌∙◌}
use native.Mathlib.Omega.{arith}
use lib.ListN.{get_or}
use Rattle.serving.specs.Passing.{keeps_none, keeps_join, lends_keeps}
use Rattle.visiting.specs.Visit.{read}
use Rattle.elements.specs.Elements.{element_of}
use Rattle.visiting.specs.Unmoved.{unseen}
use Rattle.elements.specs.Turning.{elements-none, elements-more}
use Rattle.elements.proofs.elements.Goals as goal

pub loop-e-init : goal.loop-e-init
loop-e-init c =
    let s = c.args in
    let p = c.requires.kept in
    (keeps_none s.work.now.bench, refl, unseen s.plan.now.words.now s.t 0 s.w s.rows.now s.weights.now s.work.now.notes.now p.0 p.1 p.2 (sym (elements-none s.plan.now.words.now s.t (read s.w s.rows.now s.weights.now))))

pub element-v-requires : goal.element-v-requires
element-v-requires c =
    let l = c.loop-e in
    let so = l.invariant.2 in
    record { lent = lends_keeps c.requires.lent l.invariant.0 l.auto.rows; t_bound = (c.requires.t_bound, omega (arith, c.loop-e-test.true)); kept = (so.kept, so.flagged, so.noted) }

pub loop-e-preserved : goal.loop-e-preserved
loop-e-preserved c =
    let s = c.args in
    let l = c.loop-e in
    let T = s.plan.now.words.now in
    let v = c.element-v.ensures.seen in (
      keeps_join l.invariant.0 c.element-v.ensures.keeps,
      c.element-v.ensures.notes ∙ l.invariant.1,
      record {
        outcome = v.outcome
            ∙ ap (element_of T s.t l.e (get_or T 0 0)) l.invariant.2.outcome
            ∙ sym (elements-more T s.t l.e (read s.w s.rows.now s.weights.now));
        kept = v.kept;
        flagged = v.flagged;
        noted = v.noted;
      },
    )

pub returns : goal.returns
returns c =
    let l = c.loop-e in
    let e : l.e ≡ 65 = omega (arith, l.auto.e-end, c.loop-e-test.false) in
    record { keeps = l.invariant.0; notes = l.invariant.1; seen = rw e at l.invariant.2 }
