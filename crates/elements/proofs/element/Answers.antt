-- `elements::element` meets its contract, by whether one of the element's pairs is stirred. Assumes nothing.
use mathlib.Core.Path.{refl}
use native.Mathlib.Omega.{arith}
use lib.ListN.{get_or}
use Rattle.serving.specs.Passing.{keeps_none}
use Rattle.elements.specs.Turning.{element_idle, tidied_seen}
use Rattle.elements.proofs.element.Goals as goal

pub returns-then-work-e-eq0 : goal.returns-then-work-e-eq0
returns-then-work-e-eq0 c =
    let s = c.args in
    let p = c.requires.kept in
    record { keeps = keeps_none s.work.now.bench; notes = refl; seen = element_idle s.plan.now.words.now s.t s.e s.w s.rows.now s.weights.now s.work.now.notes.now p.0 p.1 p.2 c.requires.lent.rows_are (omega (arith, c.requires.t_bound.1)) (get_or s.plan.now.words.now 0 0) c.if-work-e-eq0.true }

pub tidy-requires : goal.tidy-requires
tidy-requires c = omega (arith, c.requires.t_bound.1)

pub returns : goal.returns
returns c =
    let s = c.args in
    let v = c.trains-v.ensures in
    record { keeps = v.keeps; notes = v.notes; seen = rw c.tidy.ensures (tidied_seen s.plan.now.words.now s.t s.e _ _ _ _ _ (omega (arith, c.requires.t_bound.1)) v.seen) }
