-- `joint::minute` meets its contract: clearing, waking, and the visits. Assumes nothing.
use native.Mathlib.Omega.{arith}
use lib.ListN.{take}
use Rattle.rows.specs.Rows.{rows_of}
use Rattle.serving.specs.Passing.{keeps_none, lends_keeps}
use Rattle.clearing.specs.Clearing.{swept_current}
use Rattle.joint.specs.Minutes.{minute-over, minute-all}
use Rattle.joint.proofs.minute.Goals as goal

pub returns-then-w-rows-clause-passes : goal.returns-then-w-rows-clause-passes
returns-then-w-rows-clause-passes c =
    let s = c.args in
    let p = c.requires.kept in
    minute-over s.plan.now.words.now s.t s.w s.rows.now s.weights.now p.0 s.work.now.notes.now p.1 (omega arith)

pub clear-v-requires : goal.clear-v-requires
clear-v-requires c =
    (c.requires.kept.0, c.requires.kept.1, c.requires.t_bound, c.args.plan.now.ways, c.requires.kept.2 (omega (arith, c.requires.kept.0.within, c.if-w-rows.false)))

pub wake-requires : goal.wake-requires
wake-requires c =
    let s = c.args in
    let d = c.clear-v.ensures in
    (d.flagged, c.requires.t_bound, c.args.plan.now.ways, rw d.list d.due, rw d.list (swept_current s.t (rows_of (take s.w s.rows.now))))

pub elements-requires : goal.elements-requires
elements-requires c =
    let d = c.clear-v.ensures in
    let n = c.wake.ensures in
    record { lent = lends_keeps c.requires.lent (keeps_none c.args.work.now.bench) (omega arith); t_bound = c.requires.t_bound; kept = (d.kept, n.0, λ h. n.1) }

pub returns-clause-passes : goal.returns-clause-passes
returns-clause-passes c =
    let s = c.args in
    minute-all s.plan.now.words.now s.t s.w s.rows.now s.weights.now c.requires.kept.0 c.clear-v.result c.elements.result _ _ _ _ _ (omega (arith, c.requires.kept.0.within, c.if-w-rows.false)) (omega arith) c.clear-v.ensures c.elements.ensures.seen
