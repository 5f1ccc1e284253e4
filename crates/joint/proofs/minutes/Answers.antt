-- `joint::minutes` meets its contract. The invariant: the minutes before t have passed. Assumes nothing.
use mathlib.Core.Path.{◌≡◌, sym, ap, ◌∙◌}
use Prim.Native.Nat.{◌+◌}
use native.Mathlib.Omega.{arith}
use Rattle.serving.specs.Passing.{keeps_none, keeps_join, lends_keeps}
use Rattle.visiting.specs.Visit.{read}
use Rattle.entries.specs.Run.{minute_of}
use Rattle.joint.specs.Minutes.{minutes-none, minutes-more}
use Rattle.joint.proofs.minutes.Goals as goal

pub loop-t-init : goal.loop-t-init
loop-t-init c =
    let s = c.args in
    let p = c.requires.kept in
    (keeps_none s.work.now.bench, sym (minutes-none s.plan.now.words.now (read s.w s.rows.now s.weights.now)), p.0, p.1, p.2)

pub minute-v-requires : goal.minute-v-requires
minute-v-requires c =
    let l = c.loop-t in
    let b = c.requires.stop_bound in
    record { lent = lends_keeps c.requires.lent l.invariant.0 l.auto.rows; t_bound = omega (arith, b); kept = (l.invariant.2, l.invariant.3, l.invariant.4) }

pub loop-t-preserved : goal.loop-t-preserved
loop-t-preserved c =
    let s = c.args in
    let l = c.loop-t in
    let T = s.plan.now.words.now in
    let v = c.minute-v.ensures.passes in
    (keeps_join l.invariant.0 c.minute-v.ensures.keeps, v.outcome ∙ ap (minute_of T l.t) l.invariant.1 ∙ sym (minutes-more T l.t (read s.w s.rows.now s.weights.now)), v.kept, v.flagged, v.due)

pub returns-2 : goal.returns-2
returns-2 c =
    let s = c.args in
    let l = c.loop-t in
    let T = s.plan.now.words.now in
    let v = c.minute-v.ensures.passes in
    let e : l.t + 1 ≡ s.stop + 1 = omega arith in
    (rw (← e) (v.outcome ∙ ap (minute_of T l.t) l.invariant.1 ∙ sym (minutes-more T l.t (read s.w s.rows.now s.weights.now))), v.kept)
