-- `elements::trains` meets its contract. The invariant: the first j trains in order have passed. Assumes nothing.
use mathlib.Core.Path.{◌≡◌, refl, sym, ap, ◌∙◌}
use Prim.Native.Nat.{ℕ, ◌+◌}
use native.Mathlib.Omega.{arith}
use lib.ListN.{get_or}
use Rattle.serving.specs.Passing.{keeps_none, keeps_join, lends_keeps}
use Rattle.visiting.specs.Visit.{pass_of, read}
use Rattle.visiting.specs.Unmoved.{unseen}
use Rattle.elements.specs.Turning.{element-none, element-more}
use Rattle.elements.proofs.trains.Goals as goal

pub loop-j-init : goal.loop-j-init
loop-j-init c =
    let s = c.args in
    let p = c.requires.kept in
    (c.at-n.ensures, keeps_none s.work.now.bench, refl, unseen s.plan.now.words.now s.t s.e s.w s.rows.now s.weights.now s.work.now.notes.now p.0 p.1 p.2 (sym (element-none s.plan.now.words.now s.t s.e (read s.w s.rows.now s.weights.now))))

pub visit-v-requires : goal.visit-v-requires
visit-v-requires c =
    let l = c.loop-j in
    let so = l.invariant.3 in
    let b = c.requires.t_bound in
    let small = c.args.plan.now.small in
    record {
      lent = lends_keeps c.requires.lent l.invariant.1 l.auto.rows;
      within = record { minute = b.0; place = b.1; train = omega (arith, c.at.ensures, small.order l.j (omega (arith, small.trains, l.invariant.0, c.loop-j-test.true))) };
      kept = (so.kept, so.flagged, so.noted);
    }

pub loop-j-preserved : goal.loop-j-preserved
loop-j-preserved c =
    let s = c.args in
    let l = c.loop-j in
    let T = s.plan.now.words.now in
    let v = c.visit-v.ensures.seen in (
      l.invariant.0,
      keeps_join l.invariant.1 c.visit-v.ensures.keeps,
      c.visit-v.ensures.notes ∙ l.invariant.2,
      record {
        outcome = v.outcome
            ∙ ap (λ (k : ℕ). pass_of T s.t s.e k (read l.v l.rows l.weights)) c.at.ensures
            ∙ ap (pass_of T s.t s.e (get_or T (8 + l.j) 0)) l.invariant.3.outcome
            ∙ sym (element-more T s.t s.e l.j (read s.w s.rows.now s.weights.now));
        kept = v.kept;
        flagged = v.flagged;
        noted = v.noted;
      },
    )

pub returns : goal.returns
returns c =
    let l = c.loop-j in
    let e : l.j ≡ get_or c.args.plan.now.words.now 0 0 = omega (arith, l.invariant.0, l.auto.j-end, c.loop-j-test.false) in
    record { keeps = l.invariant.1; notes = l.invariant.2; seen = rw (← e) l.invariant.3 }
