-- `single::turns` meets its contract: the words so far and the turns still to come give what all give, and the next turn is the least. Assumes nothing.
use mathlib.Core.Path.{sym, ap, ◌∙◌}
use Prim.Native.Nat.{ℕ, ◌+◌, ◌*◌}
use native.Mathlib.Omega.{arith}
use Rattle.rules.specs.Lists.{fold}
use Rattle.words.specs.Spans.{onward, fold-all, fold_next}
use Rattle.moving.specs.Words.{served_at}
use Rattle.single_laws.specs.Going.{soonest_onward}
use Rattle.single.proofs.turns.Goals as goal

-- the turn after those of the stop minute
abbrev past : ℕ → ℕ
past stop = (stop + 1) * 1024

pub loop-q-init : goal.loop-q-init
loop-q-init c =
    let a = c.args in
    let on = soonest_onward {end = past a.stop} c.requires.0 (omega arith) in
    (on.most, on.going, on.called, sym on.rest ∙ fold-all (served_at a.plan.now.tables.words.now) (past a.stop) a.run.now)

pub loop-q-smaller : goal.loop-q-smaller
loop-q-smaller c =
    let turn = c.in-Some.ensures in
    let on = soonest_onward {end = past c.args.stop} c.serve.ensures.going (omega (arith, turn.1)) in
    omega (arith, turn.0, turn.1, on.from)

pub loop-q-preserved : goal.loop-q-preserved
loop-q-preserved c =
    let loop = c.loop-q in
    let T = c.args.plan.now.tables.words.now in
    let end = past c.args.stop in
    let q = c.in-Some.q in
    let turn = c.in-Some.ensures in
    let on = soonest_onward {end = end} c.serve.ensures.going (omega (arith, turn.1)) in (
      on.most,
      on.going,
      on.called,
      sym on.rest
          ∙ ap (fold (served_at T) (onward end (q + 1))) c.serve.ensures.words
          ∙ sym (fold_next (served_at T) end q loop.run turn.1)
          ∙ ap (λ (r : ℕ). fold (served_at T) (onward end r) loop.run) turn.0
          ∙ loop.invariant.3,
    )
