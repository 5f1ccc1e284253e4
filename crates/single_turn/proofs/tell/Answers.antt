-- `single_turn::tell` meets its contract: of the trains so far those who wait have their turns anew, and the others what they had. Assumes nothing.
use mathlib.Core.Path.{◌≡◌, sym, ap, ◌∙◌, subst}
use Rattle.std.specs.Prelude.{Bool, true, false, ◌||◌, eqb}
use borrow.Author.Tests.{eq-eqb, ne_eqb}
use Prim.Native.Nat.{ℕ, ◌+◌, ◌<◌}
use native.Mathlib.Omega.{arith}
use lib.ListN.{length, get_or, set}
use Rattle.moving.specs.Words.{trains_in, order_in, turn_element}
use Rattle.single_laws.specs.Moves.{waits_for, RenewedTo, renewed_first, renewed_none, renewed_put, renewed_keep, waits-outside, waits_test}
use Rattle.single_turn.proofs.tell.Goals as goal
use Rattle.single_turn.proofs.tell.Goals.{then-e-left, then-e-left-via-then-e-left, then-e-left-via-else-e-left+then-e-other, else-e-left+else-e-other}

pub returns-then-left-ge-OUTSIDE : goal.returns-then-left-ge-OUTSIDE
returns-then-left-ge-OUTSIDE c =
    let a = c.args in
    let T = a.plan.now.tables.words.now in
    renewed_none T a.run.now a.q (waits_for T a.left) a.asks.now (λ z. waits-outside T a.left z c.if-left-ge-OUTSIDE.true)

pub beside-other-requires : goal.beside-other-requires
beside-other-requires c = c.if-left-ge-OUTSIDE.false

pub loop-i-init : goal.loop-i-init
loop-i-init c =
    let a = c.args in
    renewed_first a.plan.now.tables.words.now a.run.now a.q (waits_for a.plan.now.tables.words.now a.left) a.asks.now

pub ask-requires : goal.ask-requires
ask-requires c =
    let i = c.loop-i.i in
    let p = c.requires in
    let plan = c.args.plan.now.planned in
    let known : i < trains_in c.args.plan.now.tables.words.now = omega (arith, c.at-n.ensures.0, c.loop-i-test.true) in
    let fits = p.0 (order_in c.args.plan.now.tables.words.now i) (plan.known i known) in
    (omega (arith, known, plan.few), fits, p.2)

pub loop-i-preserved : goal.loop-i-preserved
loop-i-preserved c =
    let loop = c.loop-i in
    let a = c.args in
    let p = c.requires in
    let T = a.plan.now.tables.words.now in
    let i = loop.i in
    let z = c.at.result in
    let other = c.beside-other.result in
    let who = waits_for T a.left in
    let again = RenewedTo T a.run.now a.q who a.asks.now (i + 1) in
    let low : i < length a.asks.now = omega (arith, c.at-n.ensures.0, c.loop-i-test.true, a.plan.now.planned.few, p.1) in
    let waits : (b : Bool) → (eqb (turn_element z) a.left || eqb (turn_element z) other) ≡ b → who (get_or loop.asks i 0) ≡ b = λ b h.
    ap who (sym c.at.ensures) ∙ waits_test T a.left z other b c.if-left-ge-OUTSIDE.false c.beside-other.ensures h in
    elim c.if-e-left.branch [
      | then-e-left w ↦
          let told : (eqb (turn_element z) a.left || eqb (turn_element z) other) ≡ true =
          elim w.then-e-left.branch [
            | then-e-left-via-then-e-left v ↦ simp (eq-eqb _ _ v.if-e-left.true)
            | then-e-left-via-else-e-left+then-e-other v ↦ simp (ne_eqb _ _ v.if-e-left.false, eq-eqb _ _ v.if-e-other.true)
          ] in
          subst again (sym (w.asks-is ∙ w.put.ensures ∙ ap (set loop.asks i) w.ask.ensures)) (renewed_put T a.run.now a.q who a.asks.now i loop.asks loop.invariant low (waits true told))
      | else-e-left+else-e-other w ↦
          subst again (sym w.asks-is)
          (renewed_keep T a.run.now a.q who a.asks.now i loop.asks loop.invariant (waits false (simp (ne_eqb _ _ w.if-e-left.false, ne_eqb _ _ w.if-e-other.false))))
    ]

pub shape_of-asks : goal.shape_of-asks
shape_of-asks c = c.loop-i.invariant.0

pub returns : goal.returns
returns c =
    let a = c.args in
    let all : c.loop-i.i ≡ trains_in a.plan.now.tables.words.now = omega (arith, c.at-n.ensures.0, c.loop-i-test.false) in
    subst (λ (m : ℕ). RenewedTo a.plan.now.tables.words.now a.run.now a.q (waits_for a.plan.now.tables.words.now a.left) a.asks.now m c.loop-i.asks) all
    c.loop-i.invariant
