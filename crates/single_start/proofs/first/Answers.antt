-- `single_start::first` meets its contract: the trains so far have their first turns, and the others what they had. Assumes nothing.
use mathlib.Core.Path.{◌≡◌, refl, sym, ap, ◌∙◌, subst}
use mathlib.Core.Bool.{true}
use Prim.Native.Nat.{ℕ, ◌+◌, ◌<◌}
use native.Mathlib.Omega.{arith}
use lib.ListN.{length, set}
use Rattle.moving.specs.Words.{trains_in, order_in}
use Rattle.single_laws.specs.Moves.{RenewedTo, renewed_first, renewed_put}
use Rattle.single_start.proofs.first.Goals as goal

pub loop-i-init : goal.loop-i-init
loop-i-init c =
    let a = c.args in
    renewed_first a.plan.now.tables.words.now a.run.now 0 (λ z. true) a.asks.now

pub ask-requires : goal.ask-requires
ask-requires c =
    let plan = c.args.plan.now.planned in
    let i = c.loop-i.i in
    let here : i < trains_in c.args.plan.now.tables.words.now = omega (arith, c.at-n.ensures.0, c.loop-i-test.true) in
    let fits = c.requires.0 (order_in c.args.plan.now.tables.words.now i) (plan.known i here) in
    (omega (arith, here, plan.few), fits, omega arith)

pub loop-i-preserved : goal.loop-i-preserved
loop-i-preserved c =
    let loop = c.loop-i in
    let a = c.args in
    let i = loop.i in
    let low : i < length a.asks.now = omega (arith, c.at-n.ensures.0, c.loop-i-test.true, a.plan.now.planned.few, c.requires.1) in
    let written = c.put.ensures ∙ ap (set loop.asks i) c.ask.ensures in
    let next = renewed_put a.plan.now.tables.words.now a.run.now 0 (λ z. true) a.asks.now i loop.asks loop.invariant low refl in
    subst (RenewedTo a.plan.now.tables.words.now a.run.now 0 (λ z. true) a.asks.now (i + 1)) (sym written) next

pub shape_of-asks : goal.shape_of-asks
shape_of-asks c = c.loop-i.invariant.0

pub returns : goal.returns
returns c =
    let a = c.args in
    let all : c.loop-i.i ≡ trains_in a.plan.now.tables.words.now = omega (arith, c.at-n.ensures.0, c.loop-i-test.false) in
    subst (λ (m : ℕ). RenewedTo a.plan.now.tables.words.now a.run.now 0 (λ z. true) a.asks.now m c.loop-i.asks) all c.loop-i.invariant
