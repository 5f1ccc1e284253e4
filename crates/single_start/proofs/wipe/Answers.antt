-- `single_start::wipe` meets its contract: the way from outside on, whose places so far are cleared. Assumes nothing.
use mathlib.Core.Path.{◌≡◌, sym, ap, ◌∙◌, subst}
use mathlib.Core.List.{List}
use Prim.Native.Nat.{ℕ, suc, ◌+◌, ◌*◌}
use native.Mathlib.Omega.{arith}
use lib.ListN.{get_or}
use lib.Seq.{get_or-set_same}
use Rattle.single_laws.specs.Trail.{way_in, Trod, Blank, Besides, besides_self, besides_block, besides_arrival, trod-next, trod-end, blank-arrival}
use Rattle.single_start.proofs.wipe.Goals as goal

pub loop-init : goal.loop-init
loop-init c =
    let a = c.args in
    let p = c.requires in
    (c.at-e.ensures.1, c.at-e.ensures.0, besides_self a.k a.run.now, p.2)

pub loop-preserved : goal.loop-preserved
loop-preserved c =
    let loop = c.loop in
    let a = c.args in
    let p = c.requires in
    let T = a.tables.now.words.now in
    let k = a.k in
    let v = loop.run in
    let e = loop.e in
    let j = loop.counter in
    let inv = loop.invariant in
    let put = c.put.ensures in
    let next : suc j ≡ j + 1 = omega arith in (
      c.at-e-in-loop.ensures.1,
      c.at-e-in-loop.ensures.0 ∙ ap (λ (u : ℕ). get_or T (240 + k * 128 + u) 0) inv.1 ∙ ap (way_in T k) next,
      subst (Besides k a.run.now) (sym put) (besides_block k p.0 a.run.now v inv.2 e),
      subst (λ (u : List ℕ). Trod T u k (j + 1) a.moves) (sym put) (trod-next T v k j a.moves e p.0 (inv.2.0 ∙ p.1) inv.1 inv.3),
    )

pub returns : goal.returns
returns c =
    let loop = c.loop in
    let a = c.args in
    let p = c.requires in
    let k = a.k in
    let v = loop.run in
    let inv = loop.invariant in
    let put = c.put-2.ensures in
    let blank : Blank v k = trod-end a.tables.now.words.now v k loop.counter a.moves c.loop-test.false inv.3 in (
      subst (Besides k a.run.now) (sym put) (besides_arrival k p.0 a.run.now v inv.2),
      subst (λ (u : List ℕ). Blank u k) (sym put) (blank-arrival v k p.0 blank),
      ap (λ (u : List ℕ). get_or u (16 + k) 0) put ∙ get_or-set_same v (16 + k) 0 0 (omega (arith, inv.2.0, p.0, p.1)),
    )
