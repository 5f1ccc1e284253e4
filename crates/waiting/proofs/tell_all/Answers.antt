-- `waiting::tell_all` meets its contract. The invariant: the pairs of the first k trains are told. Assumes nothing.
use mathlib.Core.Path.{◌≡◌, refl, ap, ◌∙◌}
use Prim.Native.Nat.{◌+◌, ◌*◌}
use native.Mathlib.Omega.{arith}
use Rattle.waiting.specs.Notes.{told_of, told_all}
use Rattle.waiting.specs.Telling.{told_all-more}
use Rattle.waiting.proofs.tell_all.Goals as goal

pub loop-k-init : goal.loop-k-init
unfolding told_all
loop-k-init c = refl

pub loop-k-preserved : goal.loop-k-preserved
loop-k-preserved c =
    let s = c.args in
    let l = c.loop-k in
    c.tell.ensures ∙ ap (λ x. told_of x (l.k * 128 + s.e) s.c) l.invariant ∙ told_all-more l.k s.notes.now s.e s.c

pub returns : goal.returns
returns c =
    let s = c.args in
    let e : c.loop-k.k ≡ 8 = omega arith in
    c.loop-k.invariant ∙ ap (λ x. told_all x s.notes.now s.e s.c) e
