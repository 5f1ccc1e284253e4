-- `elements::union` meets its contract. The invariant: s has what stirred the pairs of the first k trains. Assumes nothing.
use mathlib.Core.Path.{◌≡◌, refl, ap, ◌∙◌}
use Prim.Native.Nat.{◌+◌, ◌*◌}
use native.Mathlib.Omega.{arith}
use lib.ListN.{get_or}
use lib.Bits.{bit_or}
use Rattle.elements.specs.Elements.{union_of}
use Rattle.elements.specs.Turning.{union_more}
use Rattle.elements.proofs.union.Goals as goal

pub loop-k-init : goal.loop-k-init
unfolding union_of
loop-k-init c = refl

pub loop-k-preserved : goal.loop-k-preserved
loop-k-preserved c =
    ap (λ x. bit_or x (get_or c.args.notes.now (c.loop-k.k * 128 + c.args.e) 0)) c.loop-k.invariant ∙ union_more c.loop-k.k c.args.notes.now c.args.e

pub returns : goal.returns
returns c = let e : c.loop-k.k ≡ 8 = omega arith in c.loop-k.invariant ∙ ap (λ x. union_of x c.args.notes.now c.args.e) e
