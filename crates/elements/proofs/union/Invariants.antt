-- `elements::union` meets its contract. The invariant: s has what stirred the pairs of the first k trains. Assumes nothing.
use mathlib.Core.Path.{◌≡◌}
use Rattle.elements.specs.Elements.{union_of}
use Rattle.elements.proofs.union.Given as goal

abbrev pub invariant-loop-k : goal.invariant-loop-k
invariant-loop-k l = l.s ≡ union_of l.k l.notes l.e
