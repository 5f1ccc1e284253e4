-- `waiting::tell_all` meets its contract. The invariant: the pairs of the first k trains are told. Assumes nothing.
use mathlib.Core.Path.{◌≡◌}
use Rattle.waiting.specs.Notes.{told_all}
use Rattle.waiting.proofs.tell_all.Given as goal

abbrev pub invariant-loop-k : goal.invariant-loop-k
invariant-loop-k l = l.notes ≡ told_all l.k l.initial.notes l.e l.c
