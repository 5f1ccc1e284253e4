-- `file_lookup::nth_place` meets its contract: the fields still ahead answer for the whole file, and each turn passes one. Assumes nothing.
use Rattle.std.proofs.Common.{ℕ, Bool, ◌-◌, length}
use Rattle.file_lookup.specs.Lookup.{Tests}
use Rattle.file_lookup.specs.Search.{Ahead}
use Rattle.file_lookup.proofs.nth_place.Given as goal

abbrev pub invariant-loop-end : goal.invariant-loop-end
invariant-loop-end g l = (test : ℕ → Bool) → Tests (goal.F-post g l.passes) l.file test → Ahead test l.file l.fn.n l.left l.i

abbrev pub decreases-loop-end : goal.decreases-loop-end
decreases-loop-end g l = length l.file - l.i
