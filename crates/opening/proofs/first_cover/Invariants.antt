-- `opening::first_cover` meets its contract. The invariant: the bytes of the trains from j on are packed. Assumes nothing.
use mathlib.Core.Path.{◌≡◌}
use Prim.Native.Nat.{◌-◌, ◌^◌, ◌≤◌, ◌<◌}
use Rattle.opening.specs.First.{first_bytes}
use Rattle.opening.proofs.first_cover.Given as goal

abbrev pub invariant-loop-j : goal.invariant-loop-j
invariant-loop-j l = (l.c ≡ first_bytes l.tables l.k l.d (8 - l.j) l.j) × (l.c < 256 ^ (8 - l.j))
