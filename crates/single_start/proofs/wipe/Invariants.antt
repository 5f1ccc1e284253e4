-- `single_start::wipe` meets its contract: the way from outside on, whose places so far are cleared. Assumes nothing.
use mathlib.Core.Path.{◌≡◌}
use Prim.Native.Nat.{◌<◌}
use Rattle.single_laws.specs.Trail.{way_in, Trod, Besides}
use Rattle.single_start.proofs.wipe.Given as goal

abbrev pub invariant-loop : goal.invariant-loop
invariant-loop l = (l.e < 4294967296) × (l.e ≡ way_in l.tables.words.now l.k l.counter) × Besides l.k l.initial.run l.run × Trod l.tables.words.now l.run l.k l.counter l.moves
