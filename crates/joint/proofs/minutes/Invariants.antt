-- `joint::minutes` meets its contract. The invariant: the minutes before t have passed. Assumes nothing.
use mathlib.Core.Path.{◌≡◌}
use Prim.Native.Nat.{◌<◌}
use lib.ListN.{length, take}
use Rattle.rows.specs.Rows.{rows_of}
use Rattle.serving.specs.Pass.{Keeps}
use Rattle.waiting.specs.Notes.{Flagged}
use Rattle.visiting.specs.Visit.{read, Kept}
use Rattle.clearing.specs.Clear.{Due}
use Rattle.entries.specs.Run.{minutes_of}
use Rattle.joint.proofs.minutes.Given as goal

abbrev pub invariant-loop-t : goal.invariant-loop-t
invariant-loop-t l =
    Keeps l.initial.work.bench l.work.bench ×
    (read l.v l.rows l.weights ≡ minutes_of l.plan.words.now l.t (read l.w l.initial.rows l.initial.weights)) × Kept l.v l.rows × Flagged l.work.notes.now
    × (l.v < length l.rows → Due l.plan.words.now l.t l.work.notes.now (rows_of (take l.v l.rows)))
