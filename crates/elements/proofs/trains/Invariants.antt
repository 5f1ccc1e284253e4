-- `elements::trains` meets its contract. The invariant: the first j trains in order have passed. Assumes nothing.
use mathlib.Core.Path.{◌≡◌}
use lib.ListN.{get_or}
use Rattle.serving.specs.Pass.{Keeps}
use Rattle.visiting.specs.Visit.{read, Seen}
use Rattle.elements.specs.Elements.{element_of}
use Rattle.elements.proofs.trains.Given as goal

abbrev pub invariant-loop-j : goal.invariant-loop-j
invariant-loop-j l =
    (l.n ≡ get_or l.plan.words.now 0 0) × Keeps l.initial.work.bench l.work.bench
    × (l.work.notes.ghost_name ≡ l.initial.work.notes.ghost_name)
    × Seen l.plan.words.now l.t (element_of l.plan.words.now l.t l.e l.j (read l.w l.initial.rows l.initial.weights)) l.v l.rows l.weights l.work.notes.now
