-- `elements::elements` meets its contract. The invariant: the first e elements have been visited. Assumes nothing.
use mathlib.Core.Path.{◌≡◌}
use Rattle.serving.specs.Pass.{Keeps}
use Rattle.visiting.specs.Visit.{read, Seen}
use Rattle.elements.specs.Elements.{elements_of}
use Rattle.elements.proofs.elements.Given as goal

abbrev pub invariant-loop-e : goal.invariant-loop-e
invariant-loop-e l =
    Keeps l.initial.work.bench l.work.bench
    × (l.work.notes.ghost_name ≡ l.initial.work.notes.ghost_name)
    × Seen l.plan.words.now l.t (elements_of l.plan.words.now l.t l.e (read l.w l.initial.rows l.initial.weights)) l.v l.rows l.weights l.work.notes.now
