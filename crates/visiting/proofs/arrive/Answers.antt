-- `visiting::arrive` meets its contract, by whether a cover entered and whether the element is the train's last station. Assumes nothing.
use mathlib.Core.Path.{sym, ◌∙◌}
use lib.ListN.{length}
use Rattle.std.proofs.Common.{eqb-true}
use Rattle.std.proofs.lemmas.Bool.{eqb-false}
use Rattle.visiting.specs.Arriving.{arrived-none, arrived-other, arrived-there}
use Rattle.visiting.proofs.arrive.Goals as goal
use Rattle.visiting.proofs.arrive.Goals.{then-is_empty-via-then-is_empty, then-is_empty-via-else-is_empty+then-q-at}

pub returns-then-is_empty : goal.returns-then-is_empty
returns-then-is_empty c =
    let s = c.args in
    elim c.then-is_empty.branch [
      | then-is_empty-via-then-is_empty w ↦ arrived-none s.tables.now s.q s.covers.now s.weights.now (eqb-true (length s.covers.now) 0 (sym c.is_empty.ensures ∙ w.if-is_empty.true))
      | then-is_empty-via-else-is_empty+then-q-at w ↦ arrived-other s.tables.now s.q s.covers.now s.weights.now (λ e. w.if-q-at.true (e ∙ sym w.at.ensures))
    ]

pub returns : goal.returns
returns c =
    c.raise.ensures ∙ arrived-there c.args.tables.now c.args.q c.args.covers.now c.args.weights.now (eqb-false (length c.args.covers.now) 0 (sym c.is_empty.ensures ∙ c.if-is_empty.false)) (c.if-q-at.false ∙ c.at.ensures) c.brought-x.ensures
