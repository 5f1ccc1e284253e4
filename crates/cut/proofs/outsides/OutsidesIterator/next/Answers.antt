-- `next` of `cut::Outsides` meets its contract. Where something is lost, trains are left; each turn opens one turn of `outs`. Assumes nothing.
use mathlib.Core.Path.{◌≡◌, ◌∙◌, ap}
use mathlib.Core.List.{◌∷◌}
use native.Mathlib.Omega.{arith}
use Prim.Native.Nat.{ℕ, ◌+◌, ◌-◌, ◌/◌}
use lib.ListN.{length}
use borrow.Author.Rules.{rules}
use Rattle.cut.specs.Cut.{outs}
use Rattle.cut.specs.Ahead.{ahead}
use Rattle.cut.specs.Outside.{outs-nothing}
use Rattle.cut.proofs.Laws.{trains-left, next-within, outs-same, first-is}
use Rattle.cut.proofs.outsides.OutsidesIterator.next.Goals as goal

pub overflow_add-self : goal.overflow_add-self
overflow_add-self c =
    let s = c.loop-self.self in
    record { fits = omega (arith, trains-left s.common s.lost s.train s.within (omega arith)) }

pub invariant_of-self : goal.invariant_of-self
invariant_of-self c =
    let s = c.loop-self.self in
    record { within = next-within s.common s.lost s.train s.within (omega arith) }

pub outside-requires : goal.outside-requires
outside-requires c =
    let s = c.loop-self.self in
    (trains-left s.common s.lost s.train s.within (omega arith), s.within)

first-given : (c : goal.After-outside) → ahead c.args.self.now ≡ c.outside.result ∷ outs (8 - (c.loop-self.self.train + 1)) (c.loop-self.self.train + 1) c.loop-self.self.common (c.loop-self.self.lost / 256)
first-given c =
    let s = c.loop-self.self in
    c.loop-self.invariant ∙ first-is s.train s.common s.lost (trains-left s.common s.lost s.train s.within (omega arith)) c.if-lost-ne0.true c.outside.ensures

pub returns-then-lost-ne0-clause-steps : goal.returns-then-lost-ne0-clause-steps
returns-then-lost-ne0-clause-steps c = first-given c

pub returns-then-lost-ne0-clause-goes : goal.returns-then-lost-ne0-clause-goes
returns-then-lost-ne0-clause-goes c =
    let shorter = ap length (first-given c) in
    search rules

pub loop-self-preserved : goal.loop-self-preserved
loop-self-preserved c =
    let s = c.loop-self.self in
    c.loop-self.invariant ∙ outs-same s.train s.common s.lost (trains-left s.common s.lost s.train s.within (omega arith)) c.if-lost-ne0.false

pub returns-clause-steps : goal.returns-clause-steps
returns-clause-steps c =
    let s = c.loop-self.self in
    let none = ap (λ (d : ℕ). outs (8 - s.train) s.train s.common d) c.loop-self-test.false ∙ outs-nothing (8 - s.train) s.train s.common in
    (c.loop-self.invariant ∙ none, none)
