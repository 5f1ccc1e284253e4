-- `file_plan::fill` meets its contract: of an accepted case the sizes are within the limits, and the parts are its tables. Assumes nothing.
use Rattle.std.proofs.Common.{inl, inr}
use native.Mathlib.Omega.{arith}
use borrow.Author.Tests.{lt-ltb, le-ltb}
use mathlib.Core.Path.{◌∙◌}
use Rattle.file_plan.specs.Agree.{sizes-few, sizes-tables}
use Rattle.file_plan.proofs.fill.Goals as goal

pub returns-then-sizes-gt24 : goal.returns-then-sizes-gt24
returns-then-sizes-gt24 c = (
  elim c.then-sizes-gt24.either [
    | inl h ↦ rw (lt-ltb _ _ h)
    | inr (inl h) ↦ rw (le-ltb _ _ h.0, lt-ltb _ _ h.1)
    | inr (inr (inl h)) ↦ rw (le-ltb _ _ h.0, le-ltb _ _ h.1, lt-ltb _ _ h.2)
    | inr (inr (inr h)) ↦ rw (le-ltb _ _ h.0, le-ltb _ _ h.1, le-ltb _ _ h.2, lt-ltb _ _ h.3)
  ],
  λ C h e.
      let few = sizes-few _ _ C h _ e in
      absurd (omega arith),
)

pub returns : goal.returns
returns c = (
  rw (
    le-ltb _ _ c.if-sizes-gt24.false,
    le-ltb _ _ c.if-sizes-gt40.false,
    le-ltb _ _ c.if-sizes-gt8.false,
    le-ltb _ _ c.if-sizes-gt20.false,
  ) c.all_parts.ensures,
  λ C h e. c.all_parts.ensures ∙ sizes-tables _ _ C h _ e,
)
