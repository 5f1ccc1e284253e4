-- `shift::text_for` meets its contract: the listing's text, or the line of its refusal. Assumes nothing.
use Rattle.std.proofs.Common.{ℕ, ◌∙◌, arith}
use Rattle.std.proofs.lemmas.List.{length-replicate}
use Rattle.shift.specs.Laws.{prints_listing, prints_line}
use Rattle.shift.proofs.text_for.Goals as goal

pub returns-then-a-ne0 : goal.returns-then-a-ne0
returns-then-a-ne0 c =
    prints_line c.args.case.now c.args.book.now _ _ c.args.text.now (omega (arith, length-replicate {A = ℕ} 16384 0)) (omega (arith, length-replicate {A = ℕ} 40320 0)) c.requires
    c.lampreysong_listing-a.ensures c.if-a-ne0.true (c.lampreysong_listing-a.auto.text ∙ c.requires) c.refused_line.ensures

pub returns : goal.returns
returns c =
    prints_listing c.args.case.now c.args.book.now _ _ c.args.text.now (omega (arith, length-replicate {A = ℕ} 16384 0)) (omega (arith, length-replicate {A = ℕ} 40320 0)) c.requires
    c.lampreysong_listing-a.ensures c.if-a-ne0.false
