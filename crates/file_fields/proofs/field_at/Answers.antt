-- `file_fields::field_at` meets its contract: each return is one case of the definition. Assumes nothing.
use mathlib.Core.Path.{sym}
use Rattle.file_fields.proofs.Laws.{field-ended, field-short, field_cut, field-whole}
use Rattle.file_fields.proofs.field_at.Goals as goal

pub returns-then-file-at : goal.returns-then-file-at
returns-then-file-at c = sym (field-ended _ _ c.if-file-at.true)

pub returns-then-file-at-lt3 : goal.returns-then-file-at-lt3
returns-then-file-at-lt3 c = sym (field-short _ _ c.if-file-at.false c.if-file-at-lt3.true)

pub returns-then-file-at-2 : goal.returns-then-file-at-2
returns-then-file-at-2 c = sym (field_cut _ _ c.if-file-at.false c.if-file-at-lt3.false c.word-size.ensures.0 c.if-file-at-2.true)

pub returns : goal.returns
returns c =
    sym (field-whole _ _ c.if-file-at.false c.if-file-at-lt3.false c.byte-tag.ensures.0 c.word-size.ensures.0 c.if-file-at-2.false)
