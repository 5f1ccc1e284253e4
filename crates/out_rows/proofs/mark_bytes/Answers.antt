-- `out_rows::mark_bytes` meets its contract: each byte is what `mark_of` says. Assumes nothing.
use Rattle.std.proofs.Common.{◌/◌, ◌%◌, arith}
use native.Mathlib.Nat.{div-one}
use Rattle.out_images.specs.Rows.{mark_bytes}
use Rattle.theory_codes.specs.Codes.{mark_of}
use Rattle.out_images.proofs.Laws.{marks_block}
use Rattle.out_rows.proofs.mark_bytes.Goals as goal

pub returns : goal.returns
unfolding mark_bytes mark_of
returns c =
    rw (c.kind_and_number-kind.ensures, c.to_be_bytes.ensures, marks_block (c.args.s / 2048 % 2) (omega arith), div-one (c.args.s % 2048))
