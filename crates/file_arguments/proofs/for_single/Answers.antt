-- `file_arguments::for_single` meets its contract: each return is one of the ways in which 01 answers. Assumes nothing.
use mathlib.Core.Path.{ap, sym, ◌∙◌}
use Rattle.std.proofs.lemmas.Result.{err_from_is_err_and}
use Rattle.file_lookup.specs.Told.{told}
use Rattle.file_arguments.specs.Laws.{single-files, single-choice, single-train, single-sound}
use Rattle.file_arguments.proofs.for_single.Goals as goal

pub returns-in_err-sizes : goal.returns-in_err-sizes
returns-in_err-sizes c =
    let p = err_from_is_err_and c.from_residual.result c.from_residual.ensures.1 in
    rw (p.1, p.2) (sym (ap told c.in_err-sizes.was) ∙ single-files _ _ c.read_files.ensures (ap told c.in_err-sizes.was) _ _)

pub returns-then-wrong_choice : goal.returns-then-wrong_choice
returns-then-wrong_choice c =
    rw c.nowhere.ensures (single-choice _ _ c.read_files.ensures (ap told c.in_ok-sizes.was) _ _ c.wrong_choice.ensures c.if-wrong_choice.true)

pub returns-then-sizes-train : goal.returns-then-sizes-train
returns-then-sizes-train c =
    rw c.nowhere-then-sizes-train.ensures
    (single-train _ _ c.read_files.ensures (ap told c.in_ok-sizes.was) _ _ c.wrong_choice.ensures c.if-wrong_choice.false c.if-sizes-train.true)

pub returns : goal.returns
returns c =
    sym (ap told c.in_ok-sizes.was)
    ∙ single-sound _ _ c.read_files.ensures (ap told c.in_ok-sizes.was) _ _ c.wrong_choice.ensures c.if-wrong_choice.false c.if-sizes-train.false
