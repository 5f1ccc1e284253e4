-- `file_arguments::for_stop` meets its contract: each return is one of the ways in which 01 answers. Assumes nothing.
use mathlib.Core.Path.{ap, sym, ◌∙◌}
use Rattle.std.proofs.lemmas.Result.{err_from_is_err_and}
use Rattle.file_lookup.specs.Told.{told}
use Rattle.file_arguments.specs.Laws.{stop-files, stop-late, stop-sound}
use Rattle.file_arguments.proofs.for_stop.Goals as goal

pub returns-in_err-sizes : goal.returns-in_err-sizes
returns-in_err-sizes c =
    let p = err_from_is_err_and c.from_residual.result c.from_residual.ensures.1 in
    rw (p.1, p.2) (sym (ap told c.in_err-sizes.was) ∙ stop-files _ _ c.read_files.ensures (ap told c.in_err-sizes.was) _)

pub returns-then-word-minute : goal.returns-then-word-minute
returns-then-word-minute c = rw c.nowhere.ensures (stop-late _ _ c.read_files.ensures (ap told c.in_ok-sizes.was) _ c.word.ensures.0 c.if-word-minute.true)

pub returns : goal.returns
returns c = sym (ap told c.in_ok-sizes.was) ∙ stop-sound _ _ c.read_files.ensures (ap told c.in_ok-sizes.was) _ c.word.ensures.0 c.if-word-minute.false
