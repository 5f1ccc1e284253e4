-- `file_lookup::read_files` meets its contract: each return is one of the ways in which 01 answers for both files. Assumes nothing.
use Rattle.std.proofs.lemmas.Result.{err_from_is_err_and}
use Rattle.file_lookup.specs.Final.{told-case, told-book, told-types, told-sound}
use Rattle.file_lookup.proofs.read_files.Goals as goal

pub returns-in_err-counts : goal.returns-in_err-counts
returns-in_err-counts c =
    let p = err_from_is_err_and c.from_residual.result c.from_residual.ensures.1 in
    rw (p.1, p.2) (told-case _ _ _ c.read_case.ensures c.in_file.ensures c.in_err-counts.was)

pub returns-in_err-in_file : goal.returns-in_err-in_file
returns-in_err-in_file c =
    let p = err_from_is_err_and c.from_residual-in_err-in_file.result c.from_residual-in_err-in_file.ensures.1 in
    rw (p.1, p.2) (told-book _ _ _ c.read_case.ensures c.in_file.ensures c.in_ok-counts.was _ c.read_book.ensures c.in_file-2.ensures c.in_err-in_file.was)

pub returns-in-Some : goal.returns-in-Some
returns-in-Some c =
    told-types _ _ _ c.read_case.ensures c.in_file.ensures c.in_ok-counts.was _ c.read_book.ensures c.in_file-2.ensures c.in_ok-in_file.was c.lacking_at.ensures c.in-Some.is

pub returns : goal.returns
returns c =
    told-sound _ _ _ c.read_case.ensures c.in_file.ensures c.in_ok-counts.was _ c.read_book.ensures c.in_file-2.ensures c.in_ok-in_file.was c.lacking_at.ensures c.in_default.is
