-- `file_reader::read_case` meets its contract: the reading by offset agrees with 01's. Assumes nothing.
use Rattle.std.proofs.Common.{◌∙◌}
use Rattle.rules.specs.Files as files
use Rattle.file_reader.specs.Agree.{reading_agrees}
use Rattle.file_reader.proofs.read_case.Goals as goal

pub returns : goal.returns
returns c = c.read.ensures ∙ reading_agrees files.File.case _
