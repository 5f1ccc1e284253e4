-- `file_reader::Reader::judge` meets its contract. Assumes nothing.
use Rattle.std.proofs.Common.{rules}
use Rattle.file_reader.specs.Laws.{field-fault}
use Rattle.file_reader.proofs.Reader.judge.Goals as goal

pub returns-in_err-field_verdict : goal.returns-in_err-field_verdict
returns-in_err-field_verdict c =
    let e = field-fault c.args.self.now.file.now c.args.self.now.book c.args.self.now.seen c.in_err-field_verdict.field-0.0 c.in_err-field_verdict.ensures in
    search rules
