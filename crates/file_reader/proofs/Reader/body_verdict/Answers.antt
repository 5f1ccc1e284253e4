-- `file_reader::Reader::body_verdict` meets its contract: its callees' requirements follow from the possible length. Assumes nothing.
use Rattle.std.proofs.Common.{◌≡◌, ℕ, length, ap, sym, ◌∙◌, arith}
use Rattle.file_bodies.specs.Bodies.{bad_length}
use Rattle.file_reader.specs.Laws.{train-length, table-length}
use Rattle.file_reader.proofs.Reader.body_verdict.Goals as goal

pub train_verdict-requires : goal.train_verdict-requires
train_verdict-requires c =
    let h = train-length (length c.args.body.now) (ap (λ (t : ℕ). bad_length t (length c.args.body.now)) (sym c.in-4.is) ∙ c.requires.2) in
    let w = c.args.self.now.within in
    omega arith

pub table_verdict-requires : goal.table_verdict-requires
table_verdict-requires c =
    let five : c.args.tag ≡ 5 = omega arith in
    let h = table-length (length c.args.body.now) (ap (λ (t : ℕ). bad_length t (length c.args.body.now)) (sym five) ∙ c.requires.2) in
    omega arith
