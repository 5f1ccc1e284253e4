-- What the single run, the run and the listing answer: the C struct of an answer of 01, field by field. Assumes nothing: these are definitions.
use Rattle.std.specs.Prelude.{ℕ}
use Rattle.rules.specs.Refusals.{Refusal, Result}
use Rattle.rules.specs.Answers as answers
use Rattle.laying.specs.declared.Answer.{Answer}

-- the struct of an answer
abbrev pub struct_of : answers.Answer → Answer
struct_of a = record { refusal = a.refusal; file = a.file; place = a.place; value = a.value }

abbrev pub refused_with : Refusal → Answer
refused_with r = struct_of (answers.refused_with r)

abbrev pub answered : ℕ → Answer
answered v = struct_of (answers.answered v)

-- number of entries, or number of bytes
abbrev pub answer_of : Result ℕ → Answer
answer_of r = struct_of (answers.number_answer r)
