-- What the code's outcomes say as answers of 01. Assumes nothing: these are definitions.
use Rattle.std.specs.Prelude.{ℕ, Result, Ok, Err}
use Rattle.rules.specs.Refusals as rules
use Rattle.file_fields.specs.declared.refusals.Refusal.{Refusal}
use Rattle.file_fields.specs.Faults.{number_of}
use Rattle.laying.specs.declared.Answer.{Answer}
use Rattle.laying.specs.Answers.{refused_with, answered}
use Rattle.laying.specs.Steps.{Fits}

-- the refusal of 01
abbrev pub refusal_of : Refusal → rules.Refusal
refusal_of r = record { number = number_of r.fault; file = r.file; place = r.place }

-- its numbers fit their places in an answer
abbrev pub InReach : Refusal → Type 0
InReach r = Fits (number_of r.fault) r.file r.place

-- a value, or a refusal, as an answer
abbrev pub answer_to : Result ℕ Refusal → Answer
answer_to (Ok v) = answered v
answer_to (Err r) = refused_with (refusal_of r)

-- a refusal's numbers fit
abbrev pub Reached : {A : Type 0} → Result A Refusal → Type 0
Reached (Ok a) = Unit
Reached (Err r) = InReach r
