-- What the definitions of a reading say, and what the code's answers say in their words. Assumes nothing: these are definitions.
use Rattle.std.specs.Prelude.{ℕ, Result, Ok, Err}
use Rattle.file_fields.specs.declared.refusals.Fault.{Fault}
use Rattle.file_fields.specs.Faults.{number_of}
use Rattle.file_reader.specs.declared.Seen.{Seen}
use Rattle.file_reader.specs.declared.Counts.{Counts}
use Rattle.file_reader.specs.declared.Misread.{Misread}

-- a field that is sound, with what has been seen after it, or the number of what is wrong with it
pub data Judged : Type 0 where
  Sound : Seen → Judged
  Unsound : ℕ → Judged

-- what a reading comes to: the counts of an accepted file, or a refusal's number and place
pub data Reading : Type 0 where
  Accepted : Counts → Reading
  Refused : ℕ → ℕ → Reading

-- a judgment by the code
abbrev pub judged_of : Result Seen Fault → Judged
judged_of (Ok s) = Sound s
judged_of (Err f) = Unsound (number_of f)

-- a reading by the code
abbrev pub told : Result Counts Misread → Reading
told (Ok c) = Accepted c
told (Err m) = Refused (number_of m.fault) m.place
