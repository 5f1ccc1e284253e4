-- What reading case and book comes to, and what the code's answer says in these words. Assumes nothing: these are definitions.
use Rattle.std.specs.Prelude.{ℕ, Result, Ok, Err}
use Rattle.file_fields.specs.declared.refusals.Refusal.{Refusal}
use Rattle.file_fields.specs.Faults.{number_of}
use Rattle.file_lookup.specs.declared.Sizes.{Sizes}

-- case and book: accepted, or refused with a number, the file (0 case, 1 book) and a place
pub data Files : Type 0 where
  Sound : Sizes → Files
  Unsound : ℕ → ℕ → ℕ → Files

-- case and book, read by the code
abbrev pub told : Result Sizes Refusal → Files
told (Ok s) = Sound s
told (Err r) = Unsound (number_of r.fault) r.file r.place
