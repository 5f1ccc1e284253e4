-- What a reading says of the next files of the input. Assumes nothing: these are definitions.
use Rattle.std.specs.Prelude.{Bool, false, ℕ, List, codes, nat_lt, leb, eqb, if◌then◌else◌, Result, Ok, Err}
use Rattle.file_input.specs.Reads.{Reading}
use Rattle.file_input.specs.Reads.Reading.{Whole, Failed}
use Rattle.tool_console.specs.declared.InputError.{InputError}
use Rattle.tool_console.specs.declared.InputError.TheVariants.{Unreadable, CutOff}

-- the reading brought all the bytes that were asked for
abbrev pub is_full : Reading → ℕ → Bool
is_full (Whole n) asked = leb asked n
is_full Failed asked = false

-- and where it did not, why
abbrev pub brought : Reading → ℕ → Result (Unit {0}) InputError
brought (Whole n) asked = if nat_lt n asked then Err CutOff else Ok tt
brought Failed asked = Err Unreadable

-- what is said of it
abbrev pub said_of : InputError → List ℕ
said_of Unreadable = codes "the input could not be read to its end"
said_of CutOff = codes "the input ends within a file"

-- the input had ended before the reading
abbrev pub is_empty : Reading → Bool
is_empty (Whole n) = eqb n 0
is_empty Failed = false
