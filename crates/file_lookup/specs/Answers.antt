-- What 01 says of case and book together, in the code's answers: the paper's number, file and place, or how large the case is; and what
-- a part of a file must be to be the table of a train. Assumes nothing: these are definitions.
use Rattle.std.specs.Prelude as rt
use Rattle.std.specs.Prelude.{◌≡◌, Ok, Err, List, [], ◌∷◌, ℕ, ◌+◌, ◌<◌, length, get_or}
use Rattle.rules.specs.Refusals.{Result}
use Rattle.rules.specs.Refusals.Result.{refused, answer}
use Rattle.rules.specs.Files.{Contents, Case, Table, byte, table_of, read, tables_of, files}
use Rattle.rules.specs.Files.File.{case, book}
use Rattle.file_fields.specs.declared.refusals.Refusal.{Refusal}
use Rattle.file_reader.specs.declared.Counts.{Counts}
use Rattle.file_reader.specs.declared.Misread.{Misread}
use Rattle.file_reader.specs.Told.{Reading}
use Rattle.file_reader.specs.Told.Reading.{Accepted, Refused}
use Rattle.file_lookup.specs.Lookup.{table_bytes, train_place}
use Rattle.file_lookup.specs.declared.Sizes.{Sizes}
use Rattle.file_lookup.specs.Told.{Files}
use Rattle.file_lookup.specs.Told.Files.{Sound, Unsound}

abbrev pub sizes_of : Case → Sizes
sizes_of C = record { stations = length C.stations; tracks = length C.tracks; trains = length C.trains; couples = length C.couples }

abbrev pub files_of : Result Case → Files
files_of (refused r) = Unsound r.number r.file r.place
files_of (answer C) = Sound (sizes_of C)

-- a reading that was refused, of file f
abbrev pub of_file : ℕ → Reading → Files
of_file f (Accepted s) = Unsound 0 0 0
of_file f (Refused n i) = Unsound n f i

-- a reading by the code, of file f
abbrev pub in_file : ℕ → rt.Result Counts Misread → rt.Result Counts Refusal
in_file f (Ok c) = Ok c
in_file f (Err m) = Err (record { fault = m.fault; file = f; place = m.place })

-- of the tables of a type the bytes b are the first, and nothing where there is none
abbrev pub IsFirst : List Table → List ℕ → Type 0
IsFirst [] b = b ≡ []
IsFirst (d ∷ ds) b = table_of b ≡ d

-- what a lookup gives: the bytes found by walking the files, which of accepted files are those of 01's table
pub record Looked (cs bk : List ℕ) (t : ℕ) (b : List ℕ) : Type 0 where
  pub bytes : b ≡ table_bytes cs bk t
  pub first : (c k : Contents) → read case cs ≡ answer c → read book bk ≡ answer k → IsFirst (tables_of c k t) b

-- what a lookup for train k gives: in a sound case its pairs are the train's
pub record TrainTable (cs bk : List ℕ) (k : ℕ) (b : List ℕ) : Type 0 where
  pub bytes : b ≡ table_bytes cs bk (byte cs (train_place cs k + 4))
  pub pairs : (C : Case) → files cs bk ≡ answer C → k < length C.trains → (table_of b).pairs ≡ get_or C.tables k []
