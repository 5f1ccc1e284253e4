-- What a reading of 01 comes to in the code's answer: the paper's number and place, or how many fields of each kind there are.
-- Assumes nothing: these are definitions.
use Rattle.std.specs.Prelude.{length}
use Rattle.rules.specs.Refusals.{Result}
use Rattle.rules.specs.Refusals.Result.{refused, answer}
use Rattle.rules.specs.Files.{Contents}
use Rattle.file_reader.specs.declared.Counts.{Counts}
use Rattle.file_reader.specs.Told.{Reading}
use Rattle.file_reader.specs.Told.Reading.{Accepted, Refused}

abbrev pub counts_of : Contents → Counts
counts_of c = record {
  stations = length c.stations;
  tracks = length c.tracks;
  trains = length c.trains;
  tables = length c.tables;
  couples = length c.couples;
}

abbrev pub reading_of : Result Contents → Reading
reading_of (refused r) = Refused r.number r.place
reading_of (answer c) = Accepted (counts_of c)
