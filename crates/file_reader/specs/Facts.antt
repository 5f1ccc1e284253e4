-- What stays true while a file is read. Assumes nothing.
use Rattle.std.specs.Prelude.{ℕ, ◌+◌, ◌*◌, ◌≤◌, List, length}
use Rattle.rules.specs.Files.{most_trains}
use Rattle.file_reader.specs.declared.Seen.{Seen}

-- the counts are in range, and the place is within the file and no further than the counts allow
pub record Within (l : List ℕ) (s : Seen) : Type 0 where
  pub inside : s.at ≤ length l
  pub one_head : s.heads ≤ 1
  pub few_stations : s.counts.stations ≤ 24
  pub few_tracks : s.counts.tracks ≤ 40
  pub few_trains : s.counts.trains ≤ most_trains
  pub few_tables : s.counts.tables ≤ 8
  pub few_couples : s.counts.couples ≤ 20
  pub near : s.at ≤ 8 * s.heads + 4 * s.counts.stations + 6 * s.counts.tracks + 45 * s.counts.trains + 20 * s.counts.tables + 5 * s.counts.couples
  pub behind : 5 * s.counts.couples ≤ s.at
