-- `file_ways::next_row` meets its contract: the walk from stop k on makes of the row what the whole walk makes of its start. Assumes nothing.
use mathlib.Core.Path.{◌≡◌}
use Prim.Native.Nat.{◌-◌, ◌+◌, ◌*◌}
use Rattle.file_tables.specs.Model.{tracks_from, stops_from, walk_next, next_row_of}
use Rattle.file_ways.proofs.next_row.Given as goal

abbrev pub invariant-loop-k : goal.invariant-loop-k
invariant-loop-k l = walk_next (tracks_from l.case l.tracks.count l.tracks.at) (stops_from l.case (l.n + 1 - l.k) (l.t + 5 * l.k)) l.row ≡ next_row_of l.case (tracks_from l.case l.tracks.count l.tracks.at) l.t
