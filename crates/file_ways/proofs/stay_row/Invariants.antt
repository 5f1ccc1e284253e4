-- `file_ways::stay_row` meets its contract: the walk from stop k on makes of the row what the whole walk makes of its start. Assumes nothing.
use mathlib.Core.Path.{◌≡◌}
use Prim.Native.Nat.{◌-◌, ◌+◌, ◌*◌}
use Rattle.file_tables.specs.Model.{tracks_from, stops_from, walk_stay, stay_row}
use Rattle.file_ways.proofs.stay_row.Given as goal

abbrev pub invariant-loop-k : goal.invariant-loop-k
invariant-loop-k l = walk_stay (tracks_from l.case l.tracks.count l.tracks.at) (stops_from l.case (l.n + 1 - l.k) (l.t + 5 * l.k)) l.row ≡ stay_row l.case (tracks_from l.case l.tracks.count l.tracks.at) l.t
