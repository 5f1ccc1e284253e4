-- `file_plan::all_parts` meets its contract: four parts fill the list. Assumes nothing.
use mathlib.Core.Path.{refl, ◌∙◌, ap, ap₂}
use mathlib.Core.List.{◌++◌}
use lib.ListN.{length}
use Rattle.file_tables.specs.Model.{tracks_from, track_place, train_place}
use Rattle.file_tables.specs.Fills.{front-part-length, capacity-part-length, partner-part-length, four_parts}
use Rattle.file_tables.specs.Walks.{way-part-length}
use Rattle.file_plan.proofs.all_parts.Goals as goal

pub returns : goal.returns
returns c =
    let g = c.args in
    let few = c.requires in
    let cs = g.case.now in
    let bk = g.book.now in
    let z = g.z in
    let o = track_place z.stations in
    let t = train_place z.stations z.tracks in
    let front = c.front_part in
    let capacities = c.capacities in
    let ways = c.way_part in
    let partners = c.partners in
    four_parts g.out.now front.new.out capacities.new.out 176 64
    (ap length front.ensures ∙ front-part-length cs bk z.trains t few.2)
    (ap length capacities.ensures ∙ capacity-part-length cs z.stations z.tracks)
    ways.new.out 240 2048 refl
    (ap length ways.ensures ∙ way-part-length cs (tracks_from cs z.tracks o) z.trains t few.2)
    partners.new.out 2288 64 refl
    (ap length partners.ensures ∙ partner-part-length cs z.couples)
    few.4
    ∙ ap₂ ◌++◌ front.ensures (ap₂ ◌++◌ capacities.ensures (ap₂ ◌++◌ ways.ensures partners.ensures))
