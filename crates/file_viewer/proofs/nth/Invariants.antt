-- `file_viewer::nth` meets its contract: what is left to give, from the place reached, leads to the place that is asked for. Assumes nothing.
use Rattle.std.proofs.Common.{◌≡◌, ◌-◌}
use Rattle.rules.specs.Viewer.{place_from, place_of}
use Rattle.file_viewer.proofs.nth.Given as goal

abbrev pub invariant-loop : goal.invariant-loop
invariant-loop l =
    record { same_bytes : l.viewer.bytes.now ≡ l.file; leads : place_from (l.n - l.counter) l.file l.viewer.place ≡ place_of l.file l.n }
