-- `file_ways::track_code` meets its contract: the ends of the track are the stations of the two stops. Assumes nothing.
use Rattle.std.proofs.Common.{◌≡◌, ℕ, ◌+◌, ◌≤◌, ◌<◌, Option, Some, None, MatchOption, unwrap_or, sym, ap, ◌∙◌, arith}
use Rattle.file_tables.specs.Model.{stop_in}
use Rattle.file_ways.proofs.track_code.Goals as goal

-- what is found, or the number of all where nothing is
found_or : (r : Option ℕ) (n f : ℕ) → MatchOption r (f ≡ n) (λ j. (j ≡ f) × (j < n)) → (unwrap_or r n ≡ f) × (f ≤ n)
found_or None n f e = (sym e, omega arith)
found_or (Some j) n f e = (e.0, omega arith)

pub returns : goal.returns
unfolding stop_in
returns c =
    let n = c.args.tracks.count in
    let f = found_or c.track_from.result n _ c.track_from.ensures in
    let same = ap (λ (j : ℕ). 24 + j) (c.unwrap_or.ensures ∙ f.0) in
    (rw (← c.byte-from.ensures.0, ← c.byte-to.ensures.0) same, omega (arith, f, c.unwrap_or.ensures))
