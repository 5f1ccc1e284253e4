-- `out_listing::not_arrived` meets its contract. The loop keeps what the first `t` minutes leave of the whole weight. Assumes nothing.
use Rattle.std.proofs.Common.{◌≡◌}
use Rattle.out_listing.specs.Text.{left_of}
use Rattle.out_listing.proofs.not_arrived.Given as goal

abbrev pub invariant-loop-t : goal.invariant-loop-t
invariant-loop-t l = l.rest ≡ left_of l.whole l.weights l.k l.t
