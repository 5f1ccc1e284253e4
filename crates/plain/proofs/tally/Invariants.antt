-- `plain::tally` meets its contract: the trains still to come add to what the trains before them have left. Assumes nothing.
use Rattle.std.proofs.Common.{◌≡◌, ℕ, ◌+◌, List, length, get_or}
use Rattle.rules.specs.Lists.{fold}
use Rattle.words.specs.Spans.{onward}
use Rattle.plain.specs.Words.{arrived_in, tallied_in}
use Rattle.plain.proofs.tally.Given as goal

-- what train k adds
abbrev pub step : List ℕ → ℕ → ℕ → List ℕ → List ℕ
step run weight k u = arrived_in k (get_or run (16 + k) 0) weight u

abbrev pub invariant-loop-k : goal.invariant-loop-k
invariant-loop-k l =
    (l.n ≡ get_or l.tables 0 0) × (length l.ws ≡ length l.initial.ws) × (fold (step l.run l.weight) (onward l.n l.k) l.ws ≡ tallied_in l.tables l.run l.weight l.initial.ws)
