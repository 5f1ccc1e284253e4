-- `asking::first_reached` meets its contract. Assumes nothing.
use Rattle.std.proofs.Common.{◌≡◌, Bool, rules}
use Rattle.rows.specs.Rows.{Row}
use Rattle.asking.specs.Ask.{reach_of}
use Rattle.asking.specs.Reach.{found_by}
use Rattle.asking.proofs.first_reached.Goals as goal

pub returns : goal.returns
returns c = found_by (λ (x : Row) (b : Bool). reach_of c.args.key c.args.t x.state ≡ b) c.find.ensures (λ x b p. search rules)
