-- `asking::first` meets its contract. Assumes nothing.
use Rattle.std.proofs.Common.{◌≡◌, Bool, rules}
use Rattle.rows.specs.Rows.{Row}
use Rattle.asking.specs.Ask.{asks_of}
use Rattle.asking.specs.Reach.{found_by}
use Rattle.asking.proofs.first.Goals as goal

pub returns : goal.returns
returns c = found_by (λ (x : Row) (b : Bool). asks_of c.args.tables.now c.args.turn.minute c.args.turn.place c.args.turn.train x.state ≡ b) c.find.ensures (λ x b p. search rules)
