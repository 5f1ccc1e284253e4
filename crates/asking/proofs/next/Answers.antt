-- `asking::next` meets its contract. Assumes nothing.
use Rattle.std.proofs.Common.{◌≡◌, Bool, rules}
use Rattle.rows.specs.Rows.{Row}
use Rattle.asking.specs.Ask.{stirs_of}
use Rattle.asking.specs.Reach.{found_by}
use Rattle.asking.proofs.next.Goals as goal

pub returns : goal.returns
returns c = found_by (λ (x : Row) (b : Bool). stirs_of c.args.key c.args.t c.args.u x ≡ b) c.find.ensures (λ x b p. search rules)
