-- `asking::meet` meets its contract: what its two calls gather stands one behind the other. Assumes nothing.
use Rattle.std.proofs.Common.{arith}
use Rattle.rows.specs.Rows.{rows_of}
use Rattle.asking.specs.Ask.{met_for}
use Rattle.asking.specs.Gathering.{gathered}
use Rattle.asking.proofs.meet.Goals as goal

pub returns : goal.returns
returns c =
    let q = c.args.q in
    let rows = rows_of c.args.rows.now in
    gathered (met_for q rows) c.meet_across-first.result c.meet_on-own.result
    c.meet_across-first.new.out c.meet_on-own.new.out
    c.meet_across-first.ensures.1 c.meet_on-own.ensures.1 (omega arith)
