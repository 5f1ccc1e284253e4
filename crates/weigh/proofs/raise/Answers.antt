-- `weigh::raise` meets its contract: past the end nothing is set. Assumes nothing.
use Rattle.std.proofs.Common.{◌+◌, ◌%◌, ◌^◌, get_or, sym, arith}
use lib.Seq.{set_out}
use Rattle.weigh.proofs.raise.Goals as goal

pub returns-else-j-weights : goal.returns-else-j-weights
returns-else-j-weights c = sym (set_out c.args.weights.now c.args.i ((get_or c.args.weights.now c.args.i 0 + c.args.x) % 2 ^ 64) (omega arith))
