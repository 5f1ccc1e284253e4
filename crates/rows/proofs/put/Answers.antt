-- `rows::put` meets its contract: past the end nothing is written. Assumes nothing.
use native.Mathlib.Omega.{arith}
use Rattle.theory_lists.specs.Writes.{put_full}
use Rattle.rows.proofs.put.Goals as goal

pub returns : goal.returns
returns c = put_full _ _ _ _ (omega arith) (omega arith)
