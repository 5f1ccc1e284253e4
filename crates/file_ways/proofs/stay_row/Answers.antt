-- `file_ways::stay_row` meets its contract: the walk from stop k on makes of the row what the whole walk makes of its start. Assumes nothing.
use native.Mathlib.Omega.{arith}
use mathlib.Core.Path.{◌≡◌}
use Prim.Native.Nat.{◌+◌, ◌*◌}
use Rattle.std.proofs.Common.{rules}
use Rattle.file_tables.specs.Fills.{flat_all}
use Rattle.file_tables.specs.Walks.{stay-holds, stay_again, stay-end, stay_none}
use Rattle.file_ways.proofs.stay_row.Goals as goal

pub loop-k-init : goal.loop-k-init
loop-k-init c =
    let f = flat_all c.fill.new.self c.args.row.now 128 0 (search rules) (omega arith) in
    let e : c.args.t + 5 * 1 ≡ c.args.t + 5 = omega arith in
    rw e (stay-holds _ _ _ _ _ c.stops_at-n.ensures.0 f.1)

pub loop-k-preserved : goal.loop-k-preserved
loop-k-preserved c =
    let l = c.loop-k in
    let e : c.args.t + 5 * (l.k + 1) ≡ c.args.t + 5 * l.k + 5 = omega arith in
    rw e (stay_again _ _ c.stops_at-n.result l.k (c.args.t + 5 * l.k) _ _ _ _ (omega arith) l.invariant c.stay_stop.ensures c.stay_drive.ensures)

pub returns-then-n-gt0 : goal.returns-then-n-gt0
returns-then-n-gt0 c =
    let l = c.loop-k in
    let e : c.args.t + 5 * c.stops_at-n.result ≡ c.args.t + 5 * l.k = omega arith in
    stay-end _ _ c.stops_at-n.result l.k (c.args.t + 5 * l.k) _ _ _ (omega arith) l.invariant (rw e at c.stay_stop-then-n-gt0.ensures)

pub returns-else-n-gt0 : goal.returns-else-n-gt0
returns-else-n-gt0 c = stay_none _ _ c.stops_at-n.result c.loop-k.k _ _ _ (omega arith) c.loop-k.invariant
