-- `file_ways::next_row` meets its contract: the walk from stop k on makes of the row what the whole walk makes of its start. Assumes nothing.
use native.Mathlib.Omega.{arith}
use mathlib.Core.Path.{◌≡◌, ◌∙◌, ap}
use Prim.Native.Nat.{ℕ, ◌+◌, ◌*◌}
use lib.ListN.{set}
use Rattle.file_tables.specs.Walks.{next-holds, next_again, next-end, next-none}
use Rattle.file_ways.proofs.next_row.Goals as goal

pub loop-k-init : goal.loop-k-init
loop-k-init c =
    let e : c.args.t + 5 * 1 ≡ c.args.t + 5 = omega arith in
    rw e (next-holds _ _ _ _ _ c.stops_at-n.ensures.0 c.start_row.ensures)

pub loop-k-preserved : goal.loop-k-preserved
loop-k-preserved c =
    let l = c.loop-k in
    let e : c.args.t + 5 * (l.k + 1) ≡ c.args.t + 5 * l.k + 5 = omega arith in
    rw e (next_again _ _ c.stops_at-n.result l.k (c.args.t + 5 * l.k) _ _ _ (omega arith) l.invariant c.next_step.ensures)

pub returns-then-n-gt0 : goal.returns-then-n-gt0
returns-then-n-gt0 c =
    let l = c.loop-k in
    let e : c.args.t + 5 * c.stops_at-n.result ≡ c.args.t + 5 * l.k = omega arith in
    next-end _ _ c.stops_at-n.result l.k (c.args.t + 5 * l.k) _ _ _ (omega arith) l.invariant
    (c.put.ensures ∙ ap (λ (b : ℕ). set l.row b 64) (rw e at c.byte.ensures.0))

pub returns-else-n-gt0 : goal.returns-else-n-gt0
returns-else-n-gt0 c = next-none _ _ c.stops_at-n.result c.loop-k.k _ _ _ (omega arith) c.loop-k.invariant
