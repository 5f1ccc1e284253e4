-- `clearing::mark` meets its contract. The invariant: of the first i rows those that are due wait. Assumes nothing.
use Prim.Native.Nat.{ℕ, ◌*◌, ◌/◌, ◌<◌}
use native.Mathlib.Omega.{arith}
use lib.ListN.{length, get_or}
use mathlib.Core.List.{List}
use Rattle.theory_lists.specs.Every.{Every}
use Rattle.rows.specs.Rows.{rows_of}
use Rattle.rows.specs.Written.{row_of, rows_in-all}
use Rattle.clearing.specs.Clearing.{marks-none, marks-more}
use Rattle.clearing.proofs.mark.Goals as goal

train : (i : ℕ) (rows : List ℕ) → i < length rows / 2 → Every (λ r. r.state / 524288 < 8) (rows_of rows) → get_or rows (i * 2) 0 / 524288 < 8
train i rows inside low =
    let n : ℕ = length rows / 2 in
    row_of (λ r. r.state / 524288 < 8) i n rows inside (omega arith) (rw (rows_in-all n rows (omega arith) (omega arith)) low)

pub loop-i-init : goal.loop-i-init
unfolding rows_of
loop-i-init c = marks-none c.args.tables.now c.args.t c.args.notes.now c.requires.0

pub call-requires : goal.call-requires
call-requires c =
    (c.requires.1, train c.loop-i.i c.args.rows.now (omega arith) c.requires.2)

pub loop-i-preserved : goal.loop-i-preserved
loop-i-preserved c =
    let s = c.args in
    let p = c.requires in
    let l = c.loop-i in
    rw c.call.ensures (marks-more s.tables.now s.t l.i s.rows.now s.notes.now l.notes (omega arith) p.1 (train l.i s.rows.now (omega arith) p.2) l.invariant)

pub returns : goal.returns
returns c = rw (rows_in-all c.loop-i.i c.args.rows.now (omega arith) (omega arith)) at c.loop-i.invariant
