-- `asking::find` meets its contract. The invariant: the test says no to each of the rows passed. Assumes nothing.
use Rattle.std.proofs.Common.{◌≡◌, ℕ, ◌+◌, ◌*◌, ◌/◌, ◌≤◌, List, [], ◌∷◌, length, arith}
use Rattle.std.proofs.Math.Seq.{slice, slice_empty}
use Rattle.theory_lists.specs.Every.{Every, every_append}
use Rattle.rows.specs.Rows.{Row, rows_of, row_at}
use Rattle.rows.specs.Written.{slice_rows-more}
use Rattle.asking.proofs.find.Goals as goal

-- what holds of the rows from row i to row j holds with row j too
every_next : (P : Row → Type 0) (i j : ℕ) (rows : List ℕ) → i ≤ j → j * 2 + 2 ≤ length rows → Every P (rows_of (slice (i * 2) (j * 2) rows)) → P (row_at rows j)
    → Every P (rows_of (slice (i * 2) ((j + 1) * 2) rows))
every_next P i j rows h long all here =
    rw (slice_rows-more i j rows h long) (every_append P (rows_of (slice (i * 2) (j * 2) rows)) (row_at rows j ∷ []) all (here, tt))

pub loop-j-init : goal.loop-j-init
unfolding rows_of
loop-j-init g c = rw (slice_empty (c.args.i * 2) c.args.rows.now) tt

pub returns-then-test : goal.returns-then-test
returns-then-test g c = record { found = (omega arith, omega arith, c.loop-j.invariant, rw c.if-test.true at c.test.ensures) }

pub loop-j-preserved : goal.loop-j-preserved
loop-j-preserved g c =
    every_next _ c.args.i c.loop-j.j c.args.rows.now (omega arith) (omega arith) c.loop-j.invariant (rw c.if-test.false at c.test.ensures)

pub returns : goal.returns
returns g c = let e : c.loop-j.j ≡ length c.args.rows.now / 2 = omega arith in record { found = rw (← e) c.loop-j.invariant }
