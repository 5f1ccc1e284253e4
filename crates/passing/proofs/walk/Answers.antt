-- `passing::walk` meets its contract. The invariant: both outputs have what comes of the first i rows. Assumes nothing.
use mathlib.Core.Path.{◌≡◌}
use Prim.Native.Nat.{◌+◌, ◌*◌, ◌/◌, ◌≤◌}
use native.Mathlib.Omega.{arith}
use lib.ListN.{length}
use lib.Seq.{slice}
use mathlib.Core.Bool.{false}
use Rattle.theory_lists.specs.Every.{Every}
use Rattle.rows.specs.Rows.{words, rows_of, rows_in, row_at}
use Rattle.rows.specs.Written.{rows_in-all}
use Rattle.theory_lists.specs.Writes.{put_length, put_fits}
use Rattle.asking.specs.Ask.{stirs_of}
use Rattle.serving.specs.Pass.{met_in}
use Rattle.serving.specs.Passing.{two_run, two-served, went-run, went-served, went-more}
use Rattle.serving.specs.Outputs.{two_none, two_bounds}
use borrow.Author.Rules.{rules}
use Rattle.passing.proofs.walk.Goals as goal

pub loop-j-init : goal.loop-j-init
unfolding words rows_of
loop-j-init c = (search rules, two_none _ _ _ (search rules), tt)

pub next-requires : goal.next-requires
next-requires c = (omega arith, search rules, search rules)

pub copy-requires : goal.copy-requires
copy-requires c =
    let b = two_bounds c.loop-j.invariant.1 in
    let x = rw c.in-Some.is at c.next.ensures in
    (omega (arith, x.0), omega (arith, x.1), b.place)

pub serve-ends-requires : goal.serve-ends-requires
serve-ends-requires c =
    let b = two_bounds c.loop-j.invariant.1 in
    let p = c.copy.ensures in
    (omega (arith, b.rows_length, put_length p), omega (arith, b.rows_length, put_length p), omega (arith, b.rows_length, put_length p), omega (arith, b.rows_length, b.entering_length, put_length p), put_fits p, omega (arith, b.rows_length, b.few, put_length p), search rules)

pub loop-j-smaller : goal.loop-j-smaller
loop-j-smaller c = let x = rw c.in-Some.is at c.next.ensures in omega (arith, x.0, x.1)

pub loop-j-preserved : goal.loop-j-preserved
loop-j-preserved c =
    let s = c.args in
    let l = c.loop-j in
    let x = rw c.in-Some.is at c.next.ensures in
    let j = c.in-Some.j in
    let test = stirs_of s.key s.minute s.u in
    let long : j * 2 + 2 ≤ length s.src.now = omega (arith, x.1) in (
      omega (arith, x.1),
      two-served test (met_in s.meets.now.cap s.meets.now.first s.meets.now.met.now) j s.src.now long x.3 (two_run test (met_in s.meets.now.cap s.meets.now.first s.meets.now.met.now) l.i j s.src.now x.0 (omega (arith, long)) x.2 l.invariant.1 c.copy.ensures) c.serve-ends.ensures.two,
      went-more test (met_in s.meets.now.cap s.meets.now.first s.meets.now.met.now) j s.src.now l.ends.moved c.serve-ends.result.moved long c.serve-ends.ensures.sub.0 (went-run test (met_in s.meets.now.cap s.meets.now.first s.meets.now.met.now) l.ends.moved l.i j s.src.now x.0 (omega (arith, long)) x.2 l.invariant.2) (went-served test (met_in s.meets.now.cap s.meets.now.first s.meets.now.met.now) (row_at s.src.now j) c.serve-ends.result.moved x.3 c.serve-ends.ensures.sub.1),
    )

pub overflow_mul-i-2 : goal.overflow_mul-i-2
overflow_mul-i-2 c = record { fits = omega arith }

pub copy-requires-2 : goal.copy-requires-2
copy-requires-2 c = (omega arith, omega arith, (two_bounds c.loop-j.invariant.1).place)

pub returns : goal.returns
returns c =
    let s = c.args in
    let l = c.loop-j in
    let n = length s.src.now / 2 in
    let all : rows_in n s.src.now ≡ rows_of s.src.now = rows_in-all n s.src.now (omega arith) (omega arith) in
    let x : Every (λ y. stirs_of s.key s.minute s.u y ≡ false) (rows_of (slice (l.i * 2) (n * 2) s.src.now)) = rw c.in_default.is at c.next.ensures in
    record { two = rw (← all) (two_run (stirs_of s.key s.minute s.u) (met_in s.meets.now.cap s.meets.now.first s.meets.now.met.now) l.i n s.src.now (omega arith) (omega arith) x l.invariant.1 c.copy-2.ensures); every = rw (← all) (went-run (stirs_of s.key s.minute s.u) (met_in s.meets.now.cap s.meets.now.first s.meets.now.met.now) l.ends.moved l.i n s.src.now (omega arith) (omega arith) x l.invariant.2) }
