-- `opening::first_train` meets its contract. The invariant: the rows of the first d delays are written. Assumes nothing.
use mathlib.Core.Path.{◌≡◌}
use Prim.Native.Nat.{◌+◌, ◌*◌}
use native.Mathlib.Omega.{arith}
use lib.ListN.{get_or}
use Rattle.theory_lists.specs.Writes.{put_none, put_join, put_fits, put_length}
use Rattle.rows.specs.Rows.{words}
use Rattle.opening.specs.First.{first_row}
use Rattle.opening.specs.Beginning.{train-none, train-more}
use Rattle.opening.proofs.first_train.Goals as goal

pub overflow_add-k : goal.overflow_add-k
overflow_add-k c = omega (arith, c.requires.1)

pub overflow_add-k-2 : goal.overflow_add-k-2
overflow_add-k-2 c = omega (arith, c.requires.1)

pub loop-d-init : goal.loop-d-init
loop-d-init c =
    let s = c.args in
    (c.at-n.ensures, c.at-arrival.ensures, rw (train-none s.tables.now s.k) (put_none s.rows.now s.w c.requires.2))

pub overflow_mul-k : goal.overflow_mul-k
overflow_mul-k c = omega (arith, c.requires.1)

pub overflow_add-k-in-loop-d : goal.overflow_add-k-in-loop-d
overflow_add-k-in-loop-d c = omega (arith, c.requires.1, c.loop-d.invariant.0, c.requires.0.delays c.args.k c.requires.1)

pub overflow_add-k-in-loop-d-2 : goal.overflow_add-k-in-loop-d-2
overflow_add-k-in-loop-d-2 c = omega (arith, c.requires.1, c.loop-d.invariant.0, c.requires.0.delays c.args.k c.requires.1)

pub first_cover-c-requires : goal.first_cover-c-requires
first_cover-c-requires c = (c.requires.0, omega (arith, c.loop-d.invariant.0, c.requires.0.delays c.args.k c.requires.1))

pub overflow_mul-k-in-loop-d : goal.overflow_mul-k-in-loop-d
overflow_mul-k-in-loop-d c = omega (arith, c.requires.1)

pub overflow_add-k-in-loop-d-3 : goal.overflow_add-k-in-loop-d-3
overflow_add-k-in-loop-d-3 c = omega (arith, c.requires.1)

pub overflow_add-arrival : goal.overflow_add-arrival
overflow_add-arrival c =
    let s = c.args in
    omega (arith, c.requires.1, c.loop-d.invariant.1, c.requires.0.words (32 + s.k), c.at-delay.ensures, c.requires.0.words (48 + (s.k * 8 + c.loop-d.d)))

pub overflow_add-k-in-loop-d-4 : goal.overflow_add-k-in-loop-d-4
overflow_add-k-in-loop-d-4 c =
    let s = c.args in
    omega (arith, c.requires.1, c.loop-d.invariant.1, c.requires.0.words (32 + s.k), c.at-delay.ensures, c.requires.0.words (48 + (s.k * 8 + c.loop-d.d)))

pub append-at-requires : goal.append-at-requires
append-at-requires c = put_fits c.loop-d.invariant.2

pub loop-d-preserved : goal.loop-d-preserved
unfolding first_row words
loop-d-preserved c =
    let s = c.args in
    let l = c.loop-d in
    let T = s.tables.now in
    let row_is = c.append-at.ensures in (
      l.invariant.0,
      l.invariant.1,
      rw (train-more T s.k l.d) (put_join l.invariant.2 (rw (l.invariant.1, c.at-delay.ensures, c.first_cover-c.ensures) at row_is)),
    )

pub shape_of-rows : goal.shape_of-rows
shape_of-rows c = put_length c.loop-d.invariant.2

pub returns : goal.returns
returns c =
    let l = c.loop-d in
    let e : l.d ≡ get_or c.args.tables.now (40 + c.args.k) 0 = omega (arith, l.invariant.0) in
    rw (← e) l.invariant.2
