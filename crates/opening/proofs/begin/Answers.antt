-- `opening::begin` meets its contract. The invariant: the rows of the first k trains are written. Assumes nothing.
use mathlib.Core.Path.{◌≡◌}
use native.Mathlib.Omega.{arith}
use lib.ListN.{get_or}
use Rattle.theory_lists.specs.Writes.{put_none, put_join, put_fits, put_length}
use Rattle.opening.specs.First.{first_rows}
use Rattle.opening.specs.Beginning.{trains-none, trains-more}
use Rattle.opening.proofs.begin.Goals as goal

pub loop-k-init : goal.loop-k-init
loop-k-init c =
    let s = c.args in
    (c.at-n.ensures, rw (trains-none s.tables.now) (put_none s.rows.now 0 (omega arith)))

pub first_train-at-requires : goal.first_train-at-requires
first_train-at-requires c = (c.requires, omega (arith, c.loop-k.invariant.0, c.requires.trains), put_fits c.loop-k.invariant.1)

pub loop-k-preserved : goal.loop-k-preserved
loop-k-preserved c =
    let s = c.args in
    let l = c.loop-k in
    (l.invariant.0, rw (trains-more s.tables.now l.k) (put_join l.invariant.1 c.first_train-at.ensures))

pub shape_of-rows : goal.shape_of-rows
shape_of-rows c = put_length c.loop-k.invariant.1

pub returns : goal.returns
unfolding first_rows
returns c =
    let l = c.loop-k in
    let e : l.k ≡ get_or c.args.tables.now 0 0 = omega (arith, l.invariant.0) in
    rw (← e) l.invariant.1
