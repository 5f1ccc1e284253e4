-- `clearing::enrol` meets its contract. The invariant: the minutes of the first i rows are shown. Assumes nothing.
use native.Mathlib.Omega.{arith}
use Rattle.rows.specs.Rows.{rows_of}
use Rattle.rows.specs.Written.{rows_in-all}
use Rattle.clearing.specs.Clearing.{enrols_none, enrols_more}
use Rattle.clearing.proofs.enrol.Goals as goal

pub loop-i-init : goal.loop-i-init
unfolding rows_of
loop-i-init c = enrols_none c.args.notes.now c.requires

pub loop-i-preserved : goal.loop-i-preserved
loop-i-preserved c =
    let l = c.loop-i in
    rw c.show.ensures (enrols_more l.i c.args.rows.now l.notes (omega arith) l.invariant)

pub returns : goal.returns
returns c = rw (rows_in-all c.loop-i.i c.args.rows.now (omega arith) (omega arith)) at c.loop-i.invariant
