-- `clearing::first_ended` meets its contract. The invariant: no row looked at so far goes. Assumes nothing.
use mathlib.Core.Path.{◌≡◌, sym, ◌∙◌}
use Prim.Native.Nat.{ℕ, ◌/◌}
use native.Mathlib.Omega.{arith}
use lib.ListN.{length}
use Rattle.rows.specs.Rows.{rows_of}
use Rattle.rows.specs.Written.{rows_in-all}
use Rattle.rows.specs.Swept.{first-at, first_absent, stay-more}
use Rattle.clearing.proofs.first_ended.Goals as goal

pub loop-i-init : goal.loop-i-init
unfolding rows_of
loop-i-init c = tt

pub returns-then-ended : goal.returns-then-ended
returns-then-ended c =
    let s = c.args in
    let at = c.loop-i in
    let n : ℕ = length s.rows.now / 2 in
    let all = rows_in-all n s.rows.now (omega arith) (omega arith) in
    record { found = (omega arith, rw all at (first-at s.t n s.rows.now (omega arith) at.i (omega arith) at.invariant (sym c.ended.ensures ∙ c.if-ended.true))); absent = tt }

pub loop-i-preserved : goal.loop-i-preserved
loop-i-preserved c =
    let s = c.args in
    let at = c.loop-i in
    stay-more s.t at.i s.rows.now (omega arith) at.invariant (sym c.ended.ensures ∙ c.if-ended.false)

pub returns : goal.returns
returns c =
    let s = c.args in
    let at = c.loop-i in
    let n : ℕ = length s.rows.now / 2 in
    let e : at.i ≡ n = omega arith in
    let all = rows_in-all n s.rows.now (omega arith) (omega arith) in
    record { found = tt; absent = rw all at (first_absent s.t n s.rows.now (omega arith) (rw (← e) at.invariant)) }
