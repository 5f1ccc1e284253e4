-- `clearing::clear` meets its contract, by whether a row shows that it ends in this minute. Assumes nothing.
use native.Mathlib.Omega.{arith}
use Rattle.clearing.specs.Clearing.{clear_still, clear_done}
use Rattle.clearing.proofs.clear.Goals as goal

pub returns-then-notes-t-eq0 : goal.returns-then-notes-t-eq0
returns-then-notes-t-eq0 c =
    let s = c.args in
    let p = c.requires in
    clear_still s.tables.now s.t s.w s.rows.now s.notes.now p.0 p.1 p.3 p.4 c.if-notes-t-eq0.true

pub returns : goal.returns
returns c =
    let s = c.args in
    let p = c.requires in
    clear_done s.tables.now s.t s.w s.rows.now s.notes.now p.0 p.1 p.3 p.4 c.sweep-m.result _ _ (omega (arith, c.rows-1)) c.sweep-m.ensures.1 c.sweep-m.ensures.0.few c.sweep-m.ensures.0.list
