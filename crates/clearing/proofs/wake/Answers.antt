-- `clearing::wake` meets its contract, by whether a row shows that it is due now. Assumes nothing.
use Rattle.rows.specs.Rows.{rows_of}
use Rattle.clearing.specs.Clearing.{wake_none, wake_marked, trains-low}
use Rattle.clearing.proofs.wake.Goals as goal

pub returns-then-notes-t-eq0 : goal.returns-then-notes-t-eq0
returns-then-notes-t-eq0 c =
    let s = c.args in
    let p = c.requires in
    (p.0, wake_none s.tables.now s.t s.notes.now (rows_of s.rows.now) p.2 p.3 p.4 p.0 c.if-notes-t-eq0.true)

pub mark-requires : goal.mark-requires
mark-requires c =
    let s = c.args in
    let p = c.requires in
    (p.0, p.2, trains-low s.tables.now s.t s.notes.now (rows_of s.rows.now) p.3)

pub returns : goal.returns
returns c =
    let s = c.args in
    let p = c.requires in
    (c.mark.ensures.flagged, wake_marked s.tables.now s.t s.notes.now (rows_of s.rows.now) p.2 p.3 p.4 _ c.mark.ensures)
