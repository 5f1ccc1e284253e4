-- `stirring::served` meets its contract, by `served_law` from what its four calls ensure. Assumes nothing.
use mathlib.Core.Path.{◌≡◌, sym, ◌∙◌}
use Prim.Native.Nat.{◌+◌, ◌*◌}
use native.Mathlib.Omega.{arith}
use lib.ListN.{get_or}
use Rattle.asking.specs.Ask.{asks_of, reach_of, job_of}
use Rattle.rows.specs.Rows.{rows_in}
use Rattle.rows.specs.Written.{row_of}
use Rattle.serving.specs.Passing.{lent-space}
use Rattle.waiting.specs.Calm.{Settled}
use Rattle.waiting.specs.Notes.{stir_in, asked_in}
use Rattle.waiting.specs.Telling.{stir-is}
use Rattle.visiting.specs.Settling.{job_stands}
use Rattle.visiting.specs.Visiting.{served_law, asked_is}
use Rattle.stirring.proofs.served.Goals as goal

pub pass-z-requires : goal.pass-z-requires
unfolding job_of
pass-z-requires c =
    record { space = lent-space c.requires.lent; n_in_bounds = (c.requires.first_lt_n.1, omega (arith, c.requires.first_lt_n.0), c.requires.flagged.2.low, rw c.assign-q.ensures (omega (arith, c.requires.within.minute)), rw c.assign-q.ensures c.requires.first_lt_n.2) }

pub arrive-requires : goal.arrive-requires
unfolding job_of
arrive-requires c =
    (c.args.plan.now.small, rw c.assign-q.ensures c.requires.within.train, rw c.assign-q.ensures c.requires.within.minute)

pub settle-requires : goal.settle-requires
unfolding job_of
settle-requires c =
    let s = c.args in
    rw c.assign-q.ensures
    (c.requires.flagged.0, c.args.plan.now.ways, c.requires.within.train, omega (arith, c.requires.within.place), omega arith, omega (arith, job_stands s.plan.now.words.now s.turn.minute s.turn.place s.turn.train (get_or s.rows.now (s.first.row * 2) 0) c.requires.within c.args.plan.now.small c.args.plan.now.ways, c.requires.within.train))

pub returns-clause-keeps : goal.returns-clause-keeps
returns-clause-keeps c =
    let k = c.pass-z.ensures.keeps in
    record { rows = k.rows; met = k.met; held = k.held; entering = k.entering; rows_long = k.rows_long; met_long = k.met_long; held_long = k.held_long; entering_long = omega (arith, k.entering_long) }

pub returns-clause-seen : goal.returns-clause-seen
unfolding job_of
returns-clause-seen c =
    let s = c.args in
    let T = s.plan.now.words.now in
    let x = get_or s.rows.now (s.first.row * 2) 0 in
    let less = c.requires.first_lt_n.0 in
    let long = c.requires.first_lt_n.1 in
    let keyed = c.requires.flagged.2 in
    let reach = c.requires.first_lt_n.3 in
    let asks = row_of (λ r. asks_of T s.turn.minute s.turn.place s.turn.train r.state ≡ reach_of s.first.key s.turn.minute r.state) s.first.row s.n s.rows.now less (omega (arith, long)) keyed.asks ∙ reach in
    let asked = asked_is T s.turn.minute s.turn.place s.turn.train s.first.row s.n s.rows.now less (omega (arith, long)) asks in
    let u = c.requires.flagged.3 ∙ sym (stir-is s.work.now.notes.now (s.turn.train * 128 + s.turn.place) (omega (arith, c.requires.within.place, c.requires.within.train))) in
    let near = (row_of (Settled T (s.turn.minute + 1) (stir_in s.work.now.notes.now) (asked_in s.work.now.notes.now) (rows_in s.n s.rows.now)) s.first.row s.n s.rows.now less (omega (arith, long)) c.requires.flagged.1.calm).place in
    let q = c.assign-q.ensures in
    served_law T s.turn.minute s.turn.place s.turn.train s.n x s.rows.now s.weights.now s.work.now.notes.now c.requires.within c.args.plan.now.small c.args.plan.now.ways c.requires.lent.rows_are long asked near asks c.requires.flagged.0 c.requires.flagged.1 s.first.key keyed reach c.pass-z.result.moved _ _ _ _ c.pass-z.result (omega (arith, c.rows-1)) (rw (q, u) at c.pass-z.ensures.passed) (rw (q, u) at c.pass-z.ensures.every) (rw q at c.arrive.ensures) (rw q at c.settle.ensures)
