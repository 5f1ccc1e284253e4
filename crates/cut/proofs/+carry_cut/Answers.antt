-- `cut::carry` and `cut::cut` meet their contracts. The entries still to meet fall with each call that a cut makes (twice their number, and one more in `cut`),
-- and the loop of `cut` keeps `Cutting` over the outside pieces still to come; each return cites the law of its way. Assumes nothing.
use mathlib.Core.Path.{refl, ap}
use native.Mathlib.Omega.{arith}
use Rattle.cut.specs.Written.{room_after, wrote_held-length, wrote_entering_length}
use Rattle.cut.specs.Ahead.{ahead}
use Rattle.cut.proofs.Laws.{writes-none, writes-held, writes-enters, writes_meets, cutting_start, cutting_end, cutting_next}
use Rattle.cut.proofs.+carry_cut.Goals as goal

pub carry-returns-then-w-room : goal.carry-returns-then-w-room
carry-returns-then-w-room t c = writes-none _ _ _ _ _ c.if-w-room.true

pub carry-returns-then-meets-count : goal.carry-returns-then-meets-count
carry-returns-then-meets-count t c =
    let a = c.args in
    writes-held a.room a.meets.now.cap a.meets.now.met.now a.at a.count a.p a.w _ _ (omega arith) c.if-meets-count.true

pub carry-returns-in_default : goal.carry-returns-in_default
carry-returns-in_default t c =
    let a = c.args in
    let x = rw c.in_default.is at c.meeting.ensures in
    writes-enters a.room a.meets.now.cap a.meets.now.met.now a.at a.count a.p a.w _ _ _ c.if-meets-count.false refl (omega arith) x.0

pub carry-carry-inner-requires : goal.carry-carry-inner-requires
carry-carry-inner-requires t c = (omega arith, (c.requires.0, omega arith))

pub carry-cut-requires : goal.carry-cut-requires
carry-cut-requires t c = (
  omega arith,
  (
    room_after _ c.requires.0
        c.carry-inner.ensures,
    omega arith,
  ),
)

pub carry-returns : goal.carry-returns
carry-returns t c =
    let a = c.args in
    let x = rw c.in-Some.is at c.meeting.ensures in
    writes_meets a.room a.meets.now.cap a.meets.now.met.now a.at a.count a.p a.w _ _ _
    c.if-meets-count.false x.0 x.1 c.carry-inner.ensures (rw c.of-outsides.ensures at c.cut.ensures)

pub cut-loop-q-init : goal.cut-loop-q-init
cut-loop-q-init t c = cutting_start c.requires.0 (ap ahead c.into_iter-q-iterator.ensures.into_iter_gives)

pub cut-carry-z-requires : goal.cut-carry-z-requires
cut-carry-z-requires t c = (omega arith, (c.loop-q.invariant.space, omega arith))

pub cut-loop-q-preserved : goal.cut-loop-q-preserved
cut-loop-q-preserved t c = cutting_next c.loop-q.invariant c.in-Some.q (rw c.in-Some.is at c.next.ensures).steps c.carry-z.ensures

pub cut-shape_of-held : goal.cut-shape_of-held
cut-shape_of-held t c = wrote_held-length (cutting_end c.loop-q.invariant (rw c.in-None.is at c.next.ensures).steps.0)

pub cut-shape_of-entering : goal.cut-shape_of-entering
cut-shape_of-entering t c = wrote_entering_length (cutting_end c.loop-q.invariant (rw c.in-None.is at c.next.ensures).steps.0)

pub cut-returns : goal.cut-returns
cut-returns t c = cutting_end c.loop-q.invariant (rw c.in-None.is at c.next.ensures).steps.0
