-- `crossing::across` and `crossing::cut_across` meet their contracts. The partner's entries still to meet fall with each call that a cut makes (twice their number, and
-- one more in `cut_across`), and the loop of `cut_across` keeps `Cutting` over the outside pieces still to come; each return cites the law of its way.
-- Assumes nothing.
use mathlib.Core.Path.{refl, sym, ap}
use native.Mathlib.Omega.{arith}
use Rattle.std.proofs.Common.{◌≡◌, ◌≤◌, length, take, List, ℕ, length-take-le}
use Rattle.cut.specs.Written.{room_after, wrote_held-length, wrote_entering_length}
use Rattle.cut.specs.Ahead.{ahead}
use Rattle.cut.proofs.Laws.{writes-none, cutting_start, cutting_end, cutting_next}
use Rattle.crossing.proofs.Crossed.{writes-passed, writes-inside}
use Rattle.crossing.proofs.+across_cut_across.Goals as goal

-- the partner's entries are as many as is said
partner-long : (met : List ℕ) (first : ℕ) → first ≤ length met → length (take first met) ≡ first
partner-long met first h = length-take-le first met h

pub across-returns-then-w-room : goal.across-returns-then-w-room
across-returns-then-w-room t c = writes-none _ _ _ _ _ c.if-w-room.true

pub across-slice_bounds-meeting-end : goal.across-slice_bounds-meeting-end
across-slice_bounds-meeting-end t c = sym (partner-long c.args.meets.now.met.now c.args.meets.now.first c.requires.2)

pub across-meeting-requires : goal.across-meeting-requires
across-meeting-requires t c = (omega arith, omega (arith, partner-long c.args.meets.now.met.now c.args.meets.now.first c.requires.2))

pub across-carry-requires : goal.across-carry-requires
across-carry-requires t c = (c.requires.0, omega arith)

pub across-returns-in_default : goal.across-returns-in_default
across-returns-in_default t c =
    let a = c.args in
    let x = rw c.in_default.is at c.meeting.ensures in
    writes-passed a.room a.meets.now.cap a.meets.now.met.now a.meets.now.first a.at a.p a.w _ _ _
    c.requires.2 refl (omega (arith, x.0, x.1, partner-long a.meets.now.met.now a.meets.now.first c.requires.2)) c.carry.ensures

pub across-carry-inside-requires : goal.across-carry-inside-requires
across-carry-inside-requires t c = (c.requires.0, omega arith)

pub across-overflow_add-i : goal.across-overflow_add-i
across-overflow_add-i t c =
    let x = rw c.in-Some.is at c.meeting.ensures in
    record { fits = omega (arith, x.1, partner-long c.args.meets.now.met.now c.args.meets.now.first c.requires.2) }

pub across-cut_across-requires : goal.across-cut_across-requires
across-cut_across-requires t c = (
  omega (arith, (rw c.in-Some.is at c.meeting.ensures).1, partner-long c.args.meets.now.met.now c.args.meets.now.first c.requires.2),
  (
    room_after _ c.requires.0
        c.carry-inside.ensures,
    omega (arith, (rw c.in-Some.is at c.meeting.ensures).1, partner-long c.args.meets.now.met.now c.args.meets.now.first c.requires.2),
    omega arith,
  ),
)

pub across-returns : goal.across-returns
across-returns t c =
    let a = c.args in
    let x = rw c.in-Some.is at c.meeting.ensures in
    writes-inside a.room a.meets.now.cap a.meets.now.met.now a.meets.now.first a.at a.p a.w _ _ _
    c.requires.2 x.0 (omega (arith, x.1, partner-long c.args.meets.now.met.now c.args.meets.now.first c.requires.2)) c.carry-inside.ensures (rw c.of-outsides.ensures at c.cut_across.ensures)

pub cut_across-loop-q-init : goal.cut_across-loop-q-init
cut_across-loop-q-init t c = cutting_start c.requires.0 (ap ahead c.into_iter-q-iterator.ensures.into_iter_gives)

pub cut_across-across-z-requires : goal.cut_across-across-z-requires
cut_across-across-z-requires t c = (omega arith, (c.loop-q.invariant.space, omega arith, omega arith))

pub cut_across-loop-q-preserved : goal.cut_across-loop-q-preserved
cut_across-loop-q-preserved t c = cutting_next c.loop-q.invariant c.in-Some.q (rw c.in-Some.is at c.next.ensures).steps c.across-z.ensures

pub cut_across-shape_of-held : goal.cut_across-shape_of-held
cut_across-shape_of-held t c = wrote_held-length (cutting_end c.loop-q.invariant (rw c.in-None.is at c.next.ensures).steps.0)

pub cut_across-shape_of-entering : goal.cut_across-shape_of-entering
cut_across-shape_of-entering t c = wrote_entering_length (cutting_end c.loop-q.invariant (rw c.in-None.is at c.next.ensures).steps.0)

pub cut_across-returns : goal.cut_across-returns
cut_across-returns t c = cutting_end c.loop-q.invariant (rw c.in-None.is at c.next.ensures).steps.0
