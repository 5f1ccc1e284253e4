-- `serving::serve` meets its contract: where the pieces use the room up, they leave no place in the rows; else all of them are written.
-- Assumes nothing.
use mathlib.Core.Path.{refl, sym}
use Prim.Native.Nat.{◌/◌}
use native.Mathlib.Omega.{arith}
use lib.ListN.{length, take}
use lib.Seq.{length-take-le}
use Rattle.std.proofs.Common.{take_all}
use Rattle.cut.specs.declared.Pieces.{Pieces}
use Rattle.cut.specs.Cut.{cut_by}
use Rattle.cut.specs.Written.{wrote_held-length}
use Rattle.quiet.specs.Parts.{sub_or_left, sub_or_right}
use Rattle.serving.specs.Pass.{met_in}
use Rattle.serving.specs.Pass.Went.{moves}
use Rattle.serving.specs.Outputs.{pieces-count, pieces-over, pieces_fit, pieces-went, moved-stays}
use borrow.Author.Rules.{rules}
use Rattle.serving.proofs.serve.Goals as goal

pub pieces-z-requires : goal.pieces-z-requires
pieces-z-requires c = (record { count = omega arith; held_long = omega arith; entering_long = omega arith }, search rules)

pub overflow_add-z : goal.overflow_add-z
overflow_add-z c =
    let s = c.args in
    omega (arith, pieces-count (length s.rows.now / 2) (record { held = 0; entering = s.so_far.entering }) (cut_by (met_in s.meets.now.cap s.meets.now.first s.meets.now.met.now) s.c) (record { count = omega arith; held_long = omega arith; entering_long = omega arith }) refl c.pieces-z.ensures)

pub returns-then-z-room : goal.returns-then-z-room
returns-then-z-room c =
    let s = c.args in
    record { two = pieces-over (length s.rows.now / 2) (record { held = 0; entering = s.so_far.entering }) (cut_by (met_in s.meets.now.cap s.meets.now.first s.meets.now.met.now) s.c) (record { count = omega arith; held_long = omega arith; entering_long = omega arith }) refl c.pieces-z.ensures s.rows.now s.s s.so_far.place (omega arith) (omega arith); sub = (sub_or_left s.so_far.moved s.c, moves (sub_or_right s.so_far.moved s.c)) }

pub slice_bounds-held-end : goal.slice_bounds-held-end
slice_bounds-held-end c =
    let s = c.args in
    omega (arith, pieces-count (length s.rows.now / 2) (record { held = 0; entering = s.so_far.entering }) (cut_by (met_in s.meets.now.cap s.meets.now.first s.meets.now.met.now) s.c) (record { count = omega arith; held_long = omega arith; entering_long = omega arith }) refl c.pieces-z.ensures, wrote_held-length c.pieces-z.ensures)

pub slice_bounds-held-end-2 : goal.slice_bounds-held-end-2
slice_bounds-held-end-2 c =
    let s = c.args in
    sym (length-take-le c.pieces-z.result.held c.pieces-z.new.held (omega (arith, pieces-count (length s.rows.now / 2) (record { held = 0; entering = s.so_far.entering }) (cut_by (met_in s.meets.now.cap s.meets.now.first s.meets.now.met.now) s.c) (record { count = omega arith; held_long = omega arith; entering_long = omega arith }) refl c.pieces-z.ensures, wrote_held-length c.pieces-z.ensures)))

pub returns : goal.returns
returns c =
    let s = c.args in
    let room = length s.rows.now / 2 in
    let w : Pieces = record { held = 0; entering = s.so_far.entering } in
    let pieces = cut_by (met_in s.meets.now.cap s.meets.now.first s.meets.now.met.now) s.c in
    let wrote = c.pieces-z.ensures in
    let some = c.if-z-room.false in
    let hs = take c.pieces-z.result.held c.pieces-z.new.held in
    let stays = moved-stays hs (length hs) _ _ _ c.moved_with-moved.ensures (omega arith) in
    let m = rw (take_all (length hs) hs (omega arith)) at stays in
    record { two = pieces_fit room w pieces (record { count = omega arith; held_long = omega arith; entering_long = omega arith }) refl wrote s.s s.so_far.place some (omega arith) c.hold-place.ensures; sub = (m.0, pieces-went room w pieces (record { count = omega arith; held_long = omega arith; entering_long = omega arith }) refl wrote s.s s.c c.moved_with-moved.result some m.1) }
