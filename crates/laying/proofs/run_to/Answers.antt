-- `laying::run_to` meets its contract: the tables are the case's, and the run on them is the joint run. Assumes nothing.
use mathlib.Core.Path.{refl, ◌∙◌}
use Prim.Native.Nat.{◌+◌, ◌*◌}
use native.Mathlib.Omega.{arith}
use Rattle.std.proofs.Common.{rules}
use lib.Seq.{length-take-le}
use Rattle.laying.specs.Rows.{room-few, stop-few, small-tables, ways_tables, run_ran}
use Rattle.laying.proofs.run_to.Goals as goal

pub overflow_mul-end : goal.overflow_mul-end
overflow_mul-end c =
    let b = c.requires.begins in
    let few = room-few c.args.case.now c.args.book.now c.args.stop b _ (c.fill.ensures.1 b.of b.accepted b.sizes) in
    omega (arith, c.at-room.ensures)

pub overflow_add-end : goal.overflow_add-end
overflow_add-end c =
    let b = c.requires.begins in
    let few = room-few c.args.case.now c.args.book.now c.args.stop b _ (c.fill.ensures.1 b.of b.accepted b.sizes) in
    omega (arith, c.at-room.ensures)

pub slice_bounds-run-end : goal.slice_bounds-run-end
slice_bounds-run-end c =
    let b = c.requires.begins in
    let few = room-few c.args.case.now c.args.book.now c.args.stop b _ (c.fill.ensures.1 b.of b.accepted b.sizes) in
    omega (arith, c.at-room.ensures)

pub slice_bounds-run-end-2 : goal.slice_bounds-run-end-2
slice_bounds-run-end-2 c =
    let b = c.requires.begins in
    let few = room-few c.args.case.now c.args.book.now c.args.stop b _ (c.fill.ensures.1 b.of b.accepted b.sizes) in
    omega (arith, c.at-room.ensures)

pub run-w-requires : goal.run-w-requires
run-w-requires c =
    let b = c.requires.begins in
    let looked = c.fill.ensures.1 b.of b.accepted b.sizes in
    let few = room-few c.args.case.now c.args.book.now c.args.stop b _ looked in
    let n = length-take-le (c.at-room.result * 2 + 2) c.args.list.now (omega (arith, c.at-room.ensures)) in (
      omega (arith, n, c.at-room.ensures),
      omega (arith, n, c.at-room.ensures),
      stop-few c.args.case.now c.args.book.now c.args.stop b _ looked,
      small-tables c.args.case.now c.args.book.now c.args.stop b _ looked
          (λ i. omega (arith, c.shared_slice_known-1.given i)) (λ i. omega (arith, c.shared_slice_known-2-1.given i)),
      ways_tables c.args.case.now c.args.book.now c.args.stop b _ looked,
      c.requires.none,
    )

pub returns-then-w-end : goal.returns-then-w-end
returns-then-w-end c =
    let b = c.requires.begins in
    let looked = c.fill.ensures.1 b.of b.accepted b.sizes in
    let few = room-few c.args.case.now c.args.book.now c.args.stop b _ looked in
    let n = length-take-le (c.at-room.result * 2 + 2) c.args.list.now (omega (arith, c.at-room.ensures)) in
    run_ran c.args.case.now c.args.book.now c.args.stop b _ looked
    (λ i. omega (arith, c.shared_slice_known-1.given i)) (λ i. omega (arith, c.shared_slice_known-2-1.given i)) _ _ _ c.run-w.ensures
    (search rules) (c.run-w.auto.rows ∙ n) (omega (arith, c.at-room.ensures)) (c.run-w.auto.weights ∙ (search rules))
    (λ q. refl) (λ f. absurd (f c.if-w-end.true))

pub returns : goal.returns
returns c =
    let b = c.requires.begins in
    let looked = c.fill.ensures.1 b.of b.accepted b.sizes in
    let few = room-few c.args.case.now c.args.book.now c.args.stop b _ looked in
    let n = length-take-le (c.at-room.result * 2 + 2) c.args.list.now (omega (arith, c.at-room.ensures)) in
    run_ran c.args.case.now c.args.book.now c.args.stop b _ looked
    (λ i. omega (arith, c.shared_slice_known-1.given i)) (λ i. omega (arith, c.shared_slice_known-2-1.given i)) _ _ _ c.run-w.ensures
    (search rules) (c.run-w.auto.rows ∙ n) (omega (arith, c.at-room.ensures)) (c.run-w.auto.weights ∙ (search rules))
    (λ q. absurd (c.if-w-end.false q)) (λ f. refl)
