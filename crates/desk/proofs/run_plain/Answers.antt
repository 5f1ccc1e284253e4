-- `desk::run_plain` meets its contract: the tables are the case's, and the choices of the part are run on them. Assumes nothing.
use native.Mathlib.Omega.{arith}
use Rattle.desk.specs.Plain.{plain_plotted, plain_ran}
use Rattle.desk.proofs.run_plain.Goals as goal

pub add_part-requires : goal.add_part-requires
add_part-requires c =
    let begins = c.requires.0 in
    let looked = c.fill.ensures.1 begins.of begins.accepted begins.sizes in
    plain_plotted c.args.case.now c.args.book.now c.args.stop begins _ looked
    (λ i. omega (arith, c.shared_slice_known-1.given i)) (λ i. omega (arith, c.shared_slice_known-2-1.given i))

pub returns : goal.returns
returns c =
    let begins = c.requires.0 in
    let looked = c.fill.ensures.1 begins.of begins.accepted begins.sizes in
    let added = c.add_part in
    plain_ran c.args.case.now c.args.book.now c.args.stop begins _ looked c.args.first c.args.most added.result c.args.ws.now
    c.requires.1 added.ensures.0 added.ensures.1
