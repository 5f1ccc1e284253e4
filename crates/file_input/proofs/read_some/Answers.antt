-- `file_input::read_some` meets its contract: a step fits the part of the buffer that the read was handed. Assumes nothing.
use Rattle.std.proofs.Common.{arith, length, drop, ◌-◌, length-take, length-drop}
use borrow.Rule.Slice.PartMut.{same_len_mid}
use Rattle.file_input.specs.Laws.{means-fits}
use Rattle.file_input.proofs.read_some.Goals as goal

pub returns : goal.returns
returns g c =
    let same = c.read-got.auto.buf in
    let buf = c.args.buf.now in
    let from = c.args.from in
    means-fits _ _ _ _ _ c.step_of.ensures
    (omega (arith, same, same_len_mid from (length buf - from) buf c.read-got.new.buf same, length-take (length buf - from) (drop from buf), length-drop from buf, c.requires))
