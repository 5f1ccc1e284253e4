-- `file_reader::Reader::field_verdict` meets its contract: the frame is judged first, and a sound frame has the body in the file. Assumes nothing.
use Rattle.std.proofs.Common.{◌+◌, ap, sym, ◌∙◌, refl, arith, rules}
use Rattle.file_reader.specs.Laws.{framed, frame-fault, field-body, part_length}
use Rattle.file_bodies.specs.Bodies.{bad_length}
use Rattle.file_reader.proofs.Reader.field_verdict.Goals as goal

pub returns-in_err-frame_verdict : goal.returns-in_err-frame_verdict
returns-in_err-frame_verdict c =
    let f = c.in_err-frame_verdict in
    let e = frame-fault _ _ _ c.if-self-body.false c.byte-tag.ensures.0 c.word-n.ensures.0 f.ensures f.field-0.0 refl in
    search rules

pub slice_bounds-body_verdict-end : goal.slice_bounds-body_verdict-end
slice_bounds-body_verdict-end c =
    let f = framed _ _ _ _ _ (sym c.in_ok-frame_verdict.ensures) in
    omega arith

pub body_verdict-requires : goal.body_verdict-requires
body_verdict-requires c =
    let f = framed _ _ _ _ _ (sym c.in_ok-frame_verdict.ensures) in
    (f.low, f.high, ap (bad_length c.byte-tag.result) (part_length _ (c.args.self.now.seen.at + 3) c.word-n.result f.whole) ∙ f.possible)

pub returns : goal.returns
returns c =
    c.body_verdict.ensures ∙ sym (field-body _ _ _ c.if-self-body.false c.byte-tag.ensures.0 c.word-n.ensures.0 c.in_ok-frame_verdict.ensures refl)
