-- `asking::assign` meets its contract: the words that are looked up are small, so no sum wraps. Assumes nothing.
use Rattle.std.proofs.Common.{◌+◌, ◌*◌, arith}
use Rattle.asking.specs.Ask.{job_of}
use Rattle.asking.proofs.assign.Goals as goal

pub capacity-cap-requires : goal.capacity-cap-requires
capacity-cap-requires c = omega (arith, c.requires.0.place)

pub overflow_mul-train : goal.overflow_mul-train
overflow_mul-train c = omega (arith, c.requires.0.train)

pub overflow_add-train : goal.overflow_add-train
overflow_add-train c = omega (arith, c.requires.0.train, c.requires.0.place)

pub overflow_add-train-2 : goal.overflow_add-train-2
overflow_add-train-2 c = omega (arith, c.requires.0.train, c.requires.0.place)

pub overflow_mul-result : goal.overflow_mul-result
overflow_mul-result c = omega (arith, c.requires.0.train, c.requires.0.place)

pub overflow_mul-result-2 : goal.overflow_mul-result-2
overflow_mul-result-2 c = omega (arith, c.requires.0.train, c.requires.0.place)

pub overflow_add-result : goal.overflow_add-result
overflow_add-result c = omega (arith, c.requires.0.train, c.requires.0.place)

pub overflow_add-result-2 : goal.overflow_add-result-2
overflow_add-result-2 c = omega (arith, c.requires.0.minute, c.at-stay.ensures, c.requires.1.words (1264 + (c.args.turn.train * 128 + c.args.turn.place)))

pub overflow_add-result-3 : goal.overflow_add-result-3
overflow_add-result-3 c =
    omega (arith, c.requires.0.train, c.requires.0.place, c.requires.0.minute, c.at-stay.ensures, c.requires.1.words (1264 + (c.args.turn.train * 128 + c.args.turn.place)))

pub overflow_mul-result-3 : goal.overflow_mul-result-3
overflow_mul-result-3 c = omega (arith, c.requires.0.train)

pub overflow_mul-result-4 : goal.overflow_mul-result-4
overflow_mul-result-4 c = omega arith

pub overflow_add-result-4 : goal.overflow_add-result-4
overflow_add-result-4 c = omega (arith, c.requires.0.train)

pub overflow_add-result-5 : goal.overflow_add-result-5
overflow_add-result-5 c = omega (arith, c.requires.0.train)

pub overflow_add-result-6 : goal.overflow_add-result-6
overflow_add-result-6 c = omega (arith, c.requires.0.minute, c.at-safety.ensures, c.requires.1.words 2)

pub overflow_add-result-7 : goal.overflow_add-result-7
overflow_add-result-7 c = omega (arith, c.requires.0.train, c.requires.0.minute, c.at-safety.ensures, c.requires.1.words 2)

pub returns : goal.returns
unfolding job_of
returns c = simp (c.capacity-cap.ensures, c.at-stay.ensures, c.at-safety.ensures, c.at-partner.ensures, c.leaves_block.ensures)
