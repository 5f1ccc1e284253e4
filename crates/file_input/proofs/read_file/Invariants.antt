-- The bytes so far stay within the buffer. Assumes nothing.
use Rattle.std.specs.Prelude.{◌≤◌, length}
use Rattle.file_input.proofs.read_file.Given as goal

abbrev pub invariant-loop : goal.invariant-loop
invariant-loop g l = l.done ≤ length l.buf
