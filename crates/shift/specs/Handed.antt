-- The program prints what the whole files say, though it hands on their first 4,096 bytes alone: those bytes decide what the files come to, and the
-- text is made from that. Assumes nothing.
use Rattle.std.specs.Prelude.{◌≡◌, List, ℕ}
use Rattle.std.proofs.Common.{ap}
use Rattle.std.proofs.Math.Option.{Option}
use Rattle.rules.specs.Refusals.{Result, then}
use Rattle.rules.specs.Files.{Case}
use Rattle.rules.specs.Calls.{run_to, whole_run}
use Rattle.theory_sound.proofs.Window.{files-window}
use Rattle.rules.specs.Program.{text_for, printed, book_of, handed, program}

-- what stands past the handed part never changes what is printed
pub printed-handed : (cs bk : List ℕ) → printed (handed cs) (handed bk) ≡ printed cs bk
unfolding printed whole_run
printed-handed cs bk = ap (λ (r : Result Case). text_for (then r (λ C. run_to C.head.last_minute C))) (files-window cs bk)

pub program_prints : (cs : List ℕ) (bk : Option (List ℕ)) → program cs bk ≡ printed cs (book_of bk)
unfolding program
program_prints cs bk = printed-handed cs (book_of bk)
