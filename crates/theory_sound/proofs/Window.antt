-- What stands past the 4,096 bytes that are handed on never changes what the two files hold. Assumes nothing.
use Rattle.std.specs.Prelude.{◌≡◌, List, ℕ, take}
use Rattle.std.proofs.Common.{arith}
use Rattle.rules.specs.Files.{files}
use Rattle.rules.specs.Files.File.{case, book}
use Rattle.theory_sound.specs.Window.{read-window}

-- the handed part of the two files decides
pub files-window : (cs bk : List ℕ) → files (take 4096 cs) (take 4096 bk) ≡ files cs bk
unfolding files
files-window cs bk = rw (read-window 4096 case cs (omega arith), read-window 4096 book bk (omega arith))
