-- What the program's text promises: the first bytes of the buffer are what 01 says is printed. Assumes nothing: this is a definition.
use Rattle.std.specs.Prelude.{◌≡◌, List, ℕ, ◌≤◌, length, take}
use Rattle.rules.specs.Program.{printed}

-- the first r bytes are what is printed
pub record Prints (cs bk : List ℕ) (r : ℕ) (text : List ℕ) : Type 0 where
  pub fits : r ≤ length text
  pub count : r ≡ length (take r text)
  pub bytes : take r text ≡ printed cs bk
