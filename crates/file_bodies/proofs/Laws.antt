-- A byte passes no upper limit of a capacity, since it is below 256. Assumes nothing.
use mathlib.Core.Path.{◌≡◌}
use mathlib.Core.Bool.{false}
use Prim.Native.Nat.{ℕ, ◌<◌}
use native.Mathlib.Omega.{arith}
use lib.Dec.{ltb}
use borrow.Author.Tests.{le-ltb}

pub byte_small : {r : ℕ} → r < 256 → ltb 255 r ≡ false
byte_small {r} h = le-ltb 255 r (omega arith)
