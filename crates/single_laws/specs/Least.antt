-- The lesser and the later of two numbers, as the library's `min` and `max` give them. Assumes nothing.
use Rattle.std.specs.Prelude.{◌≡◌, ℕ, ◌≤◌, ◌<◌}
use Prim.Native.Nat.{min, max}
use Rattle.std.proofs.Common.{arith}
use Rattle.std.proofs.lemmas.Grind.{common_steps}
use Rattle.moving.specs.Words.{nearer}
use Rattle.single_laws.specs.Asks.{later}

pub max-later : (a b : ℕ) → max a b ≡ later a b
unfolding later
max-later a b = grind (arith, common_steps)

-- the lower of q and the best so far, where q is from e on
pub min-nearer : (e q b : ℕ) → e ≤ q → min b q ≡ nearer e q b
min-nearer e q b h = grind (arith, common_steps)

pub not-nearer : (e q b : ℕ) → q < e → b ≡ nearer e q b
not-nearer e q b h = grind (arith, common_steps)
