-- The covers of the definitions, lists of sets of delays, as packed covers. Assumes nothing: these are definitions.
use Rattle.std.specs.Prelude.{List, [], ◌∷◌, ℕ, zero, suc, ◌+◌, ◌*◌}
use Rattle.rules.specs.Joint.{Cover, Piece}
use Rattle.rules.specs.Calls.{set_image}
use Rattle.cut.specs.Cut.{Part, part}

-- a cover in b bytes: train k's set in byte k, and 1 for each train that is not there
unfoldable pub packed_in : ℕ → Cover → ℕ
packed_in zero p = 0
packed_in (suc b) [] = packed_in b [] * 256 + 1
packed_in (suc b) (s ∷ p) = packed_in b p * 256 + set_image s

abbrev pub packed : Cover → ℕ
packed p = packed_in 8 p

abbrev pub packed_piece : Piece → Part
packed_piece q = part (packed q.cover) q.held

-- s is a set of delays: numbers from k on, below k + n, rising; v has a bit for each, delay k's the lowest
pub data Delays : ℕ → ℕ → List ℕ → ℕ → Type 0 where
  none : {k : ℕ} → Delays 0 k [] 0
  takes : {n k : ℕ} {s : List ℕ} {v : ℕ} → Delays n (suc k) s v → Delays (suc n) k (k ∷ s) (v * 2 + 1)
  skips : {n k : ℕ} {s : List ℕ} {v : ℕ} → Delays n (suc k) s v → Delays (suc n) k s (v * 2)

-- p has a set of delays below 8 for each of n trains, and b bytes hold it
pub data Sets : ℕ → ℕ → Cover → Type 0 where
  none : {b : ℕ} → Sets b 0 []
  more : {b n : ℕ} {s : List ℕ} {v : ℕ} {p : Cover} → Delays 8 0 s v → Sets b n p → Sets (suc b) (suc n) (s ∷ p)

-- a cover of n trains, at most eight
abbrev pub Packable : ℕ → Cover → Type 0
Packable n p = Sets 8 n p
