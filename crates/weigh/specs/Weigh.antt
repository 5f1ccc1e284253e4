-- Weights of packed covers, from the words T that the runs look up, and what is small in T. Assumes nothing: these are definitions.
use Rattle.std.specs.Prelude.{ℕ, zero, suc, ◌+◌, ◌*◌, ◌/◌, ◌%◌, ◌^◌, ◌<◌, ◌≤◌, cond, List, ◌==◌, slice_index, slice_index_or}
use Rattle.rules.specs.Lists.{sum}

-- the weights from i on of the n delays whose bits x has, the lowest first
unfoldable pub set_weight : List ℕ → ℕ → ℕ → ℕ → ℕ
set_weight T i zero x = 0
set_weight T i (suc n) x = cond (x % 2 == 1) (slice_index T i) 0 + set_weight T (suc i) n (x / 2)

-- the product over n trains from j on of their sets' weights, train j's set in the low byte
unfoldable pub cover_weight : List ℕ → ℕ → ℕ → ℕ → ℕ
cover_weight T j zero c = 1
cover_weight T j (suc n) c = set_weight T (112 + j * 8) 8 (c % 256) * cover_weight T (suc j) n (c / 256)

unfoldable pub weight_of : List ℕ → ℕ → ℕ
weight_of T c = cover_weight T 0 (slice_index T 0) c

-- the weights of the covers cs, as the machine sums them
unfoldable pub brought_of : List ℕ → List ℕ → ℕ
brought_of T cs = sum (weight_of T) cs % 2 ^ 64

-- ---- contracts

-- the words that the runs look up are small, and the weights of each train's set at most 100
pub record Small (T : List ℕ) : Type 0 where
  pub words : (i : ℕ) → slice_index T i < 2048
  pub trains : slice_index_or T 0 0 ≤ 8
  pub safety : slice_index_or T 2 0 ≤ 30
  pub order : (i : ℕ) → i < 8 → slice_index T (8 + i) < 8
  pub delays : (k : ℕ) → k < 8 → slice_index T (40 + k) ≤ 8
  pub weights : (j x : ℕ) → j < 8 → set_weight T (112 + j * 8) 8 x ≤ 100
