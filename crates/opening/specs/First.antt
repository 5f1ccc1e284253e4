-- The first list as rows, from the words T that the runs look up. Assumes nothing: these are definitions.
use Rattle.std.specs.Prelude.{cond, List, map, ℕ, zero, suc, ◌+◌, ◌-◌, ◌*◌, ◌^◌, get_or, ltb, eqb}
use Rattle.rules.specs.Lists.{each, below}
use Rattle.rows.specs.Rows.{Row, row}

-- train j's byte of the first cover of train k with delay d: that delay, or all delays of another train, or 1 for a train that is not there
unfoldable pub first_byte : List ℕ → ℕ → ℕ → ℕ → ℕ
first_byte T k d j = cond (eqb j k) (2 ^ d) (cond (ltb j (get_or T 0 0)) (2 ^ get_or T (40 + j) 0 - 1) 1)

-- the bytes of n trains from j on
unfoldable pub first_bytes : List ℕ → ℕ → ℕ → ℕ → ℕ → ℕ
first_bytes T k d zero j = 0
first_bytes T k d (suc n) j = first_bytes T k d n (suc j) * 256 + first_byte T k d j

unfoldable pub first_row : List ℕ → ℕ → ℕ → Row
first_row T k d = row (k * 524288 + 266240 + (get_or T (32 + k) 0 + get_or T (48 + (k * 8 + d)) 0)) (first_bytes T k d 8 0)

-- one row per train and delay, by train, then delay
unfoldable pub first_rows : List ℕ → List Row
first_rows T = each (λ k. map (first_row T k) (below (get_or T (40 + k) 0))) (below (get_or T 0 0))
