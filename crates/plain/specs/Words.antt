-- Choices, weights and arrivals as the program holds them, for a table of words T. Assumes nothing: these are definitions.
use Rattle.std.specs.Prelude.{ℕ, suc, ◌+◌, ◌-◌, ◌*◌, ◌%◌, ◌^◌, ◌<◌, ◌≤◌, cond, List, [], ◌∷◌, map, ◌==◌, nat_le, nat_lt, slice_index, slice_index_or, slice_set}
use Rattle.rules.specs.Lists.{fold, below}
use Rattle.theory_plain.specs.Numbered.{times, indices}
use Rattle.moving.specs.Words.{ran_in}
use Rattle.single_laws.specs.Plan.{Planned}

-- the sizes of the trains' tables
unfoldable pub sizes_in : List ℕ → List ℕ
sizes_in T = map (λ k. slice_index T (40 + k)) (below (slice_index T 0))

-- the product of the weights of a choice's pairs, from train k on
abbrev pub weight_in : List ℕ → ℕ → List ℕ → ℕ
weight_in T k [] = 1
weight_in T k (d ∷ x) = slice_index T (112 + (k * 8 + d)) * weight_in T (suc k) x

-- at most eight trains, tables of one to eight pairs, and weights of at most 100
pub record Sized (T : List ℕ) : Type 0 where
  pub few : slice_index_or T 0 0 ≤ 8
  pub some : (k : ℕ) → k < slice_index T 0 → 1 ≤ slice_index T (40 + k)
  pub most : (k : ℕ) → k < slice_index T 0 → slice_index T (40 + k) ≤ 8
  pub light : (k d : ℕ) → k < 8 → d < 8 → slice_index T (112 + (k * 8 + d)) ≤ 100

-- who has arrived has done so in one of the 720 minutes
abbrev pub Timely : List ℕ → List ℕ → Type 0
Timely T run = (k : ℕ) → k < slice_index T 0 → slice_index run (16 + k) ≤ 720

-- the weight is added to train k's minute before `after`, as the machine adds; where that is 0, the train has not arrived
unfoldable pub arrived_in : ℕ → ℕ → ℕ → List ℕ → List ℕ
arrived_in k after weight ws = cond (after == 0) ws (slice_set ws (k * 720 + (after - 1)) ((slice_index ws (k * 720 + (after - 1)) + weight) % 2 ^ 64))

-- and so for each train of a run
unfoldable pub tallied_in : List ℕ → List ℕ → ℕ → List ℕ → List ℕ
tallied_in T run weight ws = fold (λ k u. arrived_in k (slice_index run (16 + k)) weight u) (below (slice_index T 0)) ws

-- the choice numbered i is run by itself to the stop minute, and its weight is added
unfoldable pub added_in : List ℕ → ℕ → ℕ → List ℕ → List ℕ
added_in T stop i ws = let x = indices (sizes_in T) i in tallied_in T (ran_in T x stop) (weight_in T 0 x) ws

-- what is asked of the tables, that choices may be run to the stop minute
pub record Plotted (T : List ℕ) (stop : ℕ) : Type 0 where
  pub planned : Planned T
  pub sized : Sized T
  pub within : stop < 65535
  pub timely : (i : ℕ) → i < times (sizes_in T) → Timely T (ran_in T (indices (sizes_in T) i) stop)

-- the number past the last choice of a part
unfoldable pub past_in : ℕ → ℕ → ℕ → ℕ
past_in all first most = cond (nat_le all first) first (cond (nat_lt most (all - first)) (first + most) all)
