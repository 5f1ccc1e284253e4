-- Request 4 of 02: "The blocks that end in a minute shall go in one sweep that moves each kept entry at most once. The list afterwards is as it was, order
-- included." A list stands in places that are counted from 0, an entry a place. Entries go from it, and what is kept closes up, by moves. Which entries go
-- is told by a test; at the start of a minute it is `ended`. Assumes nothing: these are definitions.
use Rattle.std.specs.Prelude.{◌≡◌, Bool, not, cond, List, [], ◌∷◌, ◌++◌, ℕ, suc, ◌≤◌, ◌<◌, length, take, drop, set}
use Rattle.rules.specs.Lists.{keep, count, fold}

-- a move: what stands at the place `from` is written to the place `to`
pub record Move : Type 0 where
  pub from : ℕ
  pub to : ℕ

abbrev pub move : ℕ → ℕ → Move
move i j = record { from = i; to = j }

-- the list after a move; where nothing stands at `from`, nothing is moved
abbrev pub moved : {A : Type 0} → Move → List A → List A
moved m l = fold (λ a places. set places m.to a) (take 1 (drop m.from l)) l

-- the list after moves, one after another
abbrev pub after_moves : {A : Type 0} → List Move → List A → List A
after_moves ms l = fold moved ms l

-- from move to move the places that are read rise, from place i on, and the places that are written, from place j on; and each move is towards the start
abbrev pub Rises : ℕ → ℕ → List Move → Type 0
Rises i j [] = Unit
Rises i j (m ∷ ms) = (i ≤ m.from) × (j ≤ m.to) × (m.to < m.from) × Rises (suc m.from) (suc m.to) ms

-- the place of the first entry that goes; if none goes, the length of the list
abbrev pub first_to_go : {A : Type 0} → (A → Bool) → List A → ℕ
first_to_go goes [] = 0
first_to_go goes (a ∷ l) = cond (goes a) 0 (suc (first_to_go goes l))

-- the moves are one sweep of the list
pub record OneSweep {A : Type 0} (goes : A → Bool) (l : List A) (ms : List Move) : Type 0 where
  -- places only rise, so no entry is moved twice; and none is moved that stands before the first that goes
  pub rises : Rises (suc (first_to_go goes l)) (first_to_go goes l) ms
  -- there are at most as many moves as entries that are kept after the first that goes
  pub few : length ms ≤ count (λ a. not (goes a)) (drop (first_to_go goes l) l)
  -- afterwards the entries that are kept stand first, in their order, and the places behind them are as they were
  pub list : after_moves ms l ≡ keep (λ a. not (goes a)) l ++ drop (count (λ a. not (goes a)) l) l
