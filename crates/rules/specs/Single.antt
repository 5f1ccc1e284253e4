-- 01, "The single run", and 02, request 1: one choice of delays, minute by minute from 0 to T. Assumes nothing: these are definitions.
use Rattle.std.specs.Prelude.{Bool, not, ◌&&◌, ◌||◌, cond, List, [], ◌∷◌, map, ℕ, ◌+◌, length, get_or, ltb, eqb}
use Rattle.std.proofs.Math.Option.{Option, none, some}
use Rattle.rules.specs.Lists.{any, count, below}
use Rattle.rules.specs.Files.{Stop, Pair, Case}
use Rattle.rules.specs.Turns.{Place, same, Mark, stands, train_at, capacity, paired, entered, Arrival, arriving, Served, served, State, Rules, run_from}
use Rattle.rules.specs.Turns.Place.{outside, gone}

-- A choice takes one pair from each train's table. It is the list of the pairs' indices, counted from 0, by train number; this is the pair at index i of
-- train k's table.
abbrev pub pair_at : Case → ℕ → ℕ → Pair
pair_at C k i = get_or (get_or C.tables k []) i (record { delay = 0; weight = 0 })

-- the planned arrival at the first stop
abbrev pub first_arrival : List Stop → ℕ
first_arrival [] = 0
first_arrival (a ∷ l) = a.arrival

-- train k waits outside, due at its first arrival plus its delay
unfoldable pub waits : Case → ℕ → ℕ → Mark
waits C k i = stands k outside (first_arrival (train_at C k).stops + (pair_at C k i).delay)

-- at first each train waits outside
unfoldable pub first_marks : Case → List ℕ → List Mark
first_marks C x = map (λ k. waits C k (get_or x k 0)) (below (length C.trains))

-- how many trains stand on or block the element
unfoldable pub trains_on : Case → Place → List Mark → ℕ
trains_on C e ms = count (λ k. any (λ m. eqb m.train k && same m.place e) ms) (below (length C.trains))

-- another train than k stands on or blocks the partner of e
unfoldable pub partner_held : Case → Place → ℕ → List Mark → Bool
partner_held C e k ms = any (λ m. not (eqb m.train k) && paired C e m.place) ms

-- 3. train k enters if fewer trains stand on or block the element than its capacity and, besides, on a coupled track (request 1 of 02), no other train stands on
-- or blocks the partner; the way out has no limit
unfoldable pub enters : Case → Place → ℕ → List Mark → Bool
enters C e k ms = same e gone || (ltb (trains_on C e ms) (capacity C e) && not (partner_held C e k ms))

-- a train that asks enters, or stays in its row as it is
unfoldable pub serve_train : Case → ℕ → Place → List Mark → Mark → Served Mark
serve_train C t e ms m =
    cond (enters C e m.train ms) (served [] (entered C t e m) (arriving C t e m)) (served (m ∷ []) [] [])

-- the items of the single run are marks, and it refuses no list
unfoldable pub single_rules : Case → Rules Mark
single_rules C = record { mark = λ m. m; serve = serve_train C; check = λ ms. 0 }

-- the single run of the choice x after minute t: the list of the trains and blocks, and the arrivals so far
unfoldable pub single : Case → List ℕ → ℕ → State Mark
single C x t = run_from C (single_rules C) (first_marks C x) t

-- the minute of train k's first arrival among these
abbrev pub minute_of : ℕ → List (Arrival Mark) → Option ℕ
minute_of k [] = none
minute_of k (v ∷ vs) = cond (eqb v.who.train k) (some v.minute) (minute_of k vs)

-- a train's minute of arrival, or none by T
unfoldable pub arrival : Case → List ℕ → ℕ → Option ℕ
arrival C x k = minute_of k (single C x C.head.last_minute).arrived
