-- What the runs look up of a case, as one list of words. Assumes nothing: these are definitions.
use Rattle.std.specs.Prelude.{cond, List, [], ◌∷◌, ◌++◌, map, ℕ, ◌-◌, length, get_or, ltb, eqb}
use Rattle.rules.specs.Lists.{each, fold, below}
use Rattle.rules.specs.Files.{Couple, Case}
use Rattle.rules.specs.Turns.{Leg, train_at, way, ahead, planned_on, last_station, capacity}
use Rattle.rules.specs.Turns.Place.{track}
use Rattle.rules.specs.Single.{pair_at, first_arrival}
use Rattle.rules.specs.Figures.{plan}
use Rattle.theory_codes.specs.Codes.{code_of, place_of, nowhere}

-- a train put among trains of lower number that stand by priority, then number
abbrev pub insert : Case → ℕ → List ℕ → List ℕ
insert C k [] = k ∷ []
insert C k (j ∷ l) = cond (ltb (train_at C k).priority (train_at C j).priority) (k ∷ j ∷ l) (j ∷ insert C k l)

-- the trains by priority, then number
unfoldable pub order : Case → List ℕ
order C = fold (insert C) (below (length C.trains)) []

abbrev pub head_code : List Leg → ℕ
head_code [] = nowhere
head_code (l ∷ ls) = code_of l.place

-- the code of the next element of train k at the place with code p
unfoldable pub next_code : Case → ℕ → ℕ → ℕ
next_code C k p = head_code (ahead C k (place_of p))

-- the planned minutes of train k on the element with code e
unfoldable pub stay_on : Case → ℕ → ℕ → ℕ
stay_on C k e = planned_on (place_of e) (way C k)

-- the code of the partner of track j, 0 where it has none: 0 is a station's
abbrev pub partner_in : ℕ → List Couple → ℕ
partner_in j [] = 0
partner_in j (c ∷ cs) = cond (eqb j c.first) (code_of (track c.second)) (cond (eqb j c.second) (code_of (track c.first)) (partner_in j cs))

-- the code of the partner of the element with code e, 0 where it has none
unfoldable pub partner_code : Case → ℕ → ℕ
partner_code C e = cond (ltb e 24) 0 (partner_in (e - 24) C.couples)

-- each of n trains' f, and 0 for those up to the eighth that are not there
abbrev pub per_train : Case → (ℕ → ℕ) → List ℕ
per_train C f = map (λ k. cond (ltb k (length C.trains)) (f k) 0) (below 8)

abbrev pub per_pair : Case → (ℕ → ℕ → ℕ) → List ℕ
per_pair C f = each (λ k. map (f k) (below 8)) (below 8)

-- offset 0: trains, last minute, safety time, room, then four of 0
abbrev pub head_table : Case → List ℕ
head_table C = length C.trains ∷ C.head.last_minute ∷ C.head.safety ∷ C.head.room ∷ 0 ∷ 0 ∷ 0 ∷ 0 ∷ []

-- at 8 trains by order; at 16 code of the last station; at 24 planned arrival there; at 32 first arrival; at 40 number of delays
abbrev pub train_tables : Case → List ℕ
train_tables C =
    per_train C (λ k. get_or (order C) k 0)
    ++ per_train C (λ k. code_of (last_station C k))
    ++ per_train C (plan C)
    ++ per_train C (λ k. first_arrival (train_at C k).stops)
    ++ per_train C (λ k. length (get_or C.tables k []))

-- at 48 delay d of train k, at 48 + k · 8 + d; at 112 its weight
abbrev pub pair_tables : Case → List ℕ
pair_tables C = per_pair C (λ k d. (pair_at C k d).delay) ++ per_pair C (λ k d. (pair_at C k d).weight)

-- at 176 the capacity of element e; at 240 the next element of train k at place p, at 240 + k · 128 + p; at 1264 its planned minutes on e likewise;
-- at 2288 the partner of element e
unfoldable pub tables : Case → List ℕ
tables C =
    head_table C
    ++ train_tables C
    ++ pair_tables C
    ++ map (λ e. capacity C (place_of e)) (below 64)
    ++ each (λ k. map (next_code C k) (below 128)) (below 8)
    ++ each (λ k. map (stay_on C k) (below 128)) (below 8)
    ++ map (partner_code C) (below 64)
