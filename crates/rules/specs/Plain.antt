-- 02, request 2: the plain engine, which runs every choice by itself to a stop minute and adds its weight to the arrival minute; its two calls, and what they leave
-- in lent memory. Assumes nothing: these are definitions.
use Rattle.std.specs.Prelude.{true, false, cond, List, [], ◌∷◌, ℕ, ◌+◌, ◌-◌, ◌^◌, length, take, drop, ltb}
use Rattle.std.proofs.Math.Option.{Option}
use Rattle.rules.specs.Lists.{sum}
use Rattle.rules.specs.Refusals.{number, ◌when◌, nowhere, Result, refuse, then}
use Rattle.rules.specs.Refusals.Fault.{too_short, stop_too_late}
use Rattle.rules.specs.Refusals.Result.{refused, answer}
use Rattle.rules.specs.Files.{Case}
use Rattle.rules.specs.Single.{single, minute_of}
use Rattle.rules.specs.Joint.{choices, weight_of}
use Rattle.rules.specs.Demands.{is_in}
use Rattle.rules.specs.Calls.{case_for, image_by, filled, weights_bytes}
use Rattle.rules.specs.Decoded.{weight_in}

-- ---- the engine

-- the minute in which the single run of the choice x, stopped after minute m, has brought train k in, or none by m
unfoldable pub arrival_by : Case → ℕ → List ℕ → ℕ → Option ℕ
arrival_by C m x k = minute_of k (single C x m).arrived

-- the choice x, run by itself to minute m, adds its weight to the arrival minute: what it adds for train k to minute t
unfoldable pub adds : Case → ℕ → ℕ → ℕ → List ℕ → ℕ
adds C m k t x = cond (is_in t (arrival_by C m x k)) (weight_of C x) 0

-- what the choices xs, each run by itself to minute m, add for train k to minute t
unfoldable pub added_by : Case → ℕ → List (List ℕ) → ℕ → ℕ → ℕ
added_by C m xs k t = sum (adds C m k t) xs

-- ---- the answers: the files and 11, then 17. It keeps no list, so nothing is refused for room.

-- a case, a stop minute, and the choices that are run
pub record Plain : Type 0 where
  pub of : Case
  pub stop : ℕ
  pub ran : List (List ℕ)

abbrev pub plain_of : (Case → List (List ℕ)) → List ℕ → List ℕ → ℕ → Result Plain
plain_of which cs bk m =
    then (case_for cs bk (λ C. stop_too_late when ltb C.head.last_minute m ∷ [])) (λ C. answer (record { of = C; stop = m; ran = which C }))

-- every choice
unfoldable pub plain_run : List ℕ → List ℕ → ℕ → Result Plain
plain_run cs bk m = plain_of choices cs bk m

-- a part: the choices numbered from `first` on, as they stand in their order, counted from 0; at most `most` of them
unfoldable pub part_run : List ℕ → List ℕ → ℕ → ℕ → ℕ → Result Plain
part_run cs bk m first most = plain_of (λ C. take most (drop first (choices C))) cs bk m

-- ---- images

-- the weights as the run's image has them
unfoldable pub plain_image : Plain → List ℕ
plain_image u = image_by (added_by u.of u.stop u.ran)

-- a sum never wraps: one that passes 2^64 − 1 becomes 2^64 − 1
abbrev pub capped : ℕ → ℕ
capped n = cond (ltb n (2 ^ 64)) n (2 ^ 64 - 1)

-- the weights as they were lent, with what the part adds
unfoldable pub part_image : List ℕ → Plain → List ℕ
part_image weights u = image_by (λ k t. capped (weight_in weights k t + added_by u.of u.stop u.ran k t))

-- ---- lent memory: the weights alone

-- what a call comes to, and what the weights hold then
pub record LentWeights : Type 0 where
  pub result : Result ℕ
  pub weights : List ℕ

-- a refusal sets the required part to zero; an answer fills it and tells the number of choices that were run
abbrev pub weighed : (Plain → List ℕ) → List ℕ → Result Plain → LentWeights
weighed image weights (refused r) = record { result = refused r; weights = filled weights_bytes [] weights }
weighed image weights (answer u) = record { result = answer (length u.ran); weights = filled weights_bytes (image u) weights }

-- 14 comes first, and writes nothing
abbrev pub weighing : (Plain → List ℕ) → List ℕ → Result Plain → LentWeights
weighing image weights r =
    elim (ltb (length weights) weights_bytes) [ true ↦ record { result = refuse (number too_short) nowhere; weights = weights } | false ↦ weighed image weights r ]

-- every choice by itself to stop minute m
unfoldable pub plain_call : List ℕ → List ℕ → ℕ → List ℕ → LentWeights
plain_call cs bk m weights = weighing plain_image weights (plain_run cs bk m)

-- a part of the choices, added to the weights as they are lent
unfoldable pub part_call : List ℕ → List ℕ → ℕ → ℕ → ℕ → List ℕ → LentWeights
part_call cs bk m first most weights = weighing (part_image weights) weights (part_run cs bk m first most)
