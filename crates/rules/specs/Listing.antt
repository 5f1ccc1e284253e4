-- 01, "Listing and figures", the listing: the lines that a program prints, as bytes. 48 is the digit 0, 32 a space, 10 a line feed, 45 `-`.
-- Assumes nothing: these are definitions.
use Rattle.std.specs.Prelude.{cond, List, [], ◌∷◌, ◌++◌, ℕ, zero, suc, ◌+◌, ◌-◌, ◌/◌, ◌%◌, length, ltb}
use Rattle.rules.specs.Lists.{each, sum, below}
use Rattle.rules.specs.Refusals.{Refusal}
use Rattle.rules.specs.Files.{Case}
use Rattle.rules.specs.Turns.{Arrival}
use Rattle.rules.specs.Joint.{Entry, total, weight_at}

-- decimal digits, the highest first, n of them at most
abbrev pub digits : ℕ → ℕ → List ℕ
digits zero v = []
digits (suc n) v = cond (ltb v 10) [] (digits n (v / 10)) ++ ((48 + v % 10) ∷ [])

-- a number in decimal: 20 digits suffice below 10^20, which every number of 64 bits is (`decimal-denotes`, crate `promises`)
unfoldable pub decimal : ℕ → List ℕ
decimal v = digits 20 v

-- words with single spaces between them, and a line feed
abbrev pub line : List (List ℕ) → List ℕ
line [] = 10 ∷ []
line (w ∷ []) = w ++ (10 ∷ [])
line (w ∷ (v ∷ l)) = w ++ (32 ∷ line (v ∷ l))

-- `total`
abbrev pub total_word : List ℕ
total_word = 116 ∷ 111 ∷ 116 ∷ 97 ∷ 108 ∷ []

-- `refused`
abbrev pub refused_word : List ℕ
refused_word = 114 ∷ 101 ∷ 102 ∷ 117 ∷ 115 ∷ 101 ∷ 100 ∷ []

-- the minutes of the window: 0 to T
abbrev pub window : Case → List ℕ
window C = below (suc C.head.last_minute)

-- the weight of choices in which train k has not arrived by T: what is left of all (`demand_2_not-arrived`, crate `theory_demands`)
unfoldable pub not_arrived_of : Case → List (Arrival Entry) → ℕ → ℕ
not_arrived_of C arrived k = total C - sum (weight_at C arrived k) (window C)

-- the line number, minute, weight, if there is weight
abbrev pub minute_line : ℕ → ℕ → ℕ → List ℕ
minute_line k t zero = []
minute_line k t (suc w) = line (decimal k ∷ decimal t ∷ decimal (suc w) ∷ [])

-- a line for each minute with weight, rising; then number, `-`, and the weight not arrived, always
unfoldable pub train_lines : Case → List (Arrival Entry) → ℕ → List ℕ
train_lines C arrived k =
    each (λ t. minute_line k t (weight_at C arrived k t)) (window C)
    ++ line (decimal k ∷ (45 ∷ []) ∷ decimal (not_arrived_of C arrived k) ∷ [])

-- first `total` and 100^n, then the trains by number
unfoldable pub listing : Case → List (Arrival Entry) → List ℕ
listing C arrived = line (total_word ∷ decimal (total C) ∷ []) ++ each (train_lines C arrived) (below (length C.trains))

-- a refused case prints `refused`, number, file, place on one line
unfoldable pub refused_line : Refusal → List ℕ
refused_line r = line (refused_word ∷ decimal r.number ∷ decimal r.file ∷ decimal r.place ∷ [])
