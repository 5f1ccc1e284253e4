-- What is sound in the body of a field, by tag. A number of 0 means that nothing is wrong; any other is the refusal's.
-- Assumes nothing: these are definitions.
use Rattle.std.specs.Prelude.{Bool, true, false, cond, not, List, ℕ, zero, suc, ◌+◌, ◌-◌, ◌*◌, ◌/◌, ◌%◌, length, leb, ltb, eqb}
use Rattle.rules.specs.Files.{byte, word}
use Rattle.rules.specs.Refusals.{number}
use Rattle.rules.specs.Refusals.Fault.{out_of_range, wrong_ends, wrong_path, wrong_times, wrong_table, wrong_couple}

-- whether some k below n passes the test
unfoldable pub any_below : (ℕ → Bool) → ℕ → Bool
any_below f zero = false
any_below f (suc n) = cond (f n) true (any_below f n)

-- the sum of f k over the k below n
unfoldable pub sum_below : (ℕ → ℕ) → ℕ → ℕ
sum_below f zero = 0
sum_below f (suc n) = sum_below f n + f n

-- head: last minute T (2), safety time (1), room (2)
unfoldable pub head_verdict : List ℕ → ℕ
head_verdict b =
    cond (eqb (word b 0) 0) (number out_of_range)
    (cond (ltb 719 (word b 0)) (number out_of_range)
    (cond (ltb 30 (byte b 2)) (number out_of_range)
    (cond (eqb (word b 3) 0) (number out_of_range)
    (cond (ltb 1024 (word b 3)) (number out_of_range) 0))))

-- station: capacity (1)
unfoldable pub station_verdict : List ℕ → ℕ
station_verdict b = cond (eqb (byte b 0) 0) (number out_of_range) (cond (ltb 255 (byte b 0)) (number out_of_range) 0)

-- the bytes before the field have n tracks, in fields of six bytes from `base` on; the field at i has the ends f and t
unfoldable pub ends : List ℕ → ℕ → ℕ → ℕ → Bool
ends earlier i f t = cond (eqb (byte earlier (i + 3)) f) (eqb (byte earlier (i + 4)) t) false

unfoldable pub joined : List ℕ → ℕ → ℕ → ℕ → ℕ → Bool
joined earlier base n f t = any_below (λ j. ends earlier (base + 6 * j) f t) n

-- track: from (1), to (1), capacity (1)
unfoldable pub track_verdict : List ℕ → ℕ → ℕ → ℕ → List ℕ → ℕ
track_verdict earlier base n stations b =
    cond (eqb (byte b 2) 0) (number out_of_range)
    (cond (ltb 255 (byte b 2)) (number out_of_range)
    (cond (leb stations (byte b 0)) (number wrong_ends)
    (cond (leb stations (byte b 1)) (number wrong_ends)
    (cond (eqb (byte b 0) (byte b 1)) (number wrong_ends)
    (cond (joined earlier base n (byte b 0) (byte b 1)) (number wrong_ends) 0)))))

-- train: priority (1), type (1), then stops: station (1), arrival (2), departure (2)
abbrev pub stops : List ℕ → ℕ
stops b = (length b - 2) / 5

abbrev pub stop : List ℕ → ℕ → ℕ
stop b k = byte b (5 * k + 2)

abbrev pub arrival : List ℕ → ℕ → ℕ
arrival b k = word b (5 * k + 3)

abbrev pub departure : List ℕ → ℕ → ℕ
departure b k = word b (5 * k + 5)

-- the station of stop k is that of an earlier stop
unfoldable pub repeated : List ℕ → ℕ → Bool
repeated b k = any_below (λ i. eqb (stop b i) (stop b k)) k

-- stop k has an unknown or repeated station, or no track leads to it from the stop before
unfoldable pub bad_stop : List ℕ → ℕ → ℕ → ℕ → List ℕ → ℕ → Bool
bad_stop earlier base n stations b k =
    cond (leb stations (stop b k)) true
    (cond (repeated b k) true
    (cond (eqb k 0) false
    (cond (joined earlier base n (stop b (k - 1)) (stop b k)) false true)))

-- departure before arrival, or arrival no later than the departure before
unfoldable pub bad_time : List ℕ → ℕ → Bool
bad_time b k =
    cond (ltb (departure b k) (arrival b k)) true
    (cond (eqb k 0) false
    (leb (arrival b k) (departure b (k - 1))))

-- times out of order, or the last departure past T, which stands in the head's field
unfoldable pub times_verdict : List ℕ → List ℕ → ℕ
times_verdict earlier b =
    cond (any_below (bad_time b) (stops b)) (number wrong_times)
    (cond (ltb (word earlier 3) (word b (length b - 2))) (number wrong_times) 0)

unfoldable pub train_verdict : List ℕ → ℕ → ℕ → ℕ → List ℕ → ℕ
train_verdict earlier base n stations b = cond (any_below (bad_stop earlier base n stations b) (stops b)) (number wrong_path) (times_verdict earlier b)

-- delay table: type (1), then pairs: delay (1), weight (1)
abbrev pub pairs : List ℕ → ℕ
pairs b = (length b - 1) / 2

abbrev pub delay : List ℕ → ℕ → ℕ
delay b k = byte b (2 * k + 1)

abbrev pub weight : List ℕ → ℕ → ℕ
weight b k = byte b (2 * k + 2)

-- a weight of 0, or a delay that does not rise
unfoldable pub bad_pair : List ℕ → ℕ → Bool
bad_pair b k =
    cond (eqb (weight b k) 0) true
    (cond (eqb k 0) false
    (leb (delay b k) (delay b (k - 1))))

unfoldable pub pairs_verdict : List ℕ → ℕ
pairs_verdict b =
    cond (any_below (bad_pair b) (pairs b)) (number wrong_table)
    (cond (eqb (sum_below (weight b) (pairs b)) 100) 0 (number wrong_table))

-- the table after `tables` others, the last of which has the type `last`
unfoldable pub table_verdict : ℕ → ℕ → List ℕ → ℕ
table_verdict tables last b = cond (eqb tables 0) (pairs_verdict b) (cond (leb (byte b 0) last) (number wrong_table) (pairs_verdict b))

-- the tracks' fields at i and j have ends that mirror and equal capacities
unfoldable pub alike : List ℕ → ℕ → ℕ → Bool
alike earlier i j = cond (ends earlier i (byte earlier (j + 4)) (byte earlier (j + 3))) (eqb (byte earlier (i + 5)) (byte earlier (j + 5))) false

-- the couple's field at i has the track t
unfoldable pub in_couple : List ℕ → ℕ → ℕ → Bool
in_couple earlier i t = cond (eqb t (byte earlier (i + 3))) true (eqb t (byte earlier (i + 4)))

-- one of n couples, in fields of five bytes from `first` on, has the track t
unfoldable pub taken : List ℕ → ℕ → ℕ → ℕ → Bool
taken earlier first n t = any_below (λ k. in_couple earlier (first + 5 * k) t) n

-- where the last n fields begin, all of them couples
abbrev pub first_couple : List ℕ → ℕ → ℕ
first_couple earlier n = length earlier - 5 * n

-- couple: two track numbers (1 each)
unfoldable pub couple_verdict : List ℕ → ℕ → ℕ → ℕ → List ℕ → ℕ
couple_verdict earlier base tracks n b =
    cond (leb tracks (byte b 0)) (number wrong_couple)
    (cond (leb tracks (byte b 1)) (number wrong_couple)
    (cond (not (alike earlier (base + 6 * byte b 0) (base + 6 * byte b 1))) (number wrong_couple)
    (cond (taken earlier (first_couple earlier n) n (byte b 0)) (number wrong_couple)
    (cond (taken earlier (first_couple earlier n) n (byte b 1)) (number wrong_couple) 0))))

-- lengths that the tag cannot have
unfoldable pub bad_length : ℕ → ℕ → Bool
bad_length tag n =
    cond (eqb tag 1) (not (eqb n 5))
    (cond (eqb tag 2) (not (eqb n 1))
    (cond (eqb tag 3) (not (eqb n 3))
    (cond (eqb tag 4) (cond (ltb n 12) true (cond (ltb 42 n) true (not (eqb (n % 5) 2))))
    (cond (eqb tag 6) (not (eqb n 2))
    (cond (ltb n 3) true (cond (ltb 17 n) true (not (eqb (n % 2) 1))))))))
