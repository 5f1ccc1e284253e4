-- The single run on words, as the program holds it, for a table of words T: the code of train k's place stands at k, its due minute at 8 + k, the minute
-- after its arrival at 16 + k (0: none), and at 24 + e · 8 + k the end of its block on element e (0: none), a minute in which the block is gone.
-- Assumes nothing: these are definitions.
use Rattle.std.specs.Prelude.{Bool, ◌&&◌, ◌||◌, cond, List, ℕ, suc, ◌+◌, ◌*◌, ◌/◌, ◌%◌, ◌<◌, get_or, set, replicate, leb, ltb, eqb}
use Rattle.rules.specs.Lists.{tick, sum, fold, below}
use Rattle.theory_codes.specs.Codes.{nowhere}

-- eight places, eight due minutes, eight arrivals, and 65 by eight ends of blocks
abbrev pub run_size : ℕ
run_size = 544

-- how many trains there are, and the i-th of them in order
abbrev pub trains_in : List ℕ → ℕ
trains_in T = get_or T 0 0

abbrev pub order_in : List ℕ → ℕ → ℕ
order_in T i = get_or T (8 + i) 0

-- every word of the tables is below 2^32
abbrev pub Small : List ℕ → Type 0
Small T = (i : ℕ) → get_or T i 0 < 4294967296

-- ---- one train

-- the code of the element that train k asks for in minute t
unfoldable pub wanted : List ℕ → ℕ → List ℕ → ℕ → ℕ
wanted T t w k = cond (ltb (get_or w k 0) 128) (cond (leb (get_or w (8 + k) 0) t) (get_or T (240 + k * 128 + get_or w k 0) 0) nowhere) nowhere

-- whether train k stands on e, and whether it blocks e
unfoldable pub holding : ℕ → ℕ → List ℕ → ℕ → ℕ
holding t e w k = tick (eqb (get_or w k 0) e) + tick (ltb t (get_or w (24 + e * 8 + k) 0))

-- how many trains stand on or block e
unfoldable pub crowd : List ℕ → ℕ → ℕ → List ℕ → ℕ
crowd T t e w = sum (holding t e w) (below (trains_in T))

-- the code of the partner of e, 0 where it has none
abbrev pub partner_of : List ℕ → ℕ → ℕ
partner_of T e = get_or T (2288 + e) 0

-- how many trains stand on or block the partner of e
unfoldable pub across : List ℕ → ℕ → ℕ → List ℕ → ℕ
across T t e w = cond (eqb (partner_of T e) 0) 0 (crowd T t (partner_of T e) w)

-- whether e, asked for in minute t, lets one more in: it has room, and its partner holds nobody; the way out has no limit
unfoldable pub lets : List ℕ → ℕ → ℕ → List ℕ → Bool
lets T t e w = eqb e 64 || (ltb (crowd T t e w) (get_or T (176 + e) 0) && eqb (across T t e w) 0)

-- ---- train k enters e in minute t

-- it blocks the element that it leaves until minute t + safety time; an end of t, with safety time 0, is no block. Nothing outside is blocked
unfoldable pub left_in : List ℕ → ℕ → ℕ → List ℕ → List ℕ
left_in T t k w = cond (ltb (get_or w k 0) 65) (set w (24 + get_or w k 0 * 8 + k) (t + get_or T 2 0)) w

-- it stands on e until it is due again
unfoldable pub stood_in : List ℕ → ℕ → ℕ → ℕ → List ℕ → List ℕ
stood_in T t e k w = set (set w k e) (8 + k) (t + get_or T (1264 + k * 128 + e) 0)

-- it arrives, if e is its last station and it has not arrived before
unfoldable pub arrived_in : List ℕ → ℕ → ℕ → ℕ → List ℕ → List ℕ
arrived_in T t e k w = cond (eqb (get_or T (16 + k) 0) e) (cond (eqb (get_or w (16 + k) 0) 0) (set w (16 + k) (t + 1)) w) w

unfoldable pub entered_in : List ℕ → ℕ → ℕ → ℕ → List ℕ → List ℕ
entered_in T t e k w = arrived_in T t e k (stood_in T t e k (left_in T t k w))

-- ---- trains, elements, minutes

unfoldable pub served_in : List ℕ → ℕ → ℕ → ℕ → List ℕ → List ℕ
served_in T t e k w = cond (eqb (wanted T t w k) e) (cond (lets T t e w) (entered_in T t e k w) w) w

-- the trains in order ask for e
unfoldable pub element_in : List ℕ → ℕ → ℕ → List ℕ → List ℕ
element_in T t e w = fold (λ i u. served_in T t e (order_in T i) u) (below (trains_in T)) w

unfoldable pub minute_in : List ℕ → ℕ → List ℕ → List ℕ
minute_in T t w = fold (element_in T t) (below 65) w

-- ---- turns

-- a turn is a minute, an element and a place in the order of the trains, as one number: 01 serves them in rising order
abbrev pub turn : ℕ → ℕ → ℕ → ℕ
turn t e i = t * 1024 + e * 8 + i

abbrev pub turn_minute : ℕ → ℕ
turn_minute q = q / 1024

abbrev pub turn_element : ℕ → ℕ
turn_element q = q / 8 % 128

abbrev pub turn_rank : ℕ → ℕ
turn_rank q = q % 8

-- the turn q: where there is such an element and such a train, the train is served
unfoldable pub served_at : List ℕ → ℕ → List ℕ → List ℕ
served_at T q w = cond (ltb (turn_element q) 65 && ltb (turn_rank q) (trains_in T)) (served_in T (turn_minute q) (turn_element q) (order_in T (turn_rank q)) w) w

-- ---- the next minute in which somebody who is held can be let in

-- the lower of q and the best so far, if q is from e on
abbrev pub nearer : ℕ → ℕ → ℕ → ℕ
nearer e q b = cond (leb e q) (cond (ltb q b) q b) b

-- the first minute after t in which a block on e has ended, if it comes before b
unfoldable pub freed_in : List ℕ → ℕ → ℕ → List ℕ → ℕ → ℕ
freed_in T t e w b = fold (λ k c. nearer (t + 1) (get_or w (24 + e * 8 + k) 0) c) (below (trains_in T)) b

-- the same of a block on e or on its partner: until then, who is held at e stays so
unfoldable pub reopened_in : List ℕ → ℕ → ℕ → List ℕ → ℕ → ℕ
reopened_in T t e w b =
    let own = freed_in T t e w b in
    cond (eqb (partner_of T e) 0) own (freed_in T t (partner_of T e) w own)

-- ---- the run

-- train k waits outside, with the delay of index d
unfoldable pub waits_in : List ℕ → ℕ → ℕ → List ℕ → List ℕ
waits_in T k d w = set (set w k 65) (8 + k) (get_or T (32 + k) 0 + get_or T (48 + k * 8 + d) 0)

unfoldable pub start_in : List ℕ → List ℕ → List ℕ → List ℕ
start_in T x w = fold (λ k u. waits_in T k (get_or x k 0) u) (below (trains_in T)) w

-- the words after the run of the choice x to minute m
unfoldable pub ran_in : List ℕ → List ℕ → ℕ → List ℕ
ran_in T x m = fold (minute_in T) (below (suc m)) (start_in T x (replicate {A = ℕ} run_size 0))
