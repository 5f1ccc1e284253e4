-- 01, "The single run", steps 1 to 4, and 02, request 1, which tracks are a pair: what a minute is made of, for the single run and for the joint run, whose
-- "minutes, elements and order are as above".
-- A run goes on with a list of items. Each item shows a mark: a train that stands somewhere, or blocks an element. In the single run the items are marks, in the
-- joint run entries. Assumes nothing: these are definitions.
use Rattle.std.specs.Prelude.{Bool, true, false, not, ◌&&◌, ◌||◌, cond, List, [], ◌∷◌, ◌++◌, map, ℕ, zero, suc, ◌+◌, ◌-◌, length, get_or, leb, ltb, eqb}
use Rattle.rules.specs.Lists.{one, keep, any, fold, below}
use Rattle.rules.specs.Refusals.{first_of}
use Rattle.rules.specs.Files.{Track, Stop, Train, Couple, Case, leads, last_of}

-- ---- places and marks

pub data Place : Type 0 where
  outside : Place
  station : ℕ → Place
  track : ℕ → Place
  gone : Place

-- a place as two numbers, its kind and its number among those of its kind
abbrev pub kind_of : Place → ℕ
kind_of outside = 0
kind_of (station i) = 1
kind_of (track j) = 2
kind_of gone = 3

abbrev pub number_of : Place → ℕ
number_of outside = 0
number_of (station i) = i
number_of (track j) = j
number_of gone = 0

-- it is the same place
unfoldable pub same : Place → Place → Bool
same p q = eqb (kind_of p) (kind_of q) && eqb (number_of p) (number_of q)

-- a train, a place, whether it blocks (otherwise it stands), and a minute: the end of the block, or when the train is due
pub record Mark : Type 0 where
  pub train : ℕ
  pub place : Place
  pub blocks : Bool
  pub minute : ℕ

-- train k stands at p and is due in minute t
abbrev pub stands : ℕ → Place → ℕ → Mark
stands k p t = record { train = k; place = p; blocks = false; minute = t }

-- train k blocks p until minute t
abbrev pub block : ℕ → Place → ℕ → Mark
block k p t = record { train = k; place = p; blocks = true; minute = t }

-- ---- the way of a train

-- for a number that no train has
abbrev pub absent : Train
absent = record { place = 0; priority = 0; type = 0; stops = [] }

-- train k
abbrev pub train_at : Case → ℕ → Train
train_at C k = get_or C.trains k absent

-- an element of a train's way, and the planned minutes on it
pub record Leg : Type 0 where
  pub place : Place
  pub planned : ℕ

abbrev pub leg : Place → ℕ → Leg
leg p n = record { place = p; planned = n }

-- the number of the first track from one station to the other
abbrev pub track_from : ℕ → ℕ → List Track → ℕ
track_from a b [] = 0
track_from a b (r ∷ l) = cond (leads a b r) 0 (suc (track_from a b l))

-- the elements of a path: station, track, station, .., last station, the way out. The planned stop is departure less arrival, the planned drive the next
-- arrival less departure
abbrev pub legs : List Track → List Stop → List Leg
legs ts [] = []
legs ts (a ∷ []) = leg (station a.station) (a.departure - a.arrival) ∷ leg gone 0 ∷ []
legs ts (a ∷ (b ∷ l)) =
    leg (station a.station) (a.departure - a.arrival)
    ∷ leg (track (track_from a.station b.station ts)) (b.arrival - a.departure)
    ∷ legs ts (b ∷ l)

-- the way of train k
unfoldable pub way : Case → ℕ → List Leg
way C k = legs C.tracks (train_at C k).stops

-- what comes after the place
abbrev pub after : Place → List Leg → List Leg
after p [] = []
after p (l ∷ ls) = cond (same l.place p) ls (after p ls)

-- what train k at the place p has still to enter, the next one first; of a train that is gone, nothing
unfoldable pub ahead : Case → ℕ → Place → List Leg
ahead C k p = cond (same p outside) (way C k) (after p (way C k))

-- the next one is e
abbrev pub head_is : Place → List Leg → Bool
head_is e [] = false
head_is e (l ∷ ls) = same l.place e

-- the planned minutes on e
abbrev pub planned_on : Place → List Leg → ℕ
planned_on e [] = 0
planned_on e (l ∷ ls) = cond (same l.place e) l.planned (planned_on e ls)

-- where train k arrives: its last station
unfoldable pub last_station : Case → ℕ → Place
last_station C k = station (last_of (train_at C k).stops).station

-- stations by number, then tracks by number, then the way out
unfoldable pub elements : Case → List Place
elements C = map station (below (length C.stations)) ++ map track (below (length C.tracks)) ++ (gone ∷ [])

-- the capacity of a station or a track
unfoldable pub capacity : Case → Place → ℕ
capacity C outside = 0
capacity C (station i) = get_or C.stations i 0
capacity C (track j) = get_or (map (λ r. r.capacity) C.tracks) j 0
capacity C gone = 0

-- the couple names the track e first and the track f second
unfoldable pub names : Place → Place → Couple → Bool
names e f c = same e (track c.first) && same f (track c.second)

-- e and f are the two tracks of a pair, so that each is the other's partner
unfoldable pub paired : Case → Place → Place → Bool
paired C e f = any (λ c. names e f c || names f e c) C.couples

-- ---- what happens in a minute

-- 1. a block goes at the start of the minute that is its end, so that the element is free in it (request 3 of 02): m is a block whose end is t or earlier
unfoldable pub ended : ℕ → Mark → Bool
ended t m = m.blocks && leb m.minute t

-- 2. a train outside or on the element before e, whose next element it is and whose due minute is ≤ t, asks
unfoldable pub asks : Case → ℕ → Place → Mark → Bool
asks C t e m = not m.blocks && head_is e (ahead C m.train m.place) && leb m.minute t

-- a asks before b: in order of priority, then train number
unfoldable pub sooner : Case → Mark → Mark → Bool
sooner C a b =
    let p = (train_at C a.train).priority in
    let q = (train_at C b.train).priority in
    ltb p q || (eqb p q && ltb a.train b.train)

-- 4. entering a station it is due again after its planned stop there, entering a track after its planned drive; leaving by the way out, on which no minutes are
-- planned, its due minute is the minute it left
unfoldable pub due_again : Case → ℕ → ℕ → Place → ℕ
due_again C t k e = t + planned_on e (way C k)

-- who leaves p leaves a block there; safety time 0 leaves no block at all (request 3 of 02), and nothing outside is blocked
abbrev pub leaves_block : Case → Place → Bool
leaves_block C p = ltb 0 C.head.safety && not (same p outside)

-- leaving an element, it blocks it until minute t + safety time
unfoldable pub leaving : Case → ℕ → Mark → List Mark
leaving C t m = one (leaves_block C m.place) (block m.train m.place (t + C.head.safety))

-- a mark that enters e at t: its standing mark, then its block
unfoldable pub entered : Case → ℕ → Place → Mark → List Mark
entered C t e m = stands m.train e (due_again C t m.train e) ∷ leaving C t m

-- an arrival: who stands in its train's last station, and the minute in which it entered
pub record Arrival (A : Type 0) : Type 0 where
  pub who : A
  pub minute : ℕ

abbrev pub arrives : {A : Type 0} → A → ℕ → Arrival A
arrives a t = record { who = a; minute = t }

-- the arrival of a mark that enters e at t, if e is its train's last station
unfoldable pub arriving : Case → ℕ → Place → Mark → List (Arrival Mark)
arriving C t e m = one (same e (last_station C m.train)) (arrives (stands m.train e (due_again C t m.train e)) t)

-- ---- one asker after another

-- what comes of an asker: what stands in its row then, what is added at the end of the list, and what arrives
pub record Served (A : Type 0) : Type 0 where
  pub rows : List A
  pub added : List A
  pub arrived : List (Arrival A)

abbrev pub served : {A : Type 0} → List A → List A → List (Arrival A) → Served A
served r a v = record { rows = r; added = a; arrived = v }

-- a run between two minutes: the list, what has arrived so far, and the refusal that was met first (0: none)
pub record State (A : Type 0) : Type 0 where
  pub list : List A
  pub arrived : List (Arrival A)
  pub met : ℕ

abbrev pub state : {A : Type 0} → List A → List (Arrival A) → ℕ → State A
state l v n = record { list = l; arrived = v; met = n }

-- a row of the list while an element is visited, and whether it has yet to be served
pub record Row (A : Type 0) : Type 0 where
  pub item : A
  pub asking : Bool

abbrev pub row : {A : Type 0} → A → Bool → Row A
row a b = record { item = a; asking = b }

-- the items of the rows
abbrev pub items : {A : Type 0} → List (Row A) → List A
items rs = map (λ r. r.item) rs

-- rows that do not ask
abbrev pub quiet : {A : Type 0} → List A → List (Row A)
quiet l = map (λ a. row a false) l

-- a visit of an element between two askers: the rows, what has arrived so far, and the refusal that was met first (0: none)
pub record Visit (A : Type 0) : Type 0 where
  pub rows : List (Row A)
  pub arrived : List (Arrival A)
  pub met : ℕ

abbrev pub visiting : {A : Type 0} → List (Row A) → List (Arrival A) → ℕ → Visit A
visiting rs v n = record { rows = rs; arrived = v; met = n }

-- the state that a visit leaves
abbrev pub left : {A : Type 0} → Visit A → State A
left v = state (items v.rows) v.arrived v.met

-- who is served next: nobody, or an asker with the rows before and after it
pub data Turn (A : Type 0) : Type 0 where
  nobody : Turn A
  somebody : List (Row A) → A → List (Row A) → Turn A

-- what was found behind the row r, with r among the rows before it
abbrev pub behind : {A : Type 0} → Row A → Turn A → Turn A
behind r nobody = nobody
behind r (somebody b a c) = somebody (r ∷ b) a c

-- the first row that passes the test, with the rows before and after it
abbrev pub find : {A : Type 0} → (Row A → Bool) → List (Row A) → Turn A
find test [] = nobody
find test (r ∷ rs) = cond (test r) (somebody [] r.item rs) (behind r (find test rs))

-- what a kind of run says of its items: the mark that an item shows; what comes of an item that asks for an element in a minute, with the list as it then is;
-- and the number for which a list is refused (0: none)
pub record Rules (A : Type 0) : Type 0 where
  pub mark : A → Mark
  pub serve : ℕ → Place → List A → A → Served A
  pub check : List A → ℕ

module _ {A : Type 0} (C : Case) (R : Rules A) where
  -- an asker goes first if no asker is sooner
  unfoldable pub goes_first : List (Row A) → Row A → Bool
  goes_first rs r = r.asking && not (any (λ q. q.asking && sooner C (R.mark q.item) (R.mark r.item)) rs)

  -- the asker that goes first; among equals, the first in the list
  unfoldable pub next : List (Row A) → Turn A
  next rs = find (goes_first rs) rs

  -- An asker is served: what comes of it stands in its row and at the end of the list, and none of that asks again in this visit. The list is then checked, and the
  -- first refusal that was met stays.
  abbrev pub serve_next : ℕ → Place → Visit A → Turn A → Visit A
  serve_next t e v nobody = v
  serve_next t e v (somebody b a c) =
      let s = R.serve t e (items v.rows) a in
      let rs = b ++ quiet s.rows ++ c ++ quiet s.added in
      visiting rs (v.arrived ++ s.arrived) (first_of (ltb 0 v.met) v.met (R.check (items rs)))

  -- n turns, in each of which the next asker is served
  unfoldable pub turns : ℕ → ℕ → Place → Visit A → Visit A
  turns zero t e v = v
  turns (suc n) t e v = turns n t e (serve_next t e v (next v.rows))

  -- 2. and 3. An element e is visited: who asks for it is fixed before the first is served. Each turn serves one asker, so as many turns as there are rows suffice:
  -- more change nothing (`turns_suffice`, crate `theory_simulation`).
  unfoldable pub visit : ℕ → Place → State A → State A
  visit t e s =
      left (turns (length s.list) t e (visiting (map (λ a. row a (asks C t e (R.mark a))) s.list) s.arrived s.met))

  -- minute t: the blocks that ended go, and then the elements are visited in their order
  unfoldable pub minute : ℕ → State A → State A
  minute t s =
      fold (visit t) (elements C) (state (keep (λ a. not (ended t (R.mark a))) s.list) s.arrived s.met)

  -- the first n minutes, from minute 0 on
  unfoldable pub minutes : ℕ → State A → State A
  minutes zero s = s
  minutes (suc n) s = minute n (minutes n s)

  -- the run from a first list, after minute m; the first list is checked, too
  unfoldable pub run_from : List A → ℕ → State A
  run_from l m = minutes (suc m) (state l [] (R.check l))
