-- 01, "Files", and 02, request 1: fields, their bodies, the reading of a case and of a book, and the table of a train.
-- A file is the list of its bytes. Assumes nothing: these are definitions.
use Rattle.std.specs.Prelude.{Bool, true, false, not, ◌&&◌, ◌||◌, cond, List, [], ◌∷◌, ◌++◌, map, ℕ, zero, suc, ◌+◌, ◌-◌, ◌*◌, ◌/◌, length, get_or, take, drop, leb, ltb, eqb}
use Rattle.rules.specs.Lists.{one, each, keep, any, sum, span, below, has}
use Rattle.rules.specs.Refusals.{number, Rule, ◌when◌, Spot, Result, refuse, then, judged}
use Rattle.rules.specs.Refusals.Fault.{overrun, unknown_tag, misplaced, wrong_length, wrong_count, out_of_range, wrong_ends, wrong_path, wrong_times, wrong_table, no_table, wrong_couple}
use Rattle.rules.specs.Refusals.Result.{answer}

-- ---- what the fields hold

pub record Head : Type 0 where
  pub last_minute : ℕ
  pub safety : ℕ
  pub room : ℕ

pub record Track : Type 0 where
  pub from : ℕ
  pub to : ℕ
  pub capacity : ℕ

pub record Stop : Type 0 where
  pub station : ℕ
  pub arrival : ℕ
  pub departure : ℕ

-- a train has, besides what its field says, the offset of that field
pub record Train : Type 0 where
  pub place : ℕ
  pub priority : ℕ
  pub type : ℕ
  pub stops : List Stop

pub record Pair : Type 0 where
  pub delay : ℕ
  pub weight : ℕ

pub record Table : Type 0 where
  pub type : ℕ
  pub pairs : List Pair

-- two tracks, by their numbers, that are coupled: the two directions on the same rails
pub record Couple : Type 0 where
  pub first : ℕ
  pub second : ℕ

-- what a file holds so far, each kind in the order of its fields; `rank` is the last field's, 0 before the first. A station is its capacity
pub record Contents : Type 0 where
  pub rank : ℕ
  pub head : Head
  pub stations : List ℕ
  pub tracks : List Track
  pub trains : List Train
  pub tables : List Table
  pub couples : List Couple

-- ---- bodies: numbers are big-endian

-- the byte at offset i
abbrev pub byte : List ℕ → ℕ → ℕ
byte b i = get_or b i 0

-- the number in the two bytes from offset i on
abbrev pub word : List ℕ → ℕ → ℕ
word b i = byte b i * 256 + byte b (i + 1)

-- last minute T (2), safety time (1), room (2)
unfoldable pub head_of : List ℕ → Head
head_of b = record { last_minute = word b 0; safety = byte b 2; room = word b 3 }

-- from (1), to (1), capacity (1)
unfoldable pub track_of : List ℕ → Track
track_of b = record { from = byte b 0; to = byte b 1; capacity = byte b 2 }

-- station (1), arrival (2), departure (2)
unfoldable pub stop_of : List ℕ → Stop
stop_of b = record { station = byte b 0; arrival = word b 1; departure = word b 3 }

-- priority (1), type (1), then the stops, 5 bytes each; `at` is the offset of the field
unfoldable pub train_of : ℕ → List ℕ → Train
train_of at b = record {
  place = at;
  priority = byte b 0;
  type = byte b 1;
  stops = map (λ k. stop_of (drop (2 + 5 * k) b)) (below ((length b - 2) / 5));
}

-- delay (1), weight (1)
unfoldable pub pair_of : List ℕ → Pair
pair_of b = record { delay = byte b 0; weight = byte b 1 }

-- type (1), then the pairs, 2 bytes each
unfoldable pub table_of : List ℕ → Table
table_of b = record { type = byte b 0; pairs = map (λ k. pair_of (drop (1 + 2 * k) b)) (below ((length b - 1) / 2)) }

-- two track numbers (1 each)
unfoldable pub couple_of : List ℕ → Couple
couple_of b = record { first = byte b 0; second = byte b 1 }

-- ---- which fields there may be

pub data File : Type 0 where
  case : File
  book : File

-- the number that a refusal names the file by
abbrev pub file_number : File → ℕ
file_number case = 0
file_number book = 1

-- an offset of the file, as a refusal names it
abbrev pub spot : File → ℕ → Spot
spot f at = record { file = file_number f; place = at }

-- the kinds of fields
pub data Kind : Type 0 where
  head station track train table couple : Kind
  no_field : Kind  -- of a tag that there is not

-- the kind of the fields with the tag: 1 is a head, 2 a station, 3 a track, 4 a train, 5 a delay table, 6 a couple
unfoldable pub kind_of : ℕ → Kind
kind_of tag = get_or (no_field ∷ head ∷ station ∷ track ∷ train ∷ table ∷ couple ∷ []) tag no_field

-- the place of a kind in the order of fields
abbrev pub rank : Kind → ℕ
rank no_field = 0
rank head = 1
rank station = 2
rank track = 3
rank train = 4
rank table = 5
rank couple = 6

-- whether a field of kind k has its place among those of kind j
abbrev pub is : Kind → Kind → Bool
is j k = eqb (rank k) (rank j)

-- whether there is such a field
unfoldable pub known : Kind → Bool
known k = not (eqb (rank k) 0)

-- a case has one head, first, and tags never fall; a book has delay tables only
unfoldable pub in_place : File → Contents → Kind → Bool
in_place case c k = cond (eqb c.rank 0) (is head k) (not (is head k) && leb c.rank (rank k))
in_place book c k = is table k

-- the lengths that are possible for a body: a train has 2 to 8 stops, a table 1 to 8 pairs
unfoldable pub lengths : Kind → List ℕ
lengths no_field = []
lengths head = 5 ∷ []
lengths station = 1 ∷ []
lengths track = 3 ∷ []
lengths train = map (λ n. 2 + 5 * n) (span 7 2)
lengths table = map (λ n. 1 + 2 * n) (span 8 1)
lengths couple = 2 ∷ []

abbrev pub most_trains : ℕ
most_trains = 7

-- how many fields of a kind there may be
unfoldable pub most : Kind → ℕ
most no_field = 0
most head = 1
most station = 24
most track = 40
most train = most_trains
most table = 8
most couple = 20

-- how many there are so far; heads are not counted, since a second one is refused 3 by its place
unfoldable pub how_many : Contents → Kind → ℕ
how_many c no_field = 0
how_many c head = 0
how_many c station = length c.stations
how_many c track = length c.tracks
how_many c train = length c.trains
how_many c table = length c.tables
how_many c couple = length c.couples

-- ---- what is sound in a body

-- n is out of the range from low to high
abbrev pub not_in : ℕ → ℕ → ℕ → Bool
not_in low high n = ltb n low || ltb high n

-- T 1 to 719; safety time 0 to 30; room 1 to 1,024
unfoldable pub head_rules : Head → List Rule
head_rules h = out_of_range when (not_in 1 719 h.last_minute || not_in 0 30 h.safety || not_in 1 1024 h.room) ∷ []

-- capacity 1 to 255
unfoldable pub station_rules : ℕ → List Rule
station_rules capacity = out_of_range when not_in 1 255 capacity ∷ []

-- there is no station of that number
unfoldable pub unknown : Contents → ℕ → Bool
unknown c s = leb (length c.stations) s

-- the track leads from one station to the other
unfoldable pub leads : ℕ → ℕ → Track → Bool
leads from to r = eqb r.from from && eqb r.to to

-- capacity 1 to 255; known ends, not equal, not those of an earlier track
unfoldable pub track_rules : Contents → Track → List Rule
track_rules c r =
    out_of_range when not_in 1 255 r.capacity
    ∷ wrong_ends when (unknown c r.from || unknown c r.to || eqb r.from r.to || any (leads r.from r.to) c.tracks)
    ∷ []

-- whether some step, from a stop to the next one, breaks the rule
abbrev pub any_step : (Stop → Stop → Bool) → List Stop → Bool
any_step broken [] = false
any_step broken (a ∷ []) = false
any_step broken (a ∷ (b ∷ l)) = broken a b || any_step broken (b ∷ l)

-- whether a number stands twice in the list
abbrev pub repeats : List ℕ → Bool
repeats [] = false
repeats (a ∷ l) = has l a || repeats l

-- whether a path breaks its rules: its stations are known, it repeats none, and each step of it has a track
unfoldable pub path_broken : Contents → List Stop → Bool
path_broken c stops =
    any (λ s. unknown c s.station) stops
    || repeats (map (λ s. s.station) stops)
    || any_step (λ a b. not (any (leads a.station b.station) c.tracks)) stops

-- the last stop of a path
abbrev pub last_of : List Stop → Stop
last_of [] = record { station = 0; arrival = 0; departure = 0 }
last_of (a ∷ []) = a
last_of (a ∷ (b ∷ l)) = last_of (b ∷ l)

-- whether times break their rules: arrival ≤ departure at a stop, departure < next arrival, last departure ≤ T
unfoldable pub times_broken : Contents → List Stop → Bool
times_broken c stops =
    any (λ s. ltb s.departure s.arrival) stops
    || any_step (λ a b. leb b.arrival a.departure) stops
    || ltb c.head.last_minute (last_of stops).departure

unfoldable pub train_rules : Contents → Train → List Rule
train_rules c t = wrong_path when path_broken c t.stops ∷ wrong_times when times_broken c t.stops ∷ []

-- each is below the next
abbrev pub rising : List ℕ → Bool
rising [] = true
rising (a ∷ []) = true
rising (a ∷ (b ∷ l)) = ltb a b && rising (b ∷ l)

-- delays rise strictly, each weight is at least 1, the weights sum to 100, and types rise strictly within a file
unfoldable pub table_rules : Contents → Table → List Rule
table_rules c d =
    wrong_table when (not (rising (map (λ p. p.delay) d.pairs))
    || any (λ p. eqb p.weight 0) d.pairs
    || not (eqb (sum (λ p. p.weight) d.pairs) 100)
    || any (λ e. leb d.type e.type) c.tables)
    ∷ []

-- a track that is not there
abbrev pub no_track : Track
no_track = record { from = 0; to = 0; capacity = 0 }

-- the track with the number
unfoldable pub track_at : Contents → ℕ → Track
track_at c j = get_or c.tracks j no_track

-- the tracks that stand in couples
unfoldable pub coupled : List Couple → List ℕ
coupled cs = each (λ p. p.first ∷ p.second ∷ []) cs

-- two tracks make no couple: one of them is unknown, their ends don't mirror, or their capacities are unequal
unfoldable pub unlike : Contents → ℕ → ℕ → Bool
unlike c i j =
    leb (length c.tracks) i || leb (length c.tracks) j
    || not (leads (track_at c j).to (track_at c j).from (track_at c i))
    || not (eqb (track_at c i).capacity (track_at c j).capacity)

-- two known tracks whose ends mirror, of equal capacity, neither of them already coupled
unfoldable pub couple_rules : Contents → Couple → List Rule
couple_rules c p = wrong_couple when (unlike c p.first p.second || has (coupled c.couples) p.first || has (coupled c.couples) p.second) ∷ []

-- the rules of the body b of a field of the kind, at offset `at`, where the file holds c before it
unfoldable pub body_rules : Contents → ℕ → Kind → List ℕ → List Rule
body_rules c at no_field b = []
body_rules c at head b = head_rules (head_of b)
body_rules c at station b = station_rules (byte b 0)
body_rules c at track b = track_rules c (track_of b)
body_rules c at train b = train_rules c (train_of at b)
body_rules c at table b = table_rules c (table_of b)
body_rules c at couple b = couple_rules c (couple_of b)

-- ---- reading

-- of a field at the front of the bytes (one byte tag, two bytes length, body): its kind, its length, and its body
abbrev pub kind : List ℕ → Kind
kind l = kind_of (byte l 0)

abbrev pub size : List ℕ → ℕ
size l = word l 1

abbrev pub body : List ℕ → List ℕ
body l = take (size l) (drop 3 l)

-- the rules of the field at offset `at`, where the bytes l stand, in 01's order
unfoldable pub field_rules : File → Contents → ℕ → List ℕ → List Rule
field_rules f c at l =
    overrun when ltb (length l) 3
    ∷ unknown_tag when not (known (kind l))
    ∷ misplaced when not (in_place f c (kind l))
    ∷ wrong_length when not (has (lengths (kind l)) (size l))
    ∷ overrun when ltb (length l) (3 + size l)
    ∷ wrong_count when leb (most (kind l)) (how_many c (kind l))
    ∷ body_rules c at (kind l) (body l)

-- what the file holds with one field more, with its kind and its body b
unfoldable pub more : Contents → ℕ → Kind → List ℕ → Contents
more c at k b = record {
  rank = rank k;
  head = cond (is head k) (head_of b) c.head;
  stations = c.stations ++ one (is station k) (byte b 0);
  tracks = c.tracks ++ one (is track k) (track_of b);
  trains = c.trains ++ one (is train k) (train_of at b);
  tables = c.tables ++ one (is table k) (table_of b);
  couples = c.couples ++ one (is couple k) (couple_of b);
}

-- at the end of a case, no head, station or train
unfoldable pub end_rules : File → Contents → List Rule
end_rules case c = wrong_count when (eqb c.rank 0 || eqb (length c.stations) 0 || eqb (length c.trains) 0) ∷ []
end_rules book c = []

-- The field at offset `at`, where the bytes l stand, is judged and added to what the file holds, and `go` reads on after it. Where no byte is left, the end
-- of the file is judged.
unfoldable pub read_field : (ℕ → List ℕ → Contents → Result Contents) → File → ℕ → List ℕ → Contents → Result Contents
read_field go f at [] c = judged (end_rules f c) (spot f at) c
read_field go f at (b ∷ l) c =
    then (judged (field_rules f c at (b ∷ l)) (spot f at) (more c at (kind (b ∷ l)) (body (b ∷ l))))
    (go (at + (3 + size (b ∷ l))) (drop (3 + size (b ∷ l)) (b ∷ l)))

-- fields are read one after another; the first that isn't sound ends the reading. There are n turns, of which `read` gives enough
unfoldable pub read_fields : ℕ → File → ℕ → List ℕ → Contents → Result Contents
read_fields zero f at l c = answer c
read_fields (suc n) f at l c = read_field (read_fields n f) f at l c

-- what a file holds before its first field
abbrev pub empty : Contents
empty = record {
  rank = 0;
  head = record { last_minute = 0; safety = 0; room = 0 };
  stations = [];
  tracks = [];
  trains = [];
  tables = [];
  couples = [];
}

-- The reading of a whole file. Each turn takes a field, which has at least three bytes, or the end, so one turn more than there are bytes suffices:
-- more turns change nothing (`turns_suffice`, crate `theory_sound`).
unfoldable pub read : File → List ℕ → Result Contents
read f l = read_fields (suc (length l)) f 0 l empty

-- ---- case and book together

-- what an accepted case and its book come to: `tables` has for each train, by number, the pairs of its table
pub record Case : Type 0 where
  pub head : Head
  pub stations : List ℕ
  pub tracks : List Track
  pub couples : List Couple
  pub trains : List Train
  pub tables : List (List Pair)

-- the tables of the type: the one in the case comes first, and is used; otherwise the one in the book
unfoldable pub tables_of : Contents → Contents → ℕ → List Table
tables_of c k type = keep (λ d. eqb d.type type) (c.tables ++ k.tables)

-- the pairs of the first table
abbrev pub first_pairs : List Table → List Pair
first_pairs [] = []
first_pairs (d ∷ l) = d.pairs

-- the case of what the two files hold
unfoldable pub case_of : Contents → Contents → Case
case_of c k = record {
  head = c.head;
  stations = c.stations;
  tracks = c.tracks;
  couples = c.couples;
  trains = c.trains;
  tables = map (λ t. first_pairs (tables_of c k t.type)) c.trains;
}

-- the trains whose type has no table, by train number
abbrev pub lacking : Contents → Contents → List Train
lacking c k = keep (λ t. eqb (length (tables_of c k t.type)) 0) c.trains

-- the first train that lacks a table is refused 11 at the offset of its field; if none lacks one, the case is answered
abbrev pub none_lacking : List Train → Case → Result Case
none_lacking [] C = answer C
none_lacking (t ∷ ts) C = refuse (number no_table) (spot case t.place)

-- the case is read, then the book likewise, then 11 is looked for
unfoldable pub files : List ℕ → List ℕ → Result Case
files cs bk = then (read case cs) (λ c. then (read book bk) (λ k. none_lacking (lacking c k) (case_of c k)))
