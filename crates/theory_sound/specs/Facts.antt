-- What the runs need to know of a case, and the reading makes true of each case that it accepts. Assumes nothing: these are definitions.
use Rattle.std.specs.Prelude.{◌≡◌, true, false, List, [], ◌∷◌, map, ℕ, ◌≤◌, ◌<◌, length, get_or}
use Rattle.rules.specs.Lists.{any, sum}
use Rattle.rules.specs.Files.{Head, Track, Stop, Train, Pair, Couple, Case, leads, repeats, last_of, rising}
unfoldable pub use Rattle.rules.specs.Files.{coupled}
use Rattle.rules.specs.Turns.{Place, head_is, ahead}
use Rattle.theory_lists.specs.Every.{Every}

-- ---- every step of a path

abbrev pub Steps : (Stop → Stop → Type 0) → List Stop → Type 0
Steps R [] = Unit {0}
Steps R (a ∷ []) = Unit {0}
Steps R (a ∷ (b ∷ l)) = R a b × Steps R (b ∷ l)

-- one of the tracks leads from the first stop to the second
abbrev pub Joined : List Track → Stop → Stop → Type 0
Joined ts a b = any (leads a.station b.station) ts ≡ true

-- ---- what is sound

pub record SoundHead (h : Head) : Type 0 where
  pub some_minute : 1 ≤ h.last_minute
  pub in_window : h.last_minute ≤ 719
  pub short_safety : h.safety ≤ 30
  pub some_room : 1 ≤ h.room
  pub in_room : h.room ≤ 1024

-- of a station or a track
pub record SoundCapacity (n : ℕ) : Type 0 where
  pub some : 1 ≤ n
  pub few : n ≤ 255

-- among n stations
pub record SoundTrack (n : ℕ) (r : Track) : Type 0 where
  pub holds : SoundCapacity r.capacity
  pub known_from : r.from < n
  pub known_to : r.to < n
  pub two_ends : r.from ≡ r.to → ⊥

-- two of these tracks: there and back between the same ends, of one capacity
pub record SoundCouple (ts : List Track) (c : Couple) : Type 0 where
  pub known_first : c.first < length ts
  pub known_second : c.second < length ts
  pub there : get_or (map (λ r. r.from) ts) c.first 0 ≡ get_or (map (λ r. r.to) ts) c.second 0
  pub back : get_or (map (λ r. r.to) ts) c.first 0 ≡ get_or (map (λ r. r.from) ts) c.second 0
  pub equal : get_or (map (λ r. r.capacity) ts) c.first 0 ≡ get_or (map (λ r. r.capacity) ts) c.second 0

-- among n stations, on these tracks, up to the last minute T
pub record SoundTrain (n : ℕ) (ts : List Track) (T : ℕ) (t : Train) : Type 0 where
  pub some_stops : 2 ≤ length t.stops
  pub few_stops : length t.stops ≤ 8
  pub known_stations : Every (λ s. s.station < n) t.stops
  pub no_repeat : repeats (map (λ s. s.station) t.stops) ≡ false
  pub joined : Steps (Joined ts) t.stops
  pub stays : Every (λ s. s.arrival ≤ s.departure) t.stops
  pub drives : Steps (λ a b. a.departure < b.arrival) t.stops
  pub in_time : (last_of t.stops).departure ≤ T

pub record SoundPairs (ps : List Pair) : Type 0 where
  pub some_pair : 1 ≤ length ps
  pub few_pairs : length ps ≤ 8
  pub delays_rise : rising (map (λ p. p.delay) ps) ≡ true
  pub some_weight : Every (λ p. 1 ≤ p.weight) ps
  pub light : Every (λ p. p.weight ≤ 100) ps
  pub hundred : sum (λ p. p.weight) ps ≡ 100

pub record Sound (C : Case) : Type 0 where
  -- each step of a train's way leaves less of it ahead
  pub onward : (k : ℕ) (p e : Place) → head_is e (ahead C k p) ≡ true → length (ahead C k e) < length (ahead C k p)
  -- each train has a table, of 1 to 8 pairs whose weights sum to 100
  pub tabled : length C.tables ≡ length C.trains
  pub some_pair : (k : ℕ) → k < length C.trains → 1 ≤ length (get_or C.tables k [])
  pub few_pairs : (k : ℕ) → k < length C.trains → length (get_or C.tables k []) ≤ 8
  pub hundred : (k : ℕ) → k < length C.trains → sum (λ p. p.weight) (get_or C.tables k []) ≡ 100
  pub some_train : 1 ≤ length C.trains
  pub few_trains : length C.trains ≤ 7
  pub in_window : C.head.last_minute ≤ 719
  pub in_room : C.head.room ≤ 1024
  -- the rest of what the reading has seen
  pub head_sound : SoundHead C.head
  pub some_station : 1 ≤ length C.stations
  pub few_stations : length C.stations ≤ 24
  pub few_tracks : length C.tracks ≤ 40
  pub stations_sound : Every SoundCapacity C.stations
  pub tracks_sound : Every (SoundTrack (length C.stations)) C.tracks
  -- each couple's tracks lead there and back, and no track stands in two couples
  pub couples_sound : Every (SoundCouple C.tracks) C.couples
  pub coupled_once : repeats (coupled C.couples) ≡ false
  pub trains_sound : Every (SoundTrain (length C.stations) C.tracks C.head.last_minute) C.trains
  pub tables_sound : Every SoundPairs C.tables
