-- What the runs may take from a sound case about a train's way: its places are known and all different, and its times are within the window.
-- Each is by induction on the train's stops; of a train that is not there the way is empty. Assumes nothing.
use Rattle.std.specs.Prelude.{◌≡◌, Bool, true, false, ◌||◌, cond, List, [], ◌∷◌, ℕ, suc, ◌≤◌, ◌<◌, length}
use Rattle.std.proofs.lemmas.Bool.{false≢true}
use Rattle.std.proofs.Common.{arith}
use Rattle.rules.specs.Lists.{any}
use Rattle.rules.specs.Files.{Track, Stop, Train, Case, leads, last_of}
use Rattle.rules.specs.Turns.{Place, same, Leg, leg, absent, train_at, track_from, legs, way, planned_on}
use Rattle.rules.specs.Turns.Place.{outside, station, track, gone}
use Rattle.rules.specs.Figures.{plan}
use Rattle.theory_lists.specs.Every.{Every, every_more, every_at, every_anywhere}
use Rattle.theory_sound.specs.Facts.{Steps, Joined, SoundTrain, Sound}
use Rattle.theory_sound.specs.Steps.{every_last}
use Rattle.theory_sound.specs.Ways.{Apart, legs-apart, legs-outside}

-- what holds of each sound train, and of the train that is not there, holds at any number
pub anywhere : (P : Train → Type 0) (C : Case) → Sound C → P absent
    → ((t : Train) → SoundTrain (length C.stations) C.tracks C.head.last_minute t → P t) → (k : ℕ) → P (train_at C k)
anywhere P C s a f k = every_anywhere P C.trains absent a (every_more _ _ f C.trains s.trains_sound) k

-- ---- places

-- an element of the case, or the way out
abbrev pub Known : Case → Place → Type 0
Known C outside = ⊥
Known C (station i) = i < length C.stations
Known C (track j) = j < length C.tracks
Known C gone = Unit {0}

track_from-known : (a b : ℕ) (ts : List Track) → any (leads a b) ts ≡ true → track_from a b ts < length ts
track_from-known a b [] h = absurd (false≢true h)
track_from-known a b (r ∷ ts) h = go (leads a b r) h (track_from-known a b ts)
  where
    go : (t : Bool) → (t || any (leads a b) ts) ≡ true → (any (leads a b) ts ≡ true → track_from a b ts < length ts)
        → cond t 0 (suc (track_from a b ts)) < suc (length ts)
    go true h i = omega arith
    go false h i = omega (arith, i h)

legs-known : (C : Case) (stops : List Stop) → Every (λ s. s.station < length C.stations) stops → Steps (Joined C.tracks) stops
    → Every (λ l. Known C l.place) (legs C.tracks stops)
legs-known C [] e j = tt
legs-known C (a ∷ []) e j = (e.0, (tt, tt))
legs-known C (a ∷ (b ∷ l)) e j =
    (e.0, (track_from-known a.station b.station C.tracks j.0, legs-known C (b ∷ l) e.1 j.1))

pub way-known : (C : Case) → Sound C → (k : ℕ) → Every (λ l. Known C l.place) (way C k)
unfolding way
way-known C s =
    anywhere (λ t. Every (λ l. Known C l.place) (legs C.tracks t.stops)) C s tt
    (λ t u. legs-known C t.stops u.known_stations u.joined)

pub way_apart : (C : Case) → Sound C → (k : ℕ) → Apart (leg outside 0 ∷ way C k)
unfolding way
way_apart C s =
    anywhere (λ t. Apart (leg outside 0 ∷ legs C.tracks t.stops)) C s (tt, tt)
    (λ t u. (legs-outside C.tracks t.stops u.joined, legs-apart C.tracks t.stops u.no_repeat u.joined))

-- ---- times

stops-in_time : (T : ℕ) (stops : List Stop) → Every (λ s. s.arrival ≤ s.departure) stops → Steps (λ a b. a.departure < b.arrival) stops
    → (last_of stops).departure ≤ T → Every (λ s. s.departure ≤ T) stops
stops-in_time T [] e d h = tt
stops-in_time T (a ∷ []) e d h = (h, tt)
stops-in_time T (a ∷ (b ∷ l)) e d h =
    let r = stops-in_time T (b ∷ l) e.1 d.1 h in
    (omega arith, r)

-- no departure of a sound train is past T
pub train-in_time : (n : ℕ) (ts : List Track) (T : ℕ) (t : Train) → SoundTrain n ts T t → Every (λ s. s.departure ≤ T) t.stops
train-in_time n ts T t s = stops-in_time T t.stops s.stays s.drives s.in_time

legs-planned : (ts : List Track) (T : ℕ) (stops : List Stop) → Every (λ s. s.departure ≤ T) stops → Every (λ s. s.arrival ≤ s.departure) stops
    → Every (λ l. l.planned ≤ T) (legs ts stops)
legs-planned ts T [] e d = tt
legs-planned ts T (a ∷ []) e d = (omega arith, (omega arith, tt))
legs-planned ts T (a ∷ (b ∷ l)) e d = (omega arith, (omega arith, legs-planned ts T (b ∷ l) e.1 d.1))

pub way-planned : (C : Case) → Sound C → (k : ℕ) → Every (λ l. l.planned ≤ C.head.last_minute) (way C k)
unfolding way
way-planned C s =
    anywhere (λ t. Every (λ l. l.planned ≤ C.head.last_minute) (legs C.tracks t.stops)) C s tt
    (λ t u. legs-planned C.tracks C.head.last_minute t.stops (train-in_time (length C.stations) C.tracks C.head.last_minute t u) u.stays)

-- what is planned on one place is at most what is planned on any
pub planned-low : (T : ℕ) (e : Place) (ls : List Leg) → Every (λ l. l.planned ≤ T) ls → planned_on e ls ≤ T
planned-low T e [] h = omega arith
planned-low T e (l ∷ ls) h = go (same l.place e) (planned-low T e ls h.1)
  where
    go : (b : Bool) → planned_on e ls ≤ T → cond b l.planned (planned_on e ls) ≤ T
    go true q = h.0
    go false q = q

-- a train is planned to arrive by the last minute
pub plan-most : (C : Case) → Sound C → (k : ℕ) → k < length C.trains → plan C k ≤ C.head.last_minute
unfolding plan
plan-most C s k l =
    let t : SoundTrain (length C.stations) C.tracks C.head.last_minute (train_at C k) =
    every_at (SoundTrain (length C.stations) C.tracks C.head.last_minute) C.trains absent s.trains_sound k l
    in
    omega (arith, t.in_time, every_last (λ u. u.arrival ≤ u.departure) (train_at C k).stops (omega (arith, t.some_stops)) t.stays)
