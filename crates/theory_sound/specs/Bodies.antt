-- A body that breaks no rule of its kind is a sound part of the case: head, station, track, train or table.
-- Each fact is read off a test that failed; how many stops or pairs there are follows from the field's length. Assumes nothing.
use Rattle.std.specs.Prelude.{◌≡◌, Bool, true, false, not, ◌||◌, List, map, ℕ, ◌+◌, ◌-◌, ◌*◌, ◌/◌, ◌≤◌, length, drop, leb, ltb, eqb}
use Rattle.std.proofs.Common.{◌∙◌, le_of_eq, arith, length-take, length-drop, ltb-false, leb-false, eqb-true}
use Rattle.std.proofs.lemmas.List.{length-map}
use Rattle.std.proofs.lemmas.Bool.{eqb-false, not-false}
use Rattle.rules.specs.Lists.{any, sum, below, has}
use Rattle.rules.specs.Files.{Head, Track, Stop, Train, Pair, Table, Contents, stop_of, train_of, pair_of, table_of, lengths, not_in, head_rules, station_rules, unknown, leads, track_rules, any_step, repeats, path_broken, last_of, times_broken, train_rules, rising, table_rules, size, body}
use Rattle.rules.specs.Files.Kind.{train, table}
use Rattle.theory_sound.specs.Facts.{SoundHead, SoundCapacity, SoundTrack, SoundTrain, SoundPairs}
use Rattle.theory_lists.specs.Tests.{or_false-first, or_false-second, or_three_false, eqb-zero-false}
use Rattle.theory_lists.specs.Every.{fails_every, has_every}
use Rattle.theory_lists.specs.Sums.{sum-at}
use Rattle.theory_lists.specs.Below.{length-span}
use Rattle.theory_sound.specs.Steps.{any_step-none}
use Rattle.theory_sound.specs.Verdicts.{Unbroken}

-- ---- ranges

not_in-low : (low high n : ℕ) → not_in low high n ≡ false → low ≤ n
not_in-low low high n h = ltb-false n low (or_false-first (ltb n low) (ltb high n) h)

not_in-high : (low high n : ℕ) → not_in low high n ≡ false → n ≤ high
not_in-high low high n h = ltb-false high n (or_false-second (ltb n low) (ltb high n) h)

capacity-sound : (n : ℕ) → not_in 1 255 n ≡ false → SoundCapacity n
capacity-sound n h = record { some = not_in-low 1 255 n h; few = not_in-high 1 255 n h }

-- ---- head, station and track

pub head_sound : (h : Head) → Unbroken (head_rules h) → SoundHead h
unfolding head_rules
head_sound h u = record {
  some_minute = not_in-low 1 719 h.last_minute in_range.0;
  in_window = not_in-high 1 719 h.last_minute in_range.0;
  short_safety = not_in-high 0 30 h.safety in_range.1;
  some_room = not_in-low 1 1024 h.room in_range.2;
  in_room = not_in-high 1 1024 h.room in_range.2;
}
  where
    in_range : (not_in 1 719 h.last_minute ≡ false) × (not_in 0 30 h.safety ≡ false) × (not_in 1 1024 h.room ≡ false)
    in_range = or_three_false (not_in 1 719 h.last_minute) (not_in 0 30 h.safety) (not_in 1 1024 h.room) u.0

pub station-sound : (n : ℕ) → Unbroken (station_rules n) → SoundCapacity n
unfolding station_rules
station-sound n u = capacity-sound n u.0

pub track-sound : (c : Contents) (r : Track) → Unbroken (track_rules c r) → SoundTrack (length c.stations) r
unfolding track_rules unknown
track-sound c r u = record {
  holds = capacity-sound r.capacity u.0;
  known_from = leb-false (length c.stations) r.from ends.0;
  known_to = leb-false (length c.stations) r.to ends.1;
  two_ends = eqb-false r.from r.to ends.2;
}
  where
    strange : ℕ → Bool
    strange s = leb (length c.stations) s

    again : Bool
    again = any (leads r.from r.to) c.tracks

    ends : (strange r.from ≡ false) × (strange r.to ≡ false) × (eqb r.from r.to ≡ false)
    ends =
        or_three_false (strange r.from) (strange r.to) (eqb r.from r.to)
        (or_false-first (strange r.from || strange r.to || eqb r.from r.to) again u.1.0)

-- ---- trains and tables

pub train-sound : (c : Contents) (t : Train) → 2 ≤ length t.stops → length t.stops ≤ 8 → Unbroken (train_rules c t)
    → SoundTrain (length c.stations) c.tracks c.head.last_minute t
unfolding train_rules path_broken times_broken unknown
train-sound c t some few u = record {
  some_stops = some;
  few_stops = few;
  known_stations = fails_every _ strange (λ s. leb-false (length c.stations) s.station) t.stops path.0;
  no_repeat = path.1;
  joined = any_step-none trackless (λ a b. not-false (any (leads a.station b.station) c.tracks)) t.stops path.2;
  stays = fails_every _ early (λ s. ltb-false s.departure s.arrival) t.stops times.0;
  drives = any_step-none backward (λ a b. leb-false b.arrival a.departure) t.stops times.1;
  in_time = ltb-false c.head.last_minute (last_of t.stops).departure times.2;
}
  where
    strange : Stop → Bool
    strange s = leb (length c.stations) s.station

    trackless : Stop → Stop → Bool
    trackless a b = not (any (leads a.station b.station) c.tracks)

    early : Stop → Bool
    early s = ltb s.departure s.arrival

    backward : Stop → Stop → Bool
    backward a b = leb b.arrival a.departure

    stations : List ℕ
    stations = map (λ s. s.station) t.stops

    late : Bool
    late = ltb c.head.last_minute (last_of t.stops).departure

    path : (any strange t.stops ≡ false) × (repeats stations ≡ false) × (any_step trackless t.stops ≡ false)
    path = or_three_false (any strange t.stops) (repeats stations) (any_step trackless t.stops) u.0

    times : (any early t.stops ≡ false) × (any_step backward t.stops ≡ false) × (late ≡ false)
    times = or_three_false (any early t.stops) (any_step backward t.stops) late u.1.0

pub table-sound : (c : Contents) (d : Table) → 1 ≤ length d.pairs → length d.pairs ≤ 8 → Unbroken (table_rules c d)
    → SoundPairs d.pairs
unfolding table_rules
table-sound c d some few u = record {
  some_pair = some;
  few_pairs = few;
  delays_rise = not-false (rising delays) rules.0;
  some_weight = fails_every _ weightless (λ p. eqb-zero-false p.weight) d.pairs rules.1;
  light = sum-at (λ p. p.weight) d.pairs 100 (le_of_eq hundred);
  hundred = hundred;
}
  where
    delays : List ℕ
    delays = map (λ p. p.delay) d.pairs

    weightless : Pair → Bool
    weightless p = eqb p.weight 0

    weight : ℕ
    weight = sum (λ p. p.weight) d.pairs

    again : Bool
    again = any (λ e. leb d.type e.type) c.tables

    rules : (not (rising delays) ≡ false) × (any weightless d.pairs ≡ false) × (not (eqb weight 100) ≡ false)
    rules =
        or_three_false (not (rising delays)) (any weightless d.pairs) (not (eqb weight 100))
        (or_false-first (not (rising delays) || any weightless d.pairs || not (eqb weight 100)) again u.0)

    hundred : weight ≡ 100
    hundred = eqb-true weight 100 (not-false (eqb weight 100) rules.2)

-- ---- how many stops and pairs a body has

pub body-length : (l : List ℕ) → 3 + size l ≤ length l → length (body l) ≡ size l
body-length l h = omega (arith, length-take (size l) (drop 3 l), length-drop 3 l)

stops-count : (at : ℕ) (b : List ℕ) → length (train_of at b).stops ≡ (length b - 2) / 5
unfolding train_of
stops-count at b =
    length-map (below ((length b - 2) / 5)) (λ k. stop_of (drop (2 + 5 * k) b)) ∙ length-span ((length b - 2) / 5) 0

pub pairs-count : (b : List ℕ) → length (table_of b).pairs ≡ (length b - 1) / 2
unfolding table_of
pairs-count b =
    length-map (below ((length b - 1) / 2)) (λ k. pair_of (drop (1 + 2 * k) b)) ∙ length-span ((length b - 1) / 2) 0

pub train-stops : (at : ℕ) (b : List ℕ) → has (lengths train) (length b) ≡ true → (2 ≤ length (train_of at b).stops) × (length (train_of at b).stops ≤ 8)
unfolding lengths
train-stops at b h =
    let n = has_every (λ m. (2 ≤ (m - 2) / 5) × ((m - 2) / 5 ≤ 8)) (lengths train) (length b) (omega arith) h in
    omega (arith, stops-count at b)

pub table-pairs : (b : List ℕ) → has (lengths table) (length b) ≡ true → (1 ≤ length (table_of b).pairs) × (length (table_of b).pairs ≤ 8)
unfolding lengths
table-pairs b h =
    let n = has_every (λ m. (1 ≤ (m - 1) / 2) × ((m - 1) / 2 ≤ 8)) (lengths table) (length b) (omega arith) h in
    omega (arith, pairs-count b)
