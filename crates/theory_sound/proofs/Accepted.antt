-- A case that is accepted is sound: `accepted-sound`, from the bytes of the two files alone.
-- What the two files hold is kept through the reading, and each train's table is one of theirs. Assumes nothing.
use Rattle.std.specs.Prelude.{◌≡◌, refl, true, false, List, [], ◌∷◌, ◌++◌, map, ℕ, ◌≤◌, ◌<◌, length, get_or, eqb}
use Rattle.std.proofs.Common.{not-suc-le-zero, arith}
use Rattle.std.proofs.lemmas.List.{length-map}
use Rattle.rules.specs.Refusals.Result.{answer}
use Rattle.rules.specs.Files.{Train, Table, Contents, Case, tables_of, first_pairs, case_of, files, repeats}
use Rattle.rules.specs.Files.File.{case, book}
use Rattle.rules.specs.Turns.{Place, head_is, train_at, ahead, absent}
use Rattle.theory_lists.specs.Every.{Every, every_append, every_keep, every_image, every_more, every_at, every_anywhere}
use Rattle.theory_sound.specs.Facts.{Steps, Joined, SoundTrain, SoundPairs, Sound}
use Rattle.theory_sound.specs.Kept.{Kept}
use Rattle.theory_sound.specs.Ways.{ahead_shorter}
use Rattle.theory_sound.specs.Accepted.{accepted_reads, read_kept, Complete, case_complete}

-- ---- the tables of the trains

first-sound : (ds : List Table) → 1 ≤ length ds → Every (λ d. SoundPairs d.pairs) ds → SoundPairs (first_pairs ds)
first-sound [] h e = absurd (not-suc-le-zero h)
first-sound (d ∷ ds) h e = e.0

tables_sound : (c k : Contents) → Kept c → Kept k → Every (λ t. 1 ≤ length (tables_of c k t.type)) c.trains → Every SoundPairs (case_of c k).tables
unfolding case_of tables_of
tables_sound c k p q e =
    every_image SoundPairs (λ t. first_pairs (tables_of c k t.type)) c.trains
    (every_more _ _ (λ t n. first-sound (tables_of c k t.type) n (every_keep S (λ d. eqb d.type t.type) (c.tables ++ k.tables) all)) c.trains e)
  where
    S : Table → Type 0
    S d = SoundPairs d.pairs

    all : Every S (c.tables ++ k.tables)
    all = every_append S c.tables k.tables p.tables q.tables

-- the trains of a case go onward; of a train that is not there nothing is ahead
trains-onward : (C : Case) (n T : ℕ) → Every (SoundTrain n C.tracks T) C.trains
    → (k : ℕ) (p e : Place) → head_is e (ahead C k p) ≡ true → length (ahead C k e) < length (ahead C k p)
trains-onward C n T e k = ahead_shorter C k path.0 path.1
  where
    Onward : Train → Type 0
    Onward t = (repeats (map (λ s. s.station) t.stops) ≡ false) × Steps (Joined C.tracks) t.stops

    path : Onward (train_at C k)
    path = every_anywhere Onward C.trains absent (refl, tt) (every_more _ _ (λ t s. (s.no_repeat, s.joined)) C.trains e) k

case-sound : (c k : Contents) → Kept c → Kept k → Complete c → Every (λ t. 1 ≤ length (tables_of c k t.type)) c.trains → Sound (case_of c k)
unfolding case_of
case-sound c k p q w e = record {
  onward = trains-onward (case_of c k) (length c.stations) c.head.last_minute p.trains;
  tabled = tabled;
  some_pair = λ i h. (at i h).some_pair;
  few_pairs = λ i h. (at i h).few_pairs;
  hundred = λ i h. (at i h).hundred;
  some_train = w.some_train;
  few_trains = p.few_trains;
  in_window = w.head.in_window;
  in_room = w.head.in_room;
  head_sound = w.head;
  some_station = w.some_station;
  few_stations = p.few_stations;
  few_tracks = p.few_tracks;
  stations_sound = p.stations;
  tracks_sound = p.tracks;
  couples_sound = p.couples;
  coupled_once = p.once;
  trains_sound = p.trains;
  tables_sound = tables_sound c k p q e;
}
  where
    tabled : length (case_of c k).tables ≡ length c.trains
    tabled = length-map c.trains (λ t. first_pairs (tables_of c k t.type))

    at : (i : ℕ) → i < length c.trains → SoundPairs (get_or (case_of c k).tables i [])
    at i h = every_at SoundPairs (case_of c k).tables [] (tables_sound c k p q e) i (omega (arith, tabled, h))

pub accepted-sound : (cs bk : List ℕ) (C : Case) → files cs bk ≡ answer C → Sound C
accepted-sound cs bk C h =
    let r = accepted_reads cs bk C h in
    let c = r.of_case in
    let k = r.of_book in
    rw r.assembled
    (case-sound c k (read_kept case cs c r.case_read) (read_kept book bk k r.book_read) (case_complete cs c r.case_read) r.found)
