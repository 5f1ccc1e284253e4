-- What a file holds is sound after each accepted field: each of its parts is, and there are not too many.
-- A new part is sound by its body's rules; the old parts stay sound, since stations and tracks only grow and the head stands before the trains. Assumes nothing.
use Rattle.std.specs.Prelude.{◌≡◌, refl, Bool, true, false, not, ◌&&◌, cond, List, [], ◌++◌, ℕ, ◌≤◌, ◌<◌, length, leb, eqb}
use Rattle.std.proofs.Common.{sym, ap, ◌∙◌, subst, le_trans, arith, eqb-true, eq-eqb}
use Rattle.std.proofs.lemmas.Bool.{false≢true}
use Rattle.std.proofs.Math.ListN.{length-append}
use Rattle.rules.specs.Lists.{one, has}
use Rattle.rules.specs.Files.{Track, Train, Contents, File, Kind, byte, head_of, track_of, train_of, table_of, couple_of, rank, is, kind, in_place, lengths, most, how_many, leads, repeats, coupled, body_rules, size, body, more, empty}
use Rattle.rules.specs.Files.File.{case, book}
use Rattle.rules.specs.Files.Kind.{head, station, track, train, table, couple}
use Rattle.theory_lists.specs.Every.{Every, every_append-one, every_more, any-append-first}
use Rattle.theory_sound.specs.Facts.{SoundHead, SoundCapacity, SoundTrack, SoundTrain, SoundPairs, SoundCouple}
use Rattle.theory_sound.specs.Steps.{few-more, steps_map}
use Rattle.theory_sound.specs.Kinds.{is-kind, some-rank}
use Rattle.theory_sound.specs.Verdicts.{Unbroken, Field, with_field}
use Rattle.theory_sound.specs.Coupling.{NewCouple, couple-sound, couple-grows, coupled_once}
use Rattle.theory_sound.specs.Bodies.{head_sound, station-sound, track-sound, train-sound, table-sound, body-length, train-stops, table-pairs}

-- what an accepted file holds, after each of its fields
pub record Kept (c : Contents) : Type 0 where
  pub few_stations : length c.stations ≤ 24
  pub few_tracks : length c.tracks ≤ 40
  pub few_trains : length c.trains ≤ 7
  pub few_tables : length c.tables ≤ 8
  pub few_couples : length c.couples ≤ 20
  pub stations : Every SoundCapacity c.stations
  pub tracks : Every (SoundTrack (length c.stations)) c.tracks
  pub trains : Every (SoundTrain (length c.stations) c.tracks c.head.last_minute) c.trains
  pub tables : Every (λ d. SoundPairs d.pairs) c.tables
  pub couples : Every (SoundCouple c.tracks) c.couples
  pub once : repeats (coupled c.couples) ≡ false
  -- no train stands before the first field
  pub headed : c.rank ≡ 0 → c.trains ≡ []

pub kept-empty : Kept empty
unfolding coupled
kept-empty = record {
  few_stations = omega arith;
  few_tracks = omega arith;
  few_trains = omega arith;
  few_tables = omega arith;
  few_couples = omega arith;
  stations = tt;
  tracks = tt;
  trains = tt;
  tables = tt;
  couples = tt;
  once = refl;
  headed = λ h. refl;
}

-- ---- the old parts stay sound

track-grows : (n m : ℕ) → n ≤ m → (r : Track) → SoundTrack n r → SoundTrack m r
track-grows n m h r s = record {
  holds = s.holds;
  known_from = le_trans s.known_from h;
  known_to = le_trans s.known_to h;
  two_ends = s.two_ends;
}

train-grows : (n m : ℕ) → n ≤ m → (ts us : List Track) (T : ℕ) (t : Train) → SoundTrain n ts T t → SoundTrain m (ts ++ us) T t
train-grows n m h ts us T t s = record {
  some_stops = s.some_stops;
  few_stops = s.few_stops;
  known_stations = every_more _ _ (λ a k. le_trans k h) t.stops s.known_stations;
  no_repeat = s.no_repeat;
  joined = steps_map (λ a b j. any-append-first (leads a.station b.station) ts us j) t.stops s.joined;
  stays = s.stays;
  drives = s.drives;
  in_time = s.in_time;
}

-- ---- the head stands first

-- a field that is no head leaves the head as it is
head-stays : (c : Contents) (at : ℕ) (k : Kind) (b : List ℕ) → is head k ≡ false → (more c at k b).head ≡ c.head
unfolding more
head-stays c at k b h = ap (λ (t : Bool). cond t (head_of b) c.head) h

-- nothing stands before a head
pub head_first : (f : File) (c : Contents) → in_place f c head ≡ true → c.rank ≡ 0
unfolding in_place
head_first case c h = go (eqb c.rank 0) refl h
  where
    go : (b : Bool) → eqb c.rank 0 ≡ b → cond b true false ≡ true → c.rank ≡ 0
    go true e h = eqb-true c.rank 0 e
    go false e h = absurd (false≢true h)
head_first book c h = absurd (false≢true h)

-- a field at the start of a case is a head
head-starts : (c : Contents) (k : Kind) → in_place case c k ≡ true → is head k ≡ false → c.rank ≡ 0 → ⊥
unfolding in_place
head-starts c k h n z =
    false≢true (sym n ∙ subst (λ (t : Bool). cond t (is head k) (not (is head k) && leb c.rank (rank k)) ≡ true) (eq-eqb c.rank 0 z) h)

-- ---- one field more

module _ (f : File) (c : Contents) (at : ℕ) (l : List ℕ) (d : Field f c at l) where
  abbrev now : Contents
  now = with_field c at l

  -- what is known of the field, once its kind is
  unbroken_as : (j : Kind) → is j (kind l) ≡ true → Unbroken (body_rules c at j (body l))
  unbroken_as j e = subst (λ (k : Kind). Unbroken (body_rules c at k (body l))) (is-kind j (kind l) e) d.unbroken

  not-full_as : (j : Kind) → is j (kind l) ≡ true → how_many c j < most j
  not-full_as j e = subst (λ (k : Kind). how_many c k < most k) (is-kind j (kind l) e) d.not_full

  length_as : (j : Kind) → is j (kind l) ≡ true → has (lengths j) (length (body l)) ≡ true
  length_as j e =
      subst (λ (m : ℕ). has (lengths j) m ≡ true) (sym (body-length l d.whole))
      (subst (λ (k : Kind). has (lengths k) (size l) ≡ true) (is-kind j (kind l) e) d.a_length)

  new-head : is head (kind l) ≡ true → SoundHead now.head
  unfolding body_rules more
  new-head e = rw e (head_sound (head_of (body l)) (unbroken_as head e))

  new-station : is station (kind l) ≡ true → SoundCapacity (byte (body l) 0)
  unfolding body_rules
  new-station e = station-sound (byte (body l) 0) (unbroken_as station e)

  new-track : is track (kind l) ≡ true → SoundTrack (length c.stations) (track_of (body l))
  unfolding body_rules
  new-track e = track-sound c (track_of (body l)) (unbroken_as track e)

  new-train : is train (kind l) ≡ true → SoundTrain (length c.stations) c.tracks now.head.last_minute (train_of at (body l))
  unfolding body_rules
  new-train e =
      let n = train-stops at (body l) (length_as train e) in
      rw (head-stays c at (kind l) (body l) (ap (is head) (is-kind train (kind l) e)))
      (train-sound c (train_of at (body l)) n.0 n.1 (unbroken_as train e))

  new-table : is table (kind l) ≡ true → SoundPairs (table_of (body l)).pairs
  unfolding body_rules
  new-table e =
      let n = table-pairs (body l) (length_as table e) in
      table-sound c (table_of (body l)) n.0 n.1 (unbroken_as table e)

  new-couple : is couple (kind l) ≡ true → NewCouple c (couple_of (body l))
  unfolding body_rules
  new-couple e = couple-sound c (couple_of (body l)) (unbroken_as couple e)

  -- the trains so far, beside the head that now stands
  old-trains : Kept c → Every (SoundTrain (length c.stations) c.tracks now.head.last_minute) c.trains
  old-trains k = go (is head (kind l)) refl
    where
      go : (b : Bool) → is head (kind l) ≡ b → Every (SoundTrain (length c.stations) c.tracks now.head.last_minute) c.trains
      go true e =
          rw (k.headed (head_first f c (subst (λ (j : Kind). in_place f c j ≡ true) (is-kind head (kind l) e) d.stands_in_place))) tt
      go false e = rw (head-stays c at (kind l) (body l) e) k.trains

  more-stations : length c.stations ≤ length now.stations
  unfolding more
  more-stations = omega (arith, length-append c.stations (one (is station (kind l)) (byte (body l) 0)))

  pub kept_more : Kept c → Kept (with_field c at l)
  unfolding more how_many most
  kept_more k = record {
    few_stations = few-more 24 c.stations (is station (kind l)) (byte (body l) 0) k.few_stations (not-full_as station);
    few_tracks = few-more 40 c.tracks (is track (kind l)) (track_of (body l)) k.few_tracks (not-full_as track);
    few_trains = few-more 7 c.trains (is train (kind l)) (train_of at (body l)) k.few_trains (not-full_as train);
    few_tables = few-more 8 c.tables (is table (kind l)) (table_of (body l)) k.few_tables (not-full_as table);
    few_couples = few-more 20 c.couples (is couple (kind l)) (couple_of (body l)) k.few_couples (not-full_as couple);
    stations = every_append-one SoundCapacity c.stations (is station (kind l)) (byte (body l) 0) k.stations new-station;
    tracks = every_more _ _
        (track-grows (length c.stations) (length now.stations) more-stations)
        now.tracks
        (every_append-one (SoundTrack (length c.stations)) c.tracks (is track (kind l)) (track_of (body l)) k.tracks new-track);
    trains = every_more _ _
        (train-grows (length c.stations) (length now.stations) more-stations c.tracks (one (is track (kind l)) (track_of (body l))) now.head.last_minute)
        now.trains
        (every_append-one (SoundTrain (length c.stations) c.tracks now.head.last_minute) c.trains (is train (kind l)) (train_of at (body l)) (old-trains k) new-train);
    tables = every_append-one (λ d. SoundPairs d.pairs) c.tables (is table (kind l)) (table_of (body l)) k.tables new-table;
    couples = every_more _ _
        (couple-grows c.tracks (one (is track (kind l)) (track_of (body l))))
        now.couples
        (every_append-one (SoundCouple c.tracks) c.couples (is couple (kind l)) (couple_of (body l)) k.couples (λ e. (new-couple e).sound));
    once = coupled_once (length c.stations) c (is couple (kind l)) (couple_of (body l)) k.tracks k.once new-couple;
    headed = λ z. absurd (omega (arith, some-rank (kind l) d.a_tag, z));
  }

-- once a case has a field, its head is sound
abbrev pub Headed : Contents → Type 0
Headed c = (c.rank ≡ 0 → ⊥) → SoundHead c.head

pub headed-more : (c : Contents) (at : ℕ) (l : List ℕ) → Field case c at l → Headed c → Headed (with_field c at l)
headed-more c at l d h n = go (is head (kind l)) refl
  where
    go : (b : Bool) → is head (kind l) ≡ b → SoundHead (with_field c at l).head
    go true e = new-head case c at l d e
    go false e = rw (head-stays c at (kind l) (body l) e) (h (head-starts c (kind l) d.stands_in_place e))
