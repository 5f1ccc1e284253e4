-- The reading of a case and of a book, field by field. Assumes nothing: these are definitions.
use Rattle.std.specs.Prelude.{Bool, true, false, cond, not, List, ℕ, zero, suc, ◌+◌, ◌*◌, length, get_or, take, drop, leb, ltb, eqb}
use Rattle.rules.specs.Refusals.{number}
use Rattle.rules.specs.Refusals.Fault.{overrun, unknown_tag, misplaced, wrong_length, wrong_count}
use Rattle.rules.specs.Files.{word, most_trains}
use Rattle.file_bodies.specs.Bodies.{head_verdict, station_verdict, track_verdict, train_verdict, table_verdict, couple_verdict, bad_length}
use Rattle.file_reader.specs.declared.Seen.{Seen}
use Rattle.file_reader.specs.declared.Counts.{Counts}
use Rattle.file_reader.specs.Told.{Judged}
use Rattle.file_reader.specs.Told.Judged.{Sound, Unsound}
use Rattle.file_reader.specs.Told.{Reading}
use Rattle.file_reader.specs.Told.Reading.{Accepted, Refused}

-- 3: in a book a tag other than 5; in a case a first field that is no head, a second head or a falling tag
unfoldable pub out_of_place : Bool → Seen → ℕ → Bool
out_of_place book s tag =
    cond book (not (eqb tag 5))
    (cond (eqb s.heads 0) (not (eqb tag 1))
    (cond (eqb tag 1) true (ltb tag s.tag)))

-- 5: one station, track, train, table or couple too many
unfoldable pub too_many : Seen → ℕ → Bool
too_many s tag =
    cond (eqb tag 2) (leb 24 s.counts.stations)
    (cond (eqb tag 3) (leb 40 s.counts.tracks)
    (cond (eqb tag 4) (leb most_trains s.counts.trains)
    (cond (eqb tag 5) (leb 8 s.counts.tables)
    (cond (eqb tag 6) (leb 20 s.counts.couples) false))))

-- 2, 3, 4, 1 and 5, in this order, of a field with this tag and n bytes of body in a file of `size` bytes
unfoldable pub frame_verdict : ℕ → Bool → Seen → ℕ → ℕ → ℕ
frame_verdict size book s tag n =
    cond (eqb tag 0) (number unknown_tag)
    (cond (ltb 6 tag) (number unknown_tag)
    (cond (out_of_place book s tag) (number misplaced)
    (cond (bad_length tag n) (number wrong_length)
    (cond (ltb size (s.at + 3 + n)) (number overrun)
    (cond (too_many s tag) (number wrong_count) 0)))))

-- where the tracks begin: after the head's 8 bytes and each station's 4
abbrev pub base : Seen → ℕ
base s = 8 * s.heads + 4 * s.counts.stations

-- 6 to 10 and 18, by tag, of the body b after the bytes earlier
unfoldable pub body_verdict : List ℕ → Seen → ℕ → List ℕ → ℕ
body_verdict earlier s tag b =
    cond (eqb tag 1) (head_verdict b)
    (cond (eqb tag 2) (station_verdict b)
    (cond (eqb tag 3) (track_verdict earlier (base s) s.counts.tracks s.counts.stations b)
    (cond (eqb tag 4) (train_verdict earlier (base s) s.counts.tracks s.counts.stations b)
    (cond (eqb tag 6) (couple_verdict earlier (base s) s.counts.tracks s.counts.couples b)
    (table_verdict s.counts.tables s.kind b)))))

-- the first of two numbers that is not 0
abbrev pub or_else : ℕ → ℕ → ℕ
or_else zero b = b
or_else (suc a) b = suc a

abbrev pub tag_of : List ℕ → Seen → ℕ
tag_of l s = get_or l s.at 0

abbrev pub size_of : List ℕ → Seen → ℕ
size_of l s = word l (s.at + 1)

abbrev pub body_of : List ℕ → Seen → List ℕ
body_of l s = take (size_of l s) (drop (s.at + 3) l)

-- the number of what is wrong with the field at s.at, 0 if nothing is
unfoldable pub field_verdict : Bool → List ℕ → Seen → ℕ
field_verdict book l s =
    cond (ltb (length l) (s.at + 3)) (number overrun)
    (or_else (frame_verdict (length l) book s (tag_of l s) (size_of l s))
    (body_verdict (take s.at l) s (tag_of l s) (body_of l s)))

unfoldable pub counted : ℕ → ℕ → ℕ → ℕ
counted tag k n = cond (eqb tag k) (n + 1) n

-- the type of the last table
unfoldable pub newer : ℕ → ℕ → ℕ → ℕ
newer tag b kind = cond (eqb tag 5) b kind

-- what has been seen after a field of this tag that ends before `end`, and whose body starts with b
unfoldable pub after : Seen → ℕ → ℕ → ℕ → Seen
after s tag end b = record {
  at = end;
  tag = tag;
  heads = counted tag 1 s.heads;
  kind = newer tag b s.kind;
  counts = record {
    stations = counted tag 2 s.counts.stations;
    tracks = counted tag 3 s.counts.tracks;
    trains = counted tag 4 s.counts.trains;
    tables = counted tag 5 s.counts.tables;
    couples = counted tag 6 s.counts.couples;
  };
}

unfoldable pub next : List ℕ → Seen → Seen
next l s = after s (tag_of l s) (s.at + 3 + size_of l s) (get_or l (s.at + 3) 0)

abbrev pub judged : ℕ → Seen → Judged
judged zero s = Sound s
judged (suc n) s = Unsound (suc n)

unfoldable pub field_of : Bool → List ℕ → Seen → Judged
field_of book l s = judged (field_verdict book l s) (next l s)

abbrev pub counts_seen : Seen → Counts
counts_seen s = s.counts

-- the end of a file: 5 for a case with no head, station or train
unfoldable pub at_end : Bool → ℕ → Seen → Reading
at_end book size s =
    cond book (Accepted (counts_seen s))
    (cond (eqb s.heads 0) (Refused (number wrong_count) size)
    (cond (eqb s.counts.stations 0) (Refused (number wrong_count) size)
    (cond (eqb s.counts.trains 0) (Refused (number wrong_count) size)
    (Accepted (counts_seen s)))))

-- a field that is not sound ends the reading with its number, at its tag's offset
abbrev pub stopped : Judged → ℕ → Reading
stopped (Sound s) at = Refused 0 0
stopped (Unsound n) at = Refused n at

abbrev pub turn : (Seen → Reading) → ℕ → Judged → Reading
turn go at (Sound s) = go s
turn go at (Unsound n) = Refused n at

-- at most n fields from s on; the first that is not sound ends the reading, at its tag's offset
unfoldable pub read_from : ℕ → Bool → List ℕ → Seen → Reading
read_from zero book l s = Refused 0 0
read_from (suc n) book l s =
    cond (leb (length l) s.at)
    (at_end book (length l) s)
    (turn (read_from n book l) s.at (field_of book l s))

abbrev pub start : Seen
start = record { at = 0; tag = 0; heads = 0; kind = 0; counts = record { stations = 0; tracks = 0; trains = 0; tables = 0; couples = 0 } }

-- a file, from its first byte: a field has at least three bytes, so there are never more fields than bytes
unfoldable pub reading : Bool → List ℕ → Reading
reading book l = read_from (suc (length l)) book l start
