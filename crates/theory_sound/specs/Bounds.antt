-- An accepted case has at most 919 bytes and an accepted book at most 160, and more turns than the bytes need change nothing.
-- The offset of a field is at most what the fields before it may take, by their number of each kind; a turn is needed only for a field. Assumes nothing.
use Rattle.std.specs.Prelude.{◌≡◌, refl, true, List, [], ◌∷◌, ℕ, zero, suc, ◌+◌, ◌*◌, ◌≤◌, ◌<◌, length}
use Rattle.std.proofs.Common.{subst, not-suc-le-zero, arith}
use Rattle.std.proofs.lemmas.Bool.{false≢true}
use Rattle.rules.specs.Lists.{tick, has}
use Rattle.rules.specs.Refusals.{verdict, Result, then, answer_unless}
use Rattle.rules.specs.Refusals.Result.{answer}
use Rattle.rules.specs.Files.{Contents, File, Kind, spot, train_of, table_of, is, kind, in_place, lengths, size, body, field_rules, more, read_field, read_fields, empty, read}
use Rattle.rules.specs.Files.File.{case, book}
use Rattle.rules.specs.Files.Kind.{head, station, track, train, table, couple, no_field}
use Rattle.theory_lists.specs.Every.{Every, every_append-one, has_every}
use Rattle.theory_sound.specs.Steps.{length_more}
use Rattle.theory_sound.specs.Kinds.{is-kind, some-rank}
use Rattle.theory_sound.specs.Verdicts.{Field, field-accepted, past, rest, with_field, length_rest}
use Rattle.theory_sound.specs.Reading.{read_keeps}
use Rattle.theory_sound.specs.Kept.{Kept, kept-empty, kept_more, head_first}
use Rattle.theory_sound.specs.Accepted.{read_kept}

-- ---- bytes

-- the most that a head, s stations, r tracks, t trains, d tables and p couples may take
abbrev pub most_bytes : ℕ → ℕ → ℕ → ℕ → ℕ → ℕ
most_bytes s r t d p = 8 + 4 * s + 6 * r + 45 * t + 20 * d + 5 * p

-- at the offset of a field, what the fields before it hold
pub record Within (at : ℕ) (c : Contents) : Type 0 where
  pub kept : Kept c
  pub start : c.rank ≡ 0 → at ≡ 0
  pub extent : at ≤ most_bytes (length c.stations) (length c.tracks) (length c.trains) (length c.tables) (length c.couples)
  pub places : Every (λ t. t.place ≤ 919) c.trains

pub within-empty : Within 0 empty
within-empty = record { kept = kept-empty; start = λ z. refl; extent = omega arith; places = tt }

pub within-bytes : (at : ℕ) (c : Contents) → Within at c → at ≤ 919
within-bytes at c w = omega (arith, w.extent, w.kept.few_stations, w.kept.few_tracks, w.kept.few_trains, w.kept.few_tables, w.kept.few_couples)

-- a field takes at most what its kind allows
field-extent : (at s r t d p : ℕ) (k : Kind) (n : ℕ) → has (lengths k) n ≡ true → (is head k ≡ true → at ≡ 0) → at ≤ most_bytes s r t d p
    → at + (3 + n) ≤ most_bytes (s + tick (is station k)) (r + tick (is track k)) (t + tick (is train k)) (d + tick (is table k)) (p + tick (is couple k))
unfolding lengths
field-extent at s r t d p no_field n h z e = absurd (false≢true h)
field-extent at s r t d p head n h z e = omega (arith, has_every (λ m. m ≤ 5) (lengths head) n (omega arith) h, z refl)
field-extent at s r t d p station n h z e = omega (arith, has_every (λ m. m ≤ 1) (lengths station) n (omega arith) h)
field-extent at s r t d p track n h z e = omega (arith, has_every (λ m. m ≤ 3) (lengths track) n (omega arith) h)
field-extent at s r t d p train n h z e = omega (arith, has_every (λ m. m ≤ 42) (lengths train) n (omega arith) h)
field-extent at s r t d p table n h z e = omega (arith, has_every (λ m. m ≤ 17) (lengths table) n (omega arith) h)
field-extent at s r t d p couple n h z e = omega (arith, has_every (λ m. m ≤ 2) (lengths couple) n (omega arith) h)

pub within_more : (f : File) (c : Contents) (at : ℕ) (l : List ℕ) → Field f c at l → Within at c
    → Within (past at l) (with_field c at l)
unfolding more train_of
within_more f c at l d w = record {
  kept = kept_more f c at l d w.kept;
  start = λ z. absurd (omega (arith, some-rank (kind l) d.a_tag, z));
  extent = simp length_more extent;
  places = every_append-one (λ t. t.place ≤ 919) c.trains (is train (kind l)) (train_of at (body l)) w.places (λ e. within-bytes at c w);
}
  where
    first : is head (kind l) ≡ true → at ≡ 0
    first e = w.start (head_first f c (subst (λ (k : Kind). in_place f c k ≡ true) (is-kind head (kind l) e) d.stands_in_place))

    extent : past at l
        ≤ most_bytes (length c.stations + tick (is station (kind l))) (length c.tracks + tick (is track (kind l)))
        (length c.trains + tick (is train (kind l))) (length c.tables + tick (is table (kind l))) (length c.couples + tick (is couple (kind l)))
    extent =
        field-extent at (length c.stations) (length c.tracks) (length c.trains) (length c.tables) (length c.couples)
        (kind l) (size l) d.a_length first w.extent

pub case-bytes : (l : List ℕ) (c : Contents) → read case l ≡ answer c → length l ≤ 919
case-bytes l c h = within-bytes (length l) c (read_keeps case Within (within_more case) l c within-empty h).0

table-extent : (c : Contents) (at : ℕ) (l : List ℕ) → Field book c at l → at ≤ 20 * length c.tables
    → past at l ≤ 20 * length (with_field c at l).tables
unfolding more lengths in_place
table-extent c at l d h = rw d.stands_in_place (omega (arith, length_more c.tables true (table_of (body l)), small))
  where
    small : size l ≤ 17
    small =
        has_every (λ m. m ≤ 17) (lengths table) (size l) (omega arith)
        (subst (λ (k : Kind). has (lengths k) (size l) ≡ true) (is-kind table (kind l) d.stands_in_place) d.a_length)

pub book-bytes : (l : List ℕ) (c : Contents) → read book l ≡ answer c → length l ≤ 160
book-bytes l c h =
    let w = (read_keeps book (λ at k. at ≤ 20 * length k.tables) table-extent l c (omega arith) h).0 in
    let k = read_kept book l c h in
    omega arith

-- ---- turns

pub read_fields-turns : (n m : ℕ) (f : File) (at : ℕ) (l : List ℕ) (c : Contents) → length l < n → length l < m
    → read_fields n f at l c ≡ read_fields m f at l c
unfolding read_fields read_field
read_fields-turns zero m f at l c h k = absurd (not-suc-le-zero h)
read_fields-turns (suc n) zero f at l c h k = absurd (not-suc-le-zero k)
read_fields-turns (suc n) (suc m) f at [] c h k = refl
read_fields-turns (suc n) (suc m) f at (b ∷ l) c h k =
    go (verdict (field_rules f c at (b ∷ l))) (field-accepted f c at (b ∷ l))
    (read_fields-turns n m f (past at (b ∷ l)) (rest (b ∷ l)) (with_field c at (b ∷ l)))
  where
    on : ℕ → Contents → Result Contents
    on n = read_fields n f (past at (b ∷ l)) (rest (b ∷ l))

    now : Contents
    now = with_field c at (b ∷ l)

    go : (v : ℕ) → (v ≡ 0 → Field f c at (b ∷ l)) → (length (rest (b ∷ l)) < n → length (rest (b ∷ l)) < m → on n now ≡ on m now)
        → then (answer_unless v (spot f at) now) (on n) ≡ then (answer_unless v (spot f at) now) (on m)
    go zero e r = r (omega (arith, length_rest (b ∷ l), h)) (omega (arith, length_rest (b ∷ l), k))
    go (suc v) e r = refl

-- a reading with more turns than the file has bytes is the reading
pub turns_suffice : (n : ℕ) (f : File) (l : List ℕ) → length l < n → read_fields n f 0 l empty ≡ read f l
unfolding read
turns_suffice n f l h = read_fields-turns n (suc (length l)) f 0 l empty h (omega arith)
