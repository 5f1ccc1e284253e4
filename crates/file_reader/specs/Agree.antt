-- The reading by offset answers what 01's reading answers, for every list of numbers: field by field the verdicts agree, and the state
-- goes on holding what the contents say. Assumes nothing.
use Rattle.std.specs.Prelude.{◌≡◌, refl, Bool, true, false, cond, ◌||◌, List, ℕ, zero, suc, ◌+◌, ◌<◌, length, drop, leb, eqb}
use Rattle.std.proofs.Common.{ap, sym, ◌∙◌, arith, drop_of_length-le, leb-true, leb-false}
use Rattle.rules.specs.Refusals.{Result, verdict, first_of, then, answer_unless}
use Rattle.rules.specs.Files.{File, Contents, coupled, kind_of, spot, more, end_rules, read_field, read_fields, empty, read}
use Rattle.rules.specs.Files.File.{case, book}
use Rattle.file_fields.specs.Fields.{past}
use Rattle.file_fields.specs.At.{read_here}
use Rattle.file_bodies.specs.Bodies.{joined, taken}
use Rattle.file_bodies.specs.Search.{any_none}
use Rattle.file_reader.specs.declared.Seen.{Seen}
use Rattle.file_reader.specs.Told.Reading.{Accepted, Refused}
use Rattle.file_reader.specs.Reading.{tag_of, body_of, field_verdict, after, next, judged, field_of, counts_seen, at_end, turn, read_from, start, reading}
use Rattle.file_reader.specs.Facts.{Within}
use Rattle.file_reader.specs.Laws.{within-start, within-next}
use Rattle.file_reader.specs.Places.{placed-start}
use Rattle.file_reader.specs.Holds.{is_book, OfFile, Holds, same-zero, field_agrees}
use Rattle.file_reader.specs.More.{holds-next}
use Rattle.file_reader.specs.Answers.{counts_of, reading_of}

counts_same : (f : File) (l : List ℕ) (s : Seen) (c : Contents) → Holds f l s c → counts_seen s ≡ counts_of c
counts_same f l s c h = rw (h.stations, h.tracks, h.trains, h.tables, h.couples)

-- ---- the end

end_agrees : (f : File) (l : List ℕ) (s : Seen) (c : Contents) → Holds f l s c → at_end (is_book f) s.at s ≡ reading_of (answer_unless (verdict (end_rules f c)) (spot f s.at) c)
unfolding at_end end_rules
end_agrees case l s c h =
    let z : eqb s.heads 0 ≡ eqb c.rank 0 = sym (same-zero s.tag s.heads h.is_of_file.unheaded h.is_of_file.placed.headed) ∙ ap (λ (k : ℕ). eqb k 0) (sym h.same_rank) in
    rw (z, ← h.stations, ← h.tracks, ← h.trains, ← h.tables, ← h.couples) (go (eqb c.rank 0) (eqb (length c.stations) 0) (eqb (length c.trains) 0))
  where
    go : (p q r : Bool) → cond p (Refused 5 s.at) (cond q (Refused 5 s.at) (cond r (Refused 5 s.at) (Accepted (counts_of c)))) ≡ reading_of (answer_unless (first_of ((p || q) || r) 5 0) (spot case s.at) c)
    go true q r = refl
    go false true r = refl
    go false false true = refl
    go false false false = refl
end_agrees book l s c h = ap Accepted (counts_same book l s c h)

-- ---- one field and those after it

-- the reading of a field goes on past it, by the state's verdict
read-seen : (go : ℕ → List ℕ → Contents → Result Contents) (f : File) (l : List ℕ) (s : Seen) (c : Contents) → Holds f l s c → Within l s → s.at < length l
    → read_field go f s.at (drop s.at l) c
    ≡ then (answer_unless (field_verdict (is_book f) l s) (spot f s.at) (more c s.at (kind_of (tag_of l s)) (body_of l s))) (go (past l s.at) (drop (past l s.at) l))
read-seen go f l s c h w k = read_here l s.at go f c k ∙ rw (field_agrees f l s c h w)

agrees : (f : File) (l : List ℕ) (n : ℕ) (s : Seen) (c : Contents) → Holds f l s c → Within l s → length l < s.at + n
    → read_from n (is_book f) l s ≡ reading_of (read_fields n f s.at (drop s.at l) c)
unfolding read_from read_fields read_field field_of next after
agrees f l zero s c h w k = absurd (omega arith)
agrees f l (suc n) s c h w k = go (leb (length l) s.at) refl (λ t d. agrees f l n t d)
  where
    rest : (v : ℕ) → field_verdict (is_book f) l s ≡ v → s.at < length l
        → ((t : Seen) (d : Contents) → Holds f l t d → Within l t → length l < t.at + n → read_from n (is_book f) l t ≡ reading_of (read_fields n f t.at (drop t.at l) d))
        → turn (read_from n (is_book f) l) s.at (judged v (next l s))
        ≡ reading_of (then (answer_unless v (spot f s.at) (more c s.at (kind_of (tag_of l s)) (body_of l s))) (read_fields n f (past l s.at) (drop (past l s.at) l)))
    rest zero e p ih = ih (next l s) (more c s.at (kind_of (tag_of l s)) (body_of l s)) (holds-next f l s c h w e) (within-next l (is_book f) s w e) (omega arith)
    rest (suc v) e p ih = refl

    go : (b : Bool) → leb (length l) s.at ≡ b
        → ((t : Seen) (d : Contents) → Holds f l t d → Within l t → length l < t.at + n → read_from n (is_book f) l t ≡ reading_of (read_fields n f t.at (drop t.at l) d))
        → cond b (at_end (is_book f) (length l) s) (turn (read_from n (is_book f) l) s.at (field_of (is_book f) l s)) ≡ reading_of (read_field (read_fields n f) f s.at (drop s.at l) c)
    go true e ih =
        let a = leb-true (length l) s.at e in
        let p : length l ≡ s.at = omega arith in
        rw (p, drop_of_length-le l a) (end_agrees f l s c h)
    go false e ih =
        let a = leb-false (length l) s.at e in
        rest (field_verdict (is_book f) l s) refl a ih ∙ sym (ap reading_of (read-seen (read_fields n f) f l s c h w a))

-- nothing read yet
pub holds-start : (f : File) (l : List ℕ) → Holds f l start empty
unfolding joined taken coupled
holds-start f l = record { same_rank = refl; stations = refl; tracks = refl; trains = refl; tables = refl; couples = refl; types = λ x. refl; is_of_file = go f }
  where
    go : (f : File) → OfFile f l start empty
    go case = record {
      placed = placed-start;
      unheaded = λ z. refl;
      untouched = λ z. refl;
      reached = omega arith;
      head_stands = λ z. absurd (z refl);
      stations_stand = λ j k. absurd (omega arith);
      tracks_stand = λ j k. absurd (omega arith);
      tracks_lead = λ from to. any_none _;
      couples_stand = λ t. any_none _;
    }
    go book = tt

pub reading_agrees : (f : File) (l : List ℕ) → reading (is_book f) l ≡ reading_of (read f l)
unfolding reading read
reading_agrees f l = agrees f l (suc (length l)) start empty (holds-start f l) (within-start l) (omega arith)
