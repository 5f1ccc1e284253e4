-- A refusal of two files is what `Told` says. The place is the offset of a field or of the end, and these are within 919 as far as fields were accepted.
-- Assumes nothing.
use Rattle.std.specs.Prelude.{◌≡◌, refl, List, [], ◌∷◌, ℕ, zero, suc, ◌≤◌, length, eqb}
use Rattle.std.proofs.Common.{sym, subst, arith}
use Rattle.rules.specs.Refusals.{number, Rule, verdict, Refusal}
use Rattle.rules.specs.Refusals.Fault.{no_table}
use Rattle.rules.specs.Refusals.Result.{refused}
use Rattle.rules.specs.Files.{Train, File, file_number, spot, Contents, Kind, kind, head_rules, station_rules, track_rules, train_rules, table_rules, couple_rules, body_rules, body, field_rules, end_rules, read_field, read_fields, empty, read, Case, tables_of, case_of, lacking, none_lacking, files}
use Rattle.rules.specs.Files.File.{case, book}
use Rattle.rules.specs.Files.Kind.{head, station, track, train, table, couple, no_field}
use Rattle.theory_lists.specs.Every.{Every, every_keep}
use Rattle.theory_sound.specs.Verdicts.{refused-answer, refused-refused, unless_refused, onward-refused, then-refused, number-given, verdict_every, field-accepted, past, rest, with_field}
use Rattle.theory_sound.proofs.Verdicts.{verdict-given}
use Rattle.theory_sound.specs.Reading.{read_keeps}
use Rattle.theory_sound.specs.Bounds.{Within, within-empty, within-bytes, within_more}
use Rattle.theory_sound.specs.Places.{OfFiles, Told}

file-few : (f : File) → file_number f ≤ 1
file-few case = omega arith
file-few book = omega arith

-- ---- one file

low : (n : ℕ) → n ≤ 11 → OfFiles n
low n h = record { most = omega arith; not_of_calls = λ k. absurd (omega arith) }

-- a rule of the reading
abbrev Read : Rule → Type 0
Read r = OfFiles (number r.fault)

body-read : (c : Contents) (at : ℕ) (k : Kind) (b : List ℕ) → Every Read (body_rules c at k b)
unfolding body_rules head_rules station_rules track_rules train_rules table_rules couple_rules
body-read c at no_field b = tt
body-read c at head b = (low 6 (omega arith), tt)
body-read c at station b = (low 6 (omega arith), tt)
body-read c at track b = (low 6 (omega arith), (low 7 (omega arith), tt))
body-read c at train b = (low 8 (omega arith), (low 9 (omega arith), tt))
body-read c at table b = (low 10 (omega arith), tt)
body-read c at couple b = (record { most = omega arith; not_of_calls = λ k. refl }, tt)

field-of_files : (f : File) (c : Contents) (at : ℕ) (l : List ℕ) → OfFiles (verdict (field_rules f c at l))
unfolding field_rules
field-of_files f c at l =
    verdict_every OfFiles (field_rules f c at l) (low 0 (omega arith))
    (low 1 (omega arith), (low 2 (omega arith), (low 3 (omega arith), (low 4 (omega arith), (low 1 (omega arith), (low 5 (omega arith), body-read c at (kind l) (body l)))))))

end-of_files : (f : File) (c : Contents) → OfFiles (verdict (end_rules f c))
unfolding end_rules
end-of_files case c = verdict_every OfFiles (end_rules case c) (low 0 (omega arith)) (low 5 (omega arith), tt)
end-of_files book c = low 0 (omega arith)

told : (f : File) (c : Contents) (at : ℕ) (rs : List Rule) (r : Refusal) → Within at c → OfFiles (verdict rs) → 1 ≤ verdict rs
    → record { number = verdict rs; file = file_number f; place = at } ≡ r → Told r
told f c at rs r p of_files some e =
    subst Told e (record { given = verdict-given rs some; of_files = of_files; two_files = file-few f; in_reach = within-bytes at c p })

read_fields-told : (n at : ℕ) (f : File) (l : List ℕ) (c : Contents) (r : Refusal) → Within at c → read_fields n f at l c ≡ refused r → Told r
unfolding read_fields read_field
read_fields-told zero at f l c r p h = absurd (refused-answer r c (sym h))
read_fields-told (suc n) at f [] c r p h =
    let u = unless_refused (verdict (end_rules f c)) (spot f at) c r h in
    told f c at (end_rules f c) r p (end-of_files f c) u.0 u.1
read_fields-told (suc n) at f (b ∷ l) c r p h =
    onward-refused (Told r) (verdict (field_rules f c at (b ∷ l))) (spot f at) (with_field c at (b ∷ l)) (read_fields n f (past at (b ∷ l)) (rest (b ∷ l))) r h
    (λ z e. read_fields-told n (past at (b ∷ l)) f (rest (b ∷ l)) (with_field c at (b ∷ l)) r (within_more f c at (b ∷ l) (field-accepted f c at (b ∷ l) z) p) e)
    (told f c at (field_rules f c at (b ∷ l)) r p (field-of_files f c at (b ∷ l)))

pub read_told : (f : File) (l : List ℕ) (r : Refusal) → read f l ≡ refused r → Told r
unfolding read
read_told f l r h = read_fields-told (suc (length l)) 0 f l empty r within-empty h

-- ---- both files

lacking-told : (ts : List Train) (C : Case) (r : Refusal) → Every (λ t. t.place ≤ 919) ts → none_lacking ts C ≡ refused r → Told r
lacking-told [] C r p h = absurd (refused-answer r C (sym h))
lacking-told (t ∷ ts) C r p h =
    subst Told (refused-refused _ r h)
    (record { given = number-given no_table; of_files = low 11 (omega arith); two_files = omega arith; in_reach = p.0 })

pub files-told : (cs bk : List ℕ) (r : Refusal) → files cs bk ≡ refused r → Told r
unfolding files
files-told cs bk r h =
    then-refused (Told r) (read case cs) _ r h
    (λ c e i. then-refused (Told r) (read book bk) _ r i
    (λ k q j. lacking-told (lacking c k) (case_of c k) r
    (every_keep (λ t. t.place ≤ 919) (λ t. eqb (length (tables_of c k t.type)) 0) c.trains (read_keeps case Within (within_more case) cs c within-empty e).0.places) j)
    (read_told book bk r))
    (read_told case cs r)
