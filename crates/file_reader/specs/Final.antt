-- What is promised of a refusal of 01's reading: it has a number, its place is within the file, and it names the file that was read.
-- The first two are carried over from the reading by offset. Assumes nothing.
use Rattle.std.specs.Prelude.{◌≡◌, List, [], ◌∷◌, ℕ, zero, suc, ◌≤◌, length}
use Rattle.std.proofs.Common.{ap, sym, ◌∙◌}
use Rattle.rules.specs.Refusals.{Refusal, verdict}
use Rattle.rules.specs.Refusals.Result.{refused}
use Rattle.rules.specs.Files.{File, Contents, file_number, spot, field_rules, end_rules, read_field, read_fields, empty, read}
use Rattle.theory_sound.specs.Verdicts.{refused-answer, unless_refused, onward-refused}
use Rattle.file_reader.specs.Told.Reading.{Refused}
use Rattle.file_reader.specs.Reading.{reading}
use Rattle.file_reader.specs.Bounds.{refused-place}
use Rattle.file_reader.specs.Holds.{is_book}
use Rattle.file_reader.specs.Answers.{reading_of}
use Rattle.file_reader.specs.Agree.{reading_agrees}

module _ (f : File) (l : List ℕ) where
  stopped : (r : Refusal) → read f l ≡ refused r → reading (is_book f) l ≡ Refused r.number r.place
  stopped r h = reading_agrees f l ∙ ap reading_of h

  -- a refusal has a number, and its place is at most 919 and within the file
  pub refused-inside : (r : Refusal) → read f l ≡ refused r → (1 ≤ r.number) × (r.place ≤ 919) × (r.place ≤ length l)
  refused-inside r h = refused-place (is_book f) l r.number r.place (stopped r h)

-- ---- the file of a refusal

fields-file : (n : ℕ) (f : File) (at : ℕ) (l : List ℕ) (c : Contents) (r : Refusal) → read_fields n f at l c ≡ refused r → r.file ≡ file_number f
unfolding read_fields read_field
fields-file zero f at l c r h = absurd (refused-answer r c (sym h))
fields-file (suc n) f at [] c r h =
    sym (ap (λ (s : Refusal). s.file) (unless_refused (verdict (end_rules f c)) (spot f at) c r h).1)
fields-file (suc n) f at (b ∷ l) c r h =
    onward-refused _ (verdict (field_rules f c at (b ∷ l))) (spot f at) _ _ r h
    (λ v q. fields-file n f _ _ _ r q)
    (λ v q. sym (ap (λ (s : Refusal). s.file) q))

pub refused-file : (f : File) (l : List ℕ) (r : Refusal) → read f l ≡ refused r → r.file ≡ file_number f
unfolding read
refused-file f l r h = fields-file (suc (length l)) f 0 l empty r h
