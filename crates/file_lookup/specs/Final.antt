-- What is promised of case and book together: the code's four ways to answer are those of 01.
-- Each way follows from the two readings and from where the walk for a train without a table ends. Assumes nothing.
use Rattle.std.specs.Prelude as rt
use Rattle.std.specs.Prelude.{◌≡◌, Bool, List, ℕ, ◌≤◌, ◌<◌, length, ltb, Option, Some, None, Ok, Err}
use Rattle.std.proofs.Math.Path.{refl, ap, sym}
use Rattle.std.proofs.Common.{◌∙◌, lt-ltb, le-ltb}
use Rattle.std.proofs.Math.Bool.{true, false, cond}
use Rattle.rules.specs.Refusals.{Result, then, refuse}
use Rattle.rules.specs.Refusals.Result.{refused, answer}
use Rattle.rules.specs.Files.{spot, Contents, Case, read, case_of, lacking, none_lacking, files}
use Rattle.rules.specs.Files.File.{case, book}
use Rattle.file_fields.specs.declared.refusals.Refusal.{Refusal}
use Rattle.file_fields.specs.Faults.{number_of}
use Rattle.file_reader.specs.declared.Counts.{Counts}
use Rattle.file_reader.specs.declared.Misread.{Misread}
use Rattle.file_reader.specs.Told as reader
use Rattle.file_reader.specs.Told.{Reading}
use Rattle.file_reader.specs.Told.Reading.{Accepted, Refused}
use Rattle.file_reader.specs.Answers.{counts_of, reading_of}
use Rattle.file_reader.specs.Laws.{accepted-refused}
use Rattle.file_reader.specs.Final.{refused-file}
use Rattle.file_lookup.specs.declared.Sizes.{Sizes}
use Rattle.file_lookup.specs.Told.Files.{Sound, Unsound}
use Rattle.file_lookup.specs.Told.{told}
use Rattle.file_lookup.specs.Lookup.{table_bytes, lacking_place, found}
use Rattle.file_lookup.specs.Search.{found-some, found-none}
use Rattle.file_lookup.specs.Answers.{files_of, of_file, in_file, Looked}
use Rattle.file_lookup.specs.Agree.{table-first, lacking_agrees}

pub looked : {cs bk : List ℕ} {t : ℕ} {b : List ℕ} → b ≡ table_bytes cs bk t → Looked cs bk t b
looked {cs} {bk} {t} {b} h = record { bytes = h; first = λ c k hc hk. rw h (table-first cs bk c k hc hk t) }

-- how large a case of these counts is
abbrev pub sizes_in : Counts → Sizes
sizes_in s = record { stations = s.stations; tracks = s.tracks; trains = s.trains; couples = s.couples }

-- 11 by train number, of contents that were accepted
abbrev by_types : Contents → Contents → Result Case
by_types c k = none_lacking (lacking c k) (case_of c k)

-- a refused reading by the code, and an accepted one
in_file-err : (f : ℕ) (a : rt.Result Counts Misread) (e : Refusal) → in_file f a ≡ Err e → (n : ℕ) × (i : ℕ) × (reader.told a ≡ Refused n i) × (told (Err e) ≡ of_file f (reader.told a))
in_file-err f (Ok c) e p = cc p
in_file-err f (Err m) e p =
    let q : ◌≡◌ {A = Refusal} (record { fault = m.fault; file = f; place = m.place }) e = cc in
    (number_of m.fault, m.place, refl, ap (λ (x : Refusal). Unsound (number_of x.fault) x.file x.place) (sym q))

in_file-ok : (f : ℕ) (a : rt.Result Counts Misread) (c : Counts) → in_file f a ≡ Ok c → reader.told a ≡ Accepted c
in_file-ok f (Ok d) c p = let q : d ≡ c = cc in ap Accepted q
in_file-ok f (Err m) c p = cc p

module _ (cs bk : List ℕ) where
  -- the case is refused
  pub files-case : {r : Reading} {n i : ℕ} → r ≡ reading_of (read case cs) → r ≡ Refused n i → of_file 0 r ≡ files_of (files cs bk)
  unfolding files
  files-case {r} e p = go (read case cs) refl
    where
      go : (a : Result Contents) → read case cs ≡ a → of_file 0 r ≡ files_of (then a (λ c. then (read book bk) (by_types c)))
      go (refused q) h =
          let x : r ≡ Refused q.number q.place = e ∙ ap reading_of h in
          ap (of_file 0) x ∙ ap (λ (f : ℕ). Unsound q.number f q.place) (sym (refused-file case cs q h))
      go (answer c) h = absurd (accepted-refused _ _ _ (sym (e ∙ ap reading_of h) ∙ p))

  module _ {r : Reading} {s : Counts} (e : r ≡ reading_of (read case cs)) (p : r ≡ Accepted s) where
    -- the contents of an accepted case
    record Of : Type 0 where
      inside : Contents
      is : read case cs ≡ answer inside
      counts : s ≡ counts_of inside

    of_case : Of
    of_case = go (read case cs) refl
      where
        go : (a : Result Contents) → read case cs ≡ a → Of
        go (refused q) h = absurd (accepted-refused _ _ _ (sym p ∙ e ∙ ap reading_of h))
        go (answer c) h = let x = sym p ∙ e ∙ ap reading_of h in record { inside = c; is = h; counts = cc x }

    -- the book is refused
    pub files-book : {q : Reading} {n i : ℕ} → q ≡ reading_of (read book bk) → q ≡ Refused n i → of_file 1 q ≡ files_of (files cs bk)
    unfolding files
    files-book {q} f g = rw of_case.is (go (read book bk) refl)
      where
        go : (a : Result Contents) → read book bk ≡ a → of_file 1 q ≡ files_of (then a (by_types of_case.inside))
        go (refused w) h =
            let x : q ≡ Refused w.number w.place = f ∙ ap reading_of h in
            ap (of_file 1) x ∙ ap (λ (k : ℕ). Unsound w.number k w.place) (sym (refused-file book bk w h))
        go (answer c) h = absurd (accepted-refused _ _ _ (sym (f ∙ ap reading_of h) ∙ g))

    module _ {q : Reading} {u : Counts} {i : ℕ} (f : q ≡ reading_of (read book bk)) (g : q ≡ Accepted u) (h : i ≡ lacking_place cs bk) where
      both : (x : Bool) → ltb i (length cs) ≡ x → files_of (files cs bk) ≡ cond x (Unsound 11 0 i) (Sound (sizes_in s))
      unfolding files case_of
      both x t = rw of_case.is (go (read book bk) refl)
        where
          to : (x : Bool) (c k : Contents) → s ≡ counts_of c → files_of (cond x (refuse 11 (spot case i)) (answer (case_of c k))) ≡ cond x (Unsound 11 0 i) (Sound (sizes_in s))
          to true c k n = refl
          to false c k n = sym (ap (λ (w : Counts). Sound (sizes_in w)) n)

          go : (a : Result Contents) → read book bk ≡ a → files_of (then a (by_types of_case.inside)) ≡ cond x (Unsound 11 0 i) (Sound (sizes_in s))
          go (refused w) m = absurd (accepted-refused _ _ _ (sym g ∙ f ∙ ap reading_of m))
          go (answer k) m =
              ap files_of (lacking_agrees cs bk of_case.inside k of_case.is m (case_of of_case.inside k))
              ∙ rw (← h, t) (to x of_case.inside k of_case.counts)

      -- a train's type has no table
      pub files-types : i < length cs → Unsound 11 0 i ≡ files_of (files cs bk)
      files-types k = sym (both true (lt-ltb i (length cs) k))

      -- both files stand
      pub files-sound : length cs ≤ i → Sound (sizes_in s) ≡ files_of (files cs bk)
      files-sound k = sym (both false (le-ltb i (length cs) k))

  -- ---- the code's answers

  module _ (a : rt.Result Counts Misread) (e : reader.told a ≡ reading_of (read case cs)) where
    pub told-case : {r : rt.Result Counts Refusal} {x : Refusal} → r ≡ in_file 0 a → r ≡ Err x → told (Err x) ≡ files_of (files cs bk)
    told-case {r} {x} p q = let w = in_file-err 0 a x (sym p ∙ q) in w.3 ∙ files-case e w.2

    module _ {c : Counts} {r : rt.Result Counts Refusal} (p : r ≡ in_file 0 a) (q : r ≡ Ok c) (b : rt.Result Counts Misread) (f : reader.told b ≡ reading_of (read book bk)) where
      pub told-book : {s : rt.Result Counts Refusal} {x : Refusal} → s ≡ in_file 1 b → s ≡ Err x → told (Err x) ≡ files_of (files cs bk)
      told-book {s} {x} g h = let w = in_file-err 1 b x (sym g ∙ h) in w.3 ∙ files-book e (in_file-ok 0 a c (sym p ∙ q)) f w.2

      module _ {d : Counts} {s : rt.Result Counts Refusal} (g : s ≡ in_file 1 b) (h : s ≡ Ok d) {o : Option ℕ} (l : o ≡ found (length cs) (lacking_place cs bk)) where
        pub told-types : {i : ℕ} → o ≡ Some i → Unsound 11 0 i ≡ files_of (files cs bk)
        told-types {i} m =
            let w = found-some (length cs) (lacking_place cs bk) i (sym l ∙ m) in
            files-types e (in_file-ok 0 a c (sym p ∙ q)) f (in_file-ok 1 b d (sym g ∙ h)) (sym w.0) w.1

        pub told-sound : o ≡ None → Sound (sizes_in c) ≡ files_of (files cs bk)
        told-sound m =
            files-sound e (in_file-ok 0 a c (sym p ∙ q)) f (in_file-ok 1 b d (sym g ∙ h)) refl (found-none (length cs) (lacking_place cs bk) (sym l ∙ m))
