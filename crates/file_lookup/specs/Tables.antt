-- The tables of a sound case, train by train, from the bytes: train k's field stands at its place, its type behind it, and the lookup of
-- that type has the train's pairs. Gathered from the case's fields, as the trains are. Assumes nothing.
use Rattle.std.specs.Prelude.{◌≡◌, refl, ℕ, zero, suc, ◌+◌, ◌<◌, length}
use Rattle.std.proofs.Common.{ap, ◌∙◌, arith}
use Rattle.std.proofs.Math.Path.{sym}
use mathlib.Core.List.{List, [], ◌∷◌, map}
use Rattle.std.proofs.Math.ListN.{get_or}
use Rattle.std.proofs.lemmas.List.{length-map}
use Rattle.std.proofs.Math.Dec.{eqb}
use Rattle.rules.specs.Refusals.Result.{answer}
use Rattle.rules.specs.Files.{Contents, Case, Pair, Table, Train, byte, table_of, train_of, read, tables_of, first_pairs, case_of, files}
use Rattle.rules.specs.Files.File.{case, book}
use Rattle.theory_sound.specs.Accepted.{accepted_reads}
use Rattle.file_fields.specs.Fields.{body_at, places}
use Rattle.file_reader.specs.Decoded.{trains_decoded}
use Rattle.file_lookup.specs.Lookup.{table_bytes, train_places, train_place}
use Rattle.file_lookup.specs.Answers.{IsFirst, TrainTable}
use Rattle.file_lookup.specs.Agree.{each_keep, table-first, of-train}

-- ---- lists

get_d_map : {A B : Type 0} (f : A → B) (l : List A) (j : ℕ) (d : A) (e : B) → j < length l → get_or (map f l) j e ≡ f (get_or l j d)
get_d_map f [] j d e h = absurd (omega arith)
get_d_map f (a ∷ l) zero d e h = refl
get_d_map f (a ∷ l) (suc j) d e h = get_d_map f l j d e (omega arith)

-- ---- pairs

first-pairs : (ds : List Table) (b : List ℕ) → IsFirst ds b → (table_of b).pairs ≡ first_pairs ds
unfolding table_of
first-pairs [] b h = rw h
first-pairs (d ∷ ds) b h = ap (λ (e : Table). e.pairs) h

module _ (cs bk : List ℕ) (c k : Contents) (hc : read case cs ≡ answer c) (hk : read book bk ≡ answer k) where
  pub table-pairs : (t : ℕ) → (table_of (table_bytes cs bk t)).pairs ≡ first_pairs (tables_of c k t)
  table-pairs t = first-pairs (tables_of c k t) (table_bytes cs bk t) (table-first cs bk c k hc hk t)

  -- the trains and their pairs, by the places of the trains' fields
  trains-placed : c.trains ≡ map (λ i. train_of i (body_at cs i)) (train_places cs)
  unfolding train_places
  trains-placed = trains_decoded case cs c hc ∙ each_keep (λ i. eqb (byte cs i) 4) (λ i. train_of i (body_at cs i)) (places cs)

  pairs-placed : map (λ (t : Train). first_pairs (tables_of c k t.type)) c.trains ≡ map (λ i. first_pairs (tables_of c k (byte cs (i + 4)))) (train_places cs)
  unfolding train_places
  pairs-placed =
      of-train cs (λ t. first_pairs (tables_of c k t)) c hc
      ∙ each_keep (λ i. eqb (byte cs i) 4) (λ i. first_pairs (tables_of c k (byte cs (i + 4)))) (places cs)

  pub trains-count : length c.trains ≡ length (train_places cs)
  trains-count = ap length trains-placed ∙ length-map (train_places cs) (λ i. train_of i (body_at cs i))

  pub train-pairs : (j : ℕ) → j < length c.trains → (table_of (table_bytes cs bk (byte cs (train_place cs j + 4)))).pairs ≡ get_or (case_of c k).tables j []
  unfolding train_place case_of
  train-pairs j h =
      let n = trains-count in
      table-pairs (byte cs (get_or (train_places cs) j (length cs) + 4))
      ∙ sym (ap (λ (l : List (List Pair)). get_or l j []) pairs-placed ∙ get_d_map (λ i. first_pairs (tables_of c k (byte cs (i + 4)))) (train_places cs) j (length cs) [] (omega arith))

-- the pairs of train j of a sound case
pub case-pairs : (cs bk : List ℕ) (C : Case) → files cs bk ≡ answer C → (j : ℕ) → j < length C.trains
    → (table_of (table_bytes cs bk (byte cs (train_place cs j + 4)))).pairs ≡ get_or C.tables j []
unfolding case_of
case-pairs cs bk C h j k =
    let w = accepted_reads cs bk C h in
    let n : length C.trains ≡ length w.of_case.trains = ap (λ (D : Case). length D.trains) w.assembled in
    train-pairs cs bk w.of_case w.of_book w.case_read w.book_read j (omega arith) ∙ sym (ap (λ (D : Case). get_or D.tables j []) w.assembled)

pub train-table : {cs bk : List ℕ} {k : ℕ} {b : List ℕ} → b ≡ table_bytes cs bk (byte cs (train_place cs k + 4)) → TrainTable cs bk k b
train-table {cs} {bk} {k} {b} h = record { bytes = h; pairs = λ C q j. rw h (case-pairs cs bk C q k j) }
