-- An accepted case from the bytes of its two files: its stations, tracks, trains and couples as they stand, and each train's pairs from its table.
-- Where things stand is the reading's; the tables are the lookup's. Assumes nothing.
use Rattle.std.specs.Prelude.{◌≡◌, refl, List, ◌∷◌, map, ℕ, zero, suc, ◌+◌, ◌≤◌, length}
use Rattle.std.proofs.Common.{ap, ap₂, ◌∙◌, subst, arith}
use Rattle.std.proofs.Math.Path.{sym}
use Rattle.rules.specs.Refusals.Result.{answer}
use Rattle.rules.specs.Files.{Contents, Case, byte, table_of, first_pairs, tables_of, case_of, files}
use Rattle.theory_sound.specs.Facts.{Sound}
use Rattle.theory_sound.specs.Accepted.{Reads, accepted_reads}
use Rattle.theory_sound.proofs.Accepted.{accepted-sound}
use Rattle.file_fields.specs.Fields.{past}
use Rattle.file_lookup.specs.Tables.{table-pairs}
use Rattle.file_tables.specs.Model.{gather, tracks_from, train_in, table_in, couple_in, couples_from, couple_place, track_place, train_place}
use Rattle.file_tables.specs.Fills.{length-gather}
use Rattle.file_plan.specs.Layout.{HeadAt, station_in, Laid, case-laid}

pub record Decoded (cs bk : List ℕ) (C : Case) (s r n : ℕ) : Type 0 where
  pub stations : C.stations ≡ gather (station_in cs) (λ i. i + 4) s 8
  pub tracks : C.tracks ≡ tracks_from cs r (track_place s)
  pub trains : C.trains ≡ gather (train_in cs) (past cs) n (train_place s r)
  pub pairs : C.tables ≡ gather (λ o. (table_of (table_in cs bk o)).pairs) (past cs) n (train_place s r)
  pub couples : C.couples ≡ couples_from cs (length C.couples) (couple_place cs (length C.couples))
  pub head : HeadAt cs C.head
  pub sound : Sound C

pub gather-map : {A B : Type 0} (f : A → B) (g : ℕ → A) (h : ℕ → B) (next : ℕ → ℕ) → ((o : ℕ) → f (g o) ≡ h o) → (n o : ℕ) → map f (gather g next n o) ≡ gather h next n o
gather-map f g h next e zero o = refl
gather-map {B = B} f g h next e (suc n) o = ap₂ (λ (b : B) (l : List B). b ∷ l) (e o) (gather-map f g h next e n (next o))

pub decoded : (cs bk : List ℕ) (C : Case) → files cs bk ≡ answer C
    → Decoded cs bk C (length C.stations) (length C.tracks) (length C.trains)
unfolding case_of
decoded cs bk C h = rw (n₁, n₂, n₃) made
  where
    x : Reads cs bk C
    x = accepted_reads cs bk C h

    c : Contents
    c = x.of_case

    k : Contents
    k = x.of_book

    w : Laid cs (length cs) c
    w = case-laid cs c x.case_read

    y : Sound C
    y = accepted-sound cs bk C h

    o : ℕ
    o = train_place w.s w.r

    ss : C.stations ≡ c.stations
    ss = ap (λ (D : Case). D.stations) x.assembled

    rs : C.tracks ≡ c.tracks
    rs = ap (λ (D : Case). D.tracks) x.assembled

    ts : C.trains ≡ c.trains
    ts = ap (λ (D : Case). D.trains) x.assembled

    n₁ : length C.stations ≡ w.s
    n₁ = ap length (ss ∙ w.stations) ∙ length-gather (station_in cs) (λ i. i + 4) w.s 8

    n₂ : length C.tracks ≡ w.r
    n₂ = ap length (rs ∙ w.tracks) ∙ length-gather _ _ w.r (track_place w.s)

    n₃ : length C.trains ≡ w.n
    n₃ = ap length (ts ∙ w.trains) ∙ length-gather (train_in cs) (past cs) w.n o

    qs : C.couples ≡ couples_from cs w.q (couple_place cs w.q)
    qs = ap (λ (D : Case). D.couples) x.assembled ∙ w.couples

    n₄ : length C.couples ≡ w.q
    n₄ = ap length qs ∙ length-gather (couple_in cs) (λ i. i + 5) w.q (couple_place cs w.q)

    -- a case with a train has a head
    headed : (t : ℕ) → (t ≤ 3 → w.n ≡ 0) → 1 ≤ t
    headed zero e = let z = e (omega arith) in omega (arith, y.some_train, n₃)
    headed (suc t) e = omega arith

    found : (i : ℕ) → first_pairs (tables_of c k (train_in cs i).type) ≡ (table_of (table_in cs bk i)).pairs
    found i = unfold train_in table_in in sym (table-pairs cs bk c k x.case_read x.book_read (byte cs (i + 4)))

    made : Decoded cs bk C w.s w.r w.n
    made = record {
      stations = ss ∙ w.stations;
      tracks = rs ∙ w.tracks;
      trains = ts ∙ w.trains;
      pairs = ap (λ (D : Case). D.tables) x.assembled ∙ ap (map (λ t. first_pairs (tables_of c k t.type))) w.trains
          ∙ gather-map (λ t. first_pairs (tables_of c k t.type)) (train_in cs) _ (past cs) found w.n o;
      couples = qs ∙ ap (λ (m : ℕ). couples_from cs m (couple_place cs m)) (sym n₄);
      head = subst (HeadAt cs) (sym (ap (λ (D : Case). D.head) x.assembled)) (w.head (headed c.rank w.no_trains));
      sound = y;
    }
