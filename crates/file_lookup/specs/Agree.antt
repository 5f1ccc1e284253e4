-- The table found by walking a file is the first of 01's tables of the type, and the train found without one is the first that 01 refuses:
-- both gather from the places of the file's fields, and the walk stops at the first of them. Assumes nothing.
use Rattle.std.specs.Prelude.{◌≡◌, Bool, ℕ, zero, suc, ◌+◌, ◌≤◌, ◌<◌, length, leb, ltb}
use Rattle.std.proofs.Math.Path.{refl, ap}
use Rattle.std.proofs.Common.{sym, ◌∙◌, subst, arith}
use Rattle.std.proofs.Math.Bool.{true, false, cond}
use mathlib.Core.List.{List, [], ◌∷◌, ◌++◌, map, append-nil}
use Rattle.std.proofs.Math.Dec.{eqb}
use borrow.Author.Tests.{lt-ltb, le-ltb, le-leb, lt-leb, eqb-true, ne_eqb}
use Rattle.rules.specs.Lists.{one, each, keep}
use Rattle.rules.specs.Refusals.{Result, refuse}
use Rattle.rules.specs.Refusals.Result.{answer}
use Rattle.rules.specs.Files.{File, spot, Contents, Case, Table, Train, kind_of, byte, word, table_of, train_of, more, read, tables_of, lacking, none_lacking}
use Rattle.rules.specs.Files.File.{case, book}
use Rattle.rules.specs.Files.Kind.{train, table}
use Rattle.file_bodies.specs.Bodies.{bad_length}
use Rattle.theory_lists.specs.Each.{each_append, map-append}
use Rattle.theory_lists.specs.Every.{Every, every_keep}
use Rattle.theory_sound.specs.Kinds.{is-tag}
use Rattle.file_fields.specs.At.{byte-part, whole-none, body_of}
use Rattle.file_fields.specs.Fields.{past, whole, body_at, places_from, places}
use Rattle.file_reader.specs.Laws.{table-length, train-length}
use Rattle.file_reader.specs.Decoded.{Stands, gathered}
use Rattle.file_lookup.specs.Lookup.{seek, first_place, is_table, table_place, table_bytes, untabled, lacks, lacking_place}
use Rattle.file_lookup.specs.Laws.{places-inside}
use Rattle.file_lookup.specs.Answers.{IsFirst}

-- ---- lists

module _ {A B : Type 0} where
  -- those made of what passes the test
  pub each_keep : (test : A → Bool) (make : A → B) (l : List A) → each (λ a. one (test a) (make a)) l ≡ map make (keep test l)
  each_keep test make [] = refl
  each_keep test make (a ∷ l) = go (test a) (each_keep test make l)
    where
      go : (b : Bool) → each (λ a. one (test a) (make a)) l ≡ map make (keep test l) → one b (make a) ++ each (λ a. one (test a) (make a)) l ≡ map make (one b a ++ keep test l)
      go true h = ap (λ (x : List B). make a ∷ x) h
      go false h = h

some-length : {A : Type 0} (a : A) (l : List A) → false ≡ eqb (length (a ∷ l)) 0
some-length a l = sym (ne_eqb (length (a ∷ l)) 0 (λ z. omega arith))

-- ---- the walk stops at the first place that passes

abbrev pub head_or : List ℕ → ℕ → ℕ
head_or [] n = n
head_or (i ∷ l) n = i

seek-places : (test : ℕ → Bool) (n : ℕ) (l : List ℕ) (i : ℕ) → seek test n l i ≡ head_or (keep test (places_from n l i)) (length l)
unfolding seek places_from
seek-places test zero l i = refl
seek-places test (suc n) l i = go (whole l i) (test i) refl (seek-places test n l (past l i))
  where
    go : (b t : Bool) → test i ≡ t → seek test n l (past l i) ≡ head_or (keep test (places_from n l (past l i))) (length l)
        → cond b (cond t i (seek test n l (past l i))) (length l) ≡ head_or (keep test (cond b (i ∷ places_from n l (past l i)) [])) (length l)
    go true true e h = rw e
    go true false e h = rw e h
    go false t e h = refl

pub first-place : (test : ℕ → Bool) (l : List ℕ) → first_place test l ≡ head_or (keep test (places l)) (length l)
unfolding first_place places
first-place test l = seek-places test (suc (length l)) l 0

-- a place that the walk finds is within the file
pub place_inside : (test : ℕ → Bool) (l : List ℕ) (j : ℕ) (r : List ℕ) → keep test (places l) ≡ j ∷ r → j < length l
place_inside test l j r h = (subst (Every (λ k. k < length l)) h (every_keep (λ k. k < length l) test (places l) (places-inside l))).0

-- ---- tables of a type

body-byte : (l : List ℕ) (i k : ℕ) → past l i ≤ length l → k < word l (i + 1) → byte (body_at l i) k ≡ byte l (i + 3 + k)
body-byte l i k h p = ap (λ (b : List ℕ). byte b k) (body_of l i h) ∙ byte-part l (i + 3) (word l (i + 1)) k (i + 3 + k) p refl

module _ (f : File) (l : List ℕ) (t : ℕ) where
  type-step : (c : Contents) (i : ℕ) → Stands l i
      → keep (λ (d : Table). eqb d.type t) (more c i (kind_of (byte l i)) (body_at l i)).tables ≡ keep (λ (d : Table). eqb d.type t) c.tables ++ one (is_table l t i) (table_of (body_at l i))
  unfolding more is_table table_of
  type-step c i s =
      rw (is-tag table (byte l i) (omega arith))
      (each_append (λ (d : Table). one (eqb d.type t) d) c.tables (one (eqb (byte l i) 5) (table_of (body_at l i)))
      ∙ ap (λ (x : List Table). keep (λ (d : Table). eqb d.type t) c.tables ++ x) (go (eqb (byte l i) 5) refl))
    where
      go : (b : Bool) → eqb (byte l i) 5 ≡ b → keep (λ (d : Table). eqb d.type t) (one b (table_of (body_at l i))) ≡ one (cond b (eqb (byte l (i + 3)) t) false) (table_of (body_at l i))
      go true e =
          let p = eqb-true (byte l i) 5 e in
          let n = table-length (word l (i + 1)) (ap (λ (k : ℕ). bad_length k (word l (i + 1))) (sym p) ∙ s.possible) in
          let q : byte (body_at l i) 0 ≡ byte l (i + 3) = body-byte l i 0 s.inside (omega arith) ∙ ap (byte l) (omega arith) in
          append-nil (one (eqb (byte (body_at l i) 0) t) (table_of (body_at l i))) ∙ ap (λ (k : ℕ). one (eqb k t) (table_of (body_at l i))) q
      go false e = refl

  pub by_type : (d : Contents) → read f l ≡ answer d → keep (λ (e : Table). eqb e.type t) d.tables ≡ map (λ i. table_of (body_at l i)) (keep (is_table l t) (places l))
  by_type d h = gathered f l (λ c. keep (λ (e : Table). eqb e.type t) c.tables) (is_table l t) (λ i. table_of (body_at l i)) type-step d h refl ∙ each_keep (is_table l t) (λ i. table_of (body_at l i)) (places l)

-- ---- what is made of each train's type

-- the type stands in the train's field
type-here : (cs : List ℕ) (i : ℕ) → Stands cs i → byte cs i ≡ 4 → byte (body_at cs i) 1 ≡ byte cs (i + 4)
type-here cs i s p =
    let n = train-length (word cs (i + 1)) (ap (λ (j : ℕ). bad_length j (word cs (i + 1))) (sym p) ∙ s.possible) in
    body-byte cs i 1 s.inside (omega arith) ∙ ap (byte cs) (omega arith)

module _ {A : Type 0} (cs : List ℕ) (make : ℕ → A) where
  train-step : (d : Contents) (i : ℕ) → Stands cs i
      → map (λ (a : Train). make a.type) (more d i (kind_of (byte cs i)) (body_at cs i)).trains ≡ map (λ (a : Train). make a.type) d.trains ++ one (eqb (byte cs i) 4) (make (byte cs (i + 4)))
  unfolding more train_of
  train-step d i s =
      rw (is-tag train (byte cs i) (omega arith))
      (map-append (λ (a : Train). make a.type) d.trains (one (eqb (byte cs i) 4) (train_of i (body_at cs i)))
      ∙ ap (λ (x : List A). map (λ (a : Train). make a.type) d.trains ++ x) (go (eqb (byte cs i) 4) refl))
    where
      go : (b : Bool) → eqb (byte cs i) 4 ≡ b → map (λ (a : Train). make a.type) (one b (train_of i (body_at cs i))) ≡ one b (make (byte cs (i + 4)))
      go true e = ap (λ (j : ℕ). make j ∷ []) (type-here cs i s (eqb-true (byte cs i) 4 e))
      go false e = refl

  pub of-train : (c : Contents) → read case cs ≡ answer c → map (λ (a : Train). make a.type) c.trains ≡ each (λ i. one (eqb (byte cs i) 4) (make (byte cs (i + 4)))) (places cs)
  of-train c h = gathered case cs (λ (d : Contents). map (λ (a : Train). make a.type) d.trains) (λ i. eqb (byte cs i) 4) (λ i. make (byte cs (i + 4))) train-step c h refl

-- ---- the table in the case is used, and otherwise the one in the book

module _ (cs bk : List ℕ) (c k : Contents) (hc : read case cs ≡ answer c) (hk : read book bk ≡ answer k) where
  module _ (t : ℕ) where
    abbrev in_case : List ℕ
    in_case = keep (is_table cs t) (places cs)

    abbrev in_book : List ℕ
    in_book = keep (is_table bk t) (places bk)

    both-types : tables_of c k t ≡ map (λ i. table_of (body_at cs i)) in_case ++ map (λ i. table_of (body_at bk i)) in_book
    unfolding tables_of
    both-types =
        each_append (λ (d : Table). one (eqb d.type t) d) c.tables k.tables
        ∙ ap (λ (x : List Table). x ++ keep (λ (d : Table). eqb d.type t) k.tables) (by_type case cs t c hc)
        ∙ ap (λ (x : List Table). map (λ i. table_of (body_at cs i)) in_case ++ x) (by_type book bk t k hk)

    -- the walks' answers, by what they found
    found : (x : List ℕ) (l : List ℕ) → keep (is_table l t) (places l) ≡ x → table_place l t ≡ head_or x (length l)
    found x l e = first-place (is_table l t) l ∙ ap (λ (y : List ℕ). head_or y (length l)) e

    in_case_lem : (i : ℕ) (r : List ℕ) → in_case ≡ i ∷ r → ltb (table_place cs t) (length cs) ≡ true
    in_case_lem i r e = rw (found (i ∷ r) cs e) (lt-ltb i (length cs) (place_inside (is_table cs t) cs i r e))

    not_in_case : in_case ≡ [] → ltb (table_place cs t) (length cs) ≡ false
    not_in_case e = rw (found [] cs e) (le-ltb (length cs) (length cs) (omega arith))

    in_book_lem : (i : ℕ) (r : List ℕ) → in_book ≡ i ∷ r → leb (length bk) (table_place bk t) ≡ false
    in_book_lem i r e = rw (found (i ∷ r) bk e) (lt-leb (length bk) i (place_inside (is_table bk t) bk i r e))

    not_in_book : in_book ≡ [] → leb (length bk) (table_place bk t) ≡ true
    not_in_book e = rw (found [] bk e) (le-leb (length bk) (length bk) (omega arith))

    no_body : (l : List ℕ) → body_at l (length l) ≡ []
    unfolding body_at
    no_body l = rw (whole-none l (length l) (omega arith))

    -- the bytes that the lookup gives are those of 01's first table of the type
    pub table-first : IsFirst (tables_of c k t) (table_bytes cs bk t)
    unfolding table_bytes
    table-first = rw both-types (go in_case refl in_book refl)
      where
        go : (x : List ℕ) → in_case ≡ x → (y : List ℕ) → in_book ≡ y
            → IsFirst (map (λ i. table_of (body_at cs i)) x ++ map (λ i. table_of (body_at bk i)) y) (cond (ltb (table_place cs t) (length cs)) (body_at cs (table_place cs t)) (body_at bk (table_place bk t)))
        go (i ∷ r) e y g = rw (in_case_lem i r e, found (i ∷ r) cs e)
        go [] e (i ∷ r) g = rw (not_in_case e, found (i ∷ r) bk g)
        go [] e [] g = rw (not_in_case e, found [] bk g) (no_body bk)

    untabled-none : untabled cs bk t ≡ eqb (length (tables_of c k t)) 0
    unfolding untabled
    untabled-none = rw both-types (go in_case refl in_book refl)
      where
        go : (x : List ℕ) → in_case ≡ x → (y : List ℕ) → in_book ≡ y
            → cond (ltb (table_place cs t) (length cs)) false (leb (length bk) (table_place bk t)) ≡ eqb (length (map (λ i. table_of (body_at cs i)) x ++ map (λ i. table_of (body_at bk i)) y)) 0
        go (i ∷ r) e y g = rw (in_case_lem i r e) (some-length (table_of (body_at cs i)) (map (λ i. table_of (body_at cs i)) r ++ map (λ i. table_of (body_at bk i)) y))
        go [] e (i ∷ r) g = rw (not_in_case e, in_book_lem i r g) (some-length (table_of (body_at bk i)) (map (λ i. table_of (body_at bk i)) r))
        go [] e [] g = rw (not_in_case e, not_in_book g)

  -- ---- 11 by train number

  -- the first place without a table is refused; the case stands where there is none
  abbrev at_place : List ℕ → Case → Result Case
  at_place [] C = answer C
  at_place (i ∷ l) C = refuse 11 (spot case i)

  -- the trains of d whose type has no table, by the places of their fields
  abbrev places_lacking : Contents → List ℕ
  places_lacking d = map (λ (a : Train). a.place) (keep (λ (a : Train). eqb (length (tables_of c k a.type)) 0) d.trains)

  lacking-step : (d : Contents) (i : ℕ) → Stands cs i → places_lacking (more d i (kind_of (byte cs i)) (body_at cs i)) ≡ places_lacking d ++ one (lacks cs bk i) i
  unfolding more train_of lacks
  lacking-step d i s =
      rw (is-tag train (byte cs i) (omega arith))
      (ap (map (λ (a : Train). a.place)) (each_append (λ (a : Train). one (eqb (length (tables_of c k a.type)) 0) a) d.trains (one (eqb (byte cs i) 4) (train_of i (body_at cs i))))
      ∙ map-append (λ (a : Train). a.place) (keep (λ (a : Train). eqb (length (tables_of c k a.type)) 0) d.trains) _
      ∙ ap (λ (x : List ℕ). places_lacking d ++ x) (go (eqb (byte cs i) 4) refl))
    where
      placed : (b : Bool) → map (λ (a : Train). a.place) (one b (train_of i (body_at cs i)) ++ []) ≡ one b i
      placed true = refl
      placed false = refl

      go : (b : Bool) → eqb (byte cs i) 4 ≡ b
          → map (λ (a : Train). a.place) (keep (λ (a : Train). eqb (length (tables_of c k a.type)) 0) (one b (train_of i (body_at cs i)))) ≡ one (cond b (untabled cs bk (byte cs (i + 4))) false) i
      go true e =
          placed (eqb (length (tables_of c k (byte (body_at cs i) 1))) 0)
          ∙ ap (λ (t : ℕ). one (eqb (length (tables_of c k t)) 0) i) (type-here cs i s (eqb-true (byte cs i) 4 e))
          ∙ ap (λ (b : Bool). one b i) (sym (untabled-none (byte cs (i + 4))))
      go false e = refl

  -- the trains that 01 finds without a table stand where the walk finds one
  lacking-places : places_lacking c ≡ keep (lacks cs bk) (places cs)
  lacking-places = gathered case cs places_lacking (lacks cs bk) (λ i. i) lacking-step c hc refl

  first-lacking : (ts : List Train) (C : Case) → none_lacking ts C ≡ at_place (map (λ (a : Train). a.place) ts) C
  first-lacking [] C = refl
  first-lacking (t ∷ ts) C = refl

  pub lacking_agrees : (C : Case) → none_lacking (lacking c k) C ≡ cond (ltb (lacking_place cs bk) (length cs)) (refuse 11 (spot case (lacking_place cs bk))) (answer C)
  lacking_agrees C =
      first-lacking (lacking c k) C
      ∙ ap (λ (x : List ℕ). at_place x C) lacking-places
      ∙ go (keep (lacks cs bk) (places cs)) refl
    where
      go : (x : List ℕ) → keep (lacks cs bk) (places cs) ≡ x → at_place x C ≡ cond (ltb (lacking_place cs bk) (length cs)) (refuse 11 (spot case (lacking_place cs bk))) (answer C)
      go [] e =
          let p : lacking_place cs bk ≡ length cs = first-place (lacks cs bk) cs ∙ ap (λ (y : List ℕ). head_or y (length cs)) e in
          rw (p, le-ltb (length cs) (length cs) (omega arith))
      go (i ∷ r) e =
          let p : lacking_place cs bk ≡ i = first-place (lacks cs bk) cs ∙ ap (λ (y : List ℕ). head_or y (length cs)) e in
          rw (p, lt-ltb i (length cs) (place_inside (lacks cs bk) cs i r e))
