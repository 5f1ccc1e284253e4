-- The search for a field of a file: of the whole fields that follow each other, the one that passes a test after n others that do. As far as
-- it has come, the fields still ahead answer for the whole file. Assumes nothing.
use Rattle.std.specs.Prelude.{◌≡◌, refl, Bool, true, false, cond, List, [], ◌∷◌, ℕ, zero, suc, ◌+◌, ◌-◌, ◌≤◌, ◌<◌, length, get_or, leb, ltb, eqb, not, is_some, Option, Some, None}
use Rattle.std.specs.List.{slice_get}
use Rattle.std.proofs.Common.{ap, sym, ◌∙◌, arith, lt-ltb, le-ltb, le-leb, ltb-true, ltb-false}
use Rattle.std.proofs.lemmas.Bool.{lt-leb}
use Rattle.std.proofs.lemmas.List.{get_or_past}
use Rattle.std.proofs.lemmas.Option.{get_or_from_slice_get}
use Rattle.rules.specs.Lists.{keep}
use Rattle.rules.specs.Files.{byte}
use Rattle.file_fields.specs.Fields.{past, whole, body_at, places_from, places}
use Rattle.file_fields.specs.At.{whole-none, whole-inside}
use Rattle.file_fields.specs.Walk.{Here, Walked, walked_start, walked_next}
use Rattle.file_lookup.specs.Lookup.{first_place, table_place, table_bytes, untabled, train_places, train_place, nth_place, found}
use Rattle.file_lookup.specs.Laws.{body-none}
use Rattle.file_lookup.specs.Trains as trains
use Rattle.file_lookup.specs.Agree.{head_or, first-place, place_inside}

-- the search as far as i, with so many others still to pass
pub record Ahead (test : ℕ → Bool) (l : List ℕ) (n left i : ℕ) : Type 0 where
  pub walked : Walked l i (λ m. slice_get (keep test (places_from m l i)) left ≡ nth_place test l n)

module _ (test : ℕ → Bool) (l : List ℕ) where
  pub ahead-start : (n : ℕ) → Ahead test l n n 0
  unfolding nth_place places
  ahead-start n = record { walked = walked_start l _ refl }

module _ {test : ℕ → Bool} {l : List ℕ} {n left i : ℕ} (h : Ahead test l n left i) where
  pub ahead-end : whole l i ≡ false → None ≡ nth_place test l n
  unfolding places_from
  ahead-end e = rw e at h.walked.same

  pub ahead-here : {tag end : ℕ} → Here l i tag end → test i ≡ true → left ≡ 0 → Some i ≡ nth_place test l n
  unfolding places_from
  ahead-here w p z = rw (w.stands, p, z) at h.walked.same

  -- one that passes is passed
  pub ahead-passed : {tag end : ℕ} → Here l i tag end → test i ≡ true → 0 < left → Ahead test l n (left - 1) end
  unfolding places_from
  ahead-passed {tag} {end} w p m =
      rw w.ends (record { walked = walked_next _ h.walked (past l i) (omega arith) (whole-inside l i w.stands) (λ k s. go (keep test (places_from k l (past l i))) left refl (rw (w.stands, p) at s)) })
    where
      go : (rest : List ℕ) (b : ℕ) → left ≡ b → slice_get (i ∷ rest) b ≡ nth_place test l n → slice_get rest (left - 1) ≡ nth_place test l n
      go rest zero e s = absurd (omega arith)
      go rest (suc b) e s = let z : left - 1 ≡ b = omega arith in rw z s

  pub ahead-next : {tag end : ℕ} → Here l i tag end → test i ≡ false → Ahead test l n left end
  unfolding places_from
  ahead-next {tag} {end} w p =
      rw w.ends (record { walked = walked_next _ h.walked (past l i) (omega arith) (whole-inside l i w.stands) (λ k s. rw (w.stands, p) at s) })

-- ---- what is searched for

-- the first that passes, where there is one
pub first-found : (test : ℕ → Bool) (l : List ℕ) → nth_place test l 0 ≡ found (length l) (first_place test l)
unfolding nth_place found
first-found test l = go (keep test (places l)) refl
  where
    go : (x : List ℕ) → keep test (places l) ≡ x → slice_get x 0 ≡ cond (ltb (first_place test l) (length l)) (Some (first_place test l)) None
    go [] e =
        let p : first_place test l ≡ length l = first-place test l ∙ ap (λ (y : List ℕ). head_or y (length l)) e in
        rw (p, le-ltb (length l) (length l) (omega arith))
    go (i ∷ r) e =
        let p : first_place test l ≡ i = first-place test l ∙ ap (λ (y : List ℕ). head_or y (length l)) e in
        rw (p, lt-ltb i (length l) (place_inside test l i r e))

pub train-found : (l : List ℕ) (k : ℕ) → nth_place (λ i. eqb (byte l i) 4) l k ≡ slice_get (train_places l) k
unfolding nth_place train_places
train-found l k = refl

-- a found place is below n
pub found-some : (n p i : ℕ) → found n p ≡ Some i → (p ≡ i) × (i < n)
unfolding found
found-some n p i e = go (ltb p n) refl e
  where
    go : (b : Bool) → ltb p n ≡ b → cond b (Some p) None ≡ Some i → (p ≡ i) × (i < n)
    go true t e = let q : p ≡ i = cc e in let h = ltb-true p n t in (q, omega arith)
    go false t e = (cc e, cc e)

pub found-none : (n p : ℕ) → found n p ≡ None → n ≤ p
unfolding found
found-none n p e = go (ltb p n) refl e
  where
    go : (b : Bool) → ltb p n ≡ b → cond b (Some p) None ≡ None → n ≤ p
    go true t e = cc e
    go false t e = ltb-false p n t

module _ (cs bk : List ℕ) (t : ℕ) where
  -- the table in the case is used, and otherwise the one in the book
  abbrev chosen : Option ℕ → Option ℕ → List ℕ
  chosen (Some i) b = body_at cs i
  chosen None (Some j) = body_at bk j
  chosen None None = []

  pub table-chosen : (a b : Option ℕ) → found (length cs) (table_place cs t) ≡ a → found (length bk) (table_place bk t) ≡ b → table_bytes cs bk t ≡ chosen a b
  unfolding found table_bytes
  table-chosen a b p q = rw (← p, ← q) (go (ltb (table_place cs t) (length cs)) (ltb (table_place bk t) (length bk)) refl)
    where
      go : (x y : Bool) → ltb (table_place bk t) (length bk) ≡ y
          → cond x (body_at cs (table_place cs t)) (body_at bk (table_place bk t)) ≡ chosen (cond x (Some (table_place cs t)) None) (cond y (Some (table_place bk t)) None)
      go true y e = refl
      go false true e = refl
      go false false e = let h = ltb-false (table_place bk t) (length bk) e in sym (body-none bk (table_place bk t) (whole-none bk (table_place bk t) (omega arith)))

  -- neither has one
  pub table-missing : untabled cs bk t ≡ cond (is_some (found (length cs) (table_place cs t))) false (not (is_some (found (length bk) (table_place bk t))))
  unfolding found untabled
  table-missing = go (ltb (table_place cs t) (length cs)) (ltb (table_place bk t) (length bk)) refl
    where
      go : (x y : Bool) → ltb (table_place bk t) (length bk) ≡ y
          → cond x false (leb (length bk) (table_place bk t)) ≡ cond (is_some (cond x (Some (table_place cs t)) None)) false (not (is_some (cond y (Some (table_place bk t)) None)))
      go true y e = refl
      go false true e = let h = ltb-true (table_place bk t) (length bk) e in lt-leb (length bk) (table_place bk t) h
      go false false e = let h = ltb-false (table_place bk t) (length bk) e in le-leb (length bk) (table_place bk t) h

-- a train's field is within the case
pub train_inside : (l : List ℕ) (k i : ℕ) → slice_get (train_places l) k ≡ Some i → i ≤ length l
unfolding train_place
train_inside l k i e = let q = get_or_from_slice_get (train_places l) k i (length l) e in let p = trains.place_inside l k in omega arith

-- the type behind train k's field, 0 where there is no such train
pub type-there : (l : List ℕ) (k i : ℕ) → slice_get (train_places l) k ≡ Some i → byte l (i + 4) ≡ byte l (train_place l k + 4)
unfolding train_place
type-there l k i e = ap (λ (j : ℕ). byte l (j + 4)) (sym (get_or_from_slice_get (train_places l) k i (length l) e))

pub type-none : (l : List ℕ) (k : ℕ) → slice_get (train_places l) k ≡ None → 0 ≡ byte l (train_place l k + 4)
unfolding train_place
type-none l k e = go (train_places l) k e
  where
    go : (s : List ℕ) (k : ℕ) → slice_get s k ≡ None → 0 ≡ byte l (get_or s k (length l) + 4)
    go [] k e = sym (get_or_past l (length l + 4) 0 (omega arith))
    go (i ∷ s) zero e = cc
    go (i ∷ s) (suc k) e = go s k e
