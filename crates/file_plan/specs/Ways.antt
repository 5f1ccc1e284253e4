-- What a walk along a train's stops writes into a row of 128 words is what the definitions look up in its way, by the code of a place.
-- The places of a sound way are all different and have different codes, so each word is written once at most. Assumes nothing.
use Rattle.std.specs.Prelude.{◌≡◌, refl, Bool, true, false, cond, List, [], ◌∷◌, ◌++◌, ℕ, ◌+◌, ◌-◌, ◌≤◌, ◌<◌, length, get_or, set, replicate}
use Rattle.std.proofs.Common.{ap, sym, ◌∙◌, true≢false, arith, length-set, get_or-set_same, get_or-set_other, get_or-append-add}
use Rattle.std.proofs.lemmas.List.{get_or-replicate}
use Rattle.std.proofs.Math.ListN.{get_or-append}
use Rattle.rules.specs.Files.{Track, Stop}
use Rattle.rules.specs.Turns.{Place, same, Leg, leg, legs, after, planned_on}
use Rattle.rules.specs.Turns.Place.{outside}
use Rattle.theory_lists.specs.Every.{Every}
use Rattle.theory_sound.specs.Ways.{same_true, same_self, Off, Apart}
use Rattle.theory_codes.specs.Codes.{code_of, place_of, nowhere}
use Rattle.theory_codes.specs.Places.{Coded, coded-few, place_code, code_place, outside_code}
use Rattle.theory_codes.specs.Tables.{head_code}
use Rattle.file_tables.specs.Model.{track_code, walk_next, walk_stay, first_station}

-- ---- places and their codes

code_same : (q : Place) (p : ℕ) → Coded q → p ≤ 64 → same q (place_of p) ≡ true → code_of q ≡ p
code_same q p c h e = ap code_of (same_true q (place_of p) e) ∙ code_place p (omega arith)

code_other : (q : Place) (p : ℕ) → Coded q → same q (place_of p) ≡ false → p ≡ code_of q → ⊥
code_other q p c e h = true≢false (sym (rw (h, place_code q c) (same_self q)) ∙ e)

-- ---- what is written along a way

module _ (f : Leg → Leg → ℕ) where
  -- at each place but the last, f of it and the next
  abbrev pub writes : List Leg → List ℕ → List ℕ
  writes [] row = row
  writes (l ∷ []) row = row
  writes (l ∷ (m ∷ ls)) row = writes (m ∷ ls) (set row (code_of l.place) (f l m))

  -- what is found at p, and d where nothing is
  abbrev pub value_at : ℕ → Place → List Leg → ℕ
  value_at d p [] = d
  value_at d p (l ∷ []) = d
  value_at d p (l ∷ (m ∷ ls)) = cond (same l.place p) (f l m) (value_at d p (m ∷ ls))

  -- a word that is no place's code stays
  pub writes_off : (p : ℕ) (ls : List Leg) (row : List ℕ) → Every (λ l. p ≡ code_of l.place → ⊥) ls → get_or (writes ls row) p 0 ≡ get_or row p 0
  writes_off p [] row e = refl
  writes_off p (l ∷ []) row e = refl
  writes_off p (l ∷ (m ∷ ls)) row e =
      writes_off p (m ∷ ls) (set row (code_of l.place) (f l m)) e.1 ∙ get_or-set_other row (code_of l.place) p (f l m) 0 e.0

  pub writes_at : (d p : ℕ) (ls : List Leg) (row : List ℕ) → p ≤ 64 → length row ≡ 128 → get_or row p 0 ≡ d → Apart ls → Every (λ l. Coded l.place) ls
      → get_or (writes ls row) p 0 ≡ value_at d (place_of p) ls
  writes_at d p [] row h n e a c = e
  writes_at d p (l ∷ []) row h n e a c = e
  writes_at d p (l ∷ (m ∷ ls)) row h n e a c =
      go (same l.place (place_of p)) refl (writes_at d p (m ∷ ls) (set row (code_of l.place) (f l m)))
    where
      away : code_of l.place ≡ p → Every (λ x. p ≡ code_of x.place → ⊥) (m ∷ ls)
      away q = both (m ∷ ls) a.0 c.1
        where
          both : (xs : List Leg) → Off l.place xs → Every (λ x. Coded x.place) xs → Every (λ x. p ≡ code_of x.place → ⊥) xs
          both [] o k = tt
          both (x ∷ xs) o k = (
            (λ z.
                let y : l.place ≡ x.place = sym (place_code l.place c.0) ∙ ap place_of (q ∙ z) ∙ place_code x.place k.0 in
                true≢false (sym (same_self l.place) ∙ ap (same l.place) y ∙ o.0)),
            both xs o.1 k.1,
          )

      go : (b : Bool) → same l.place (place_of p) ≡ b
          → (p ≤ 64 → length (set row (code_of l.place) (f l m)) ≡ 128 → get_or (set row (code_of l.place) (f l m)) p 0 ≡ d → Apart (m ∷ ls) → Every (λ x. Coded x.place) (m ∷ ls)
          → get_or (writes (m ∷ ls) (set row (code_of l.place) (f l m))) p 0 ≡ value_at d (place_of p) (m ∷ ls))
          → get_or (writes (m ∷ ls) (set row (code_of l.place) (f l m))) p 0 ≡ cond b (f l m) (value_at d (place_of p) (m ∷ ls))
      go true q ih =
          let z = code_same l.place p c.0 h q in
          writes_off p (m ∷ ls) (set row (code_of l.place) (f l m)) (away z)
          ∙ rw z (get_or-set_same row p (f l m) 0 (omega arith))
      go false q ih =
          let z = code_other l.place p c.0 q in
          ih h (length-set row (code_of l.place) (f l m) ∙ n) (get_or-set_other row (code_of l.place) p (f l m) 0 z ∙ e) a.1 c.1

-- ---- the two walks

abbrev next_of : Leg → Leg → ℕ
next_of l m = code_of m.place

abbrev stay_of : Leg → Leg → ℕ
stay_of l m = l.planned

module _ (ts : List Track) where
  walk-next : (stops : List Stop) (row : List ℕ) → walk_next ts stops row ≡ writes next_of (legs ts stops) row
  walk-next [] row = refl
  walk-next (a ∷ []) row = refl
  walk-next (a ∷ (b ∷ [])) row = refl
  walk-next (a ∷ (b ∷ (d ∷ l))) row =
      walk-next (b ∷ (d ∷ l)) (set (set row a.station (track_code ts a b)) (track_code ts a b) b.station)

  walk-stay : (stops : List Stop) (row : List ℕ) → walk_stay ts stops row ≡ writes stay_of (legs ts stops) row
  walk-stay [] row = refl
  walk-stay (a ∷ []) row = refl
  walk-stay (a ∷ (b ∷ [])) row = refl
  walk-stay (a ∷ (b ∷ (d ∷ l))) row =
      walk-stay (b ∷ (d ∷ l)) (set (set row a.station (a.departure - a.arrival)) (track_code ts a b) (b.arrival - a.departure))

  first_code : (stops : List Stop) → head_code (legs ts stops) ≡ first_station stops
  first_code [] = refl
  first_code (a ∷ []) = refl
  first_code (a ∷ (b ∷ l)) = refl

value-next : (p : Place) (ls : List Leg) → value_at next_of nowhere p ls ≡ head_code (after p ls)
value-next p [] = refl
value-next p (l ∷ []) = go (same l.place p)
  where
    go : (b : Bool) → nowhere ≡ head_code (cond b [] [])
    go true = refl
    go false = refl
value-next p (l ∷ (m ∷ ls)) = go (same l.place p) (value-next p (m ∷ ls))
  where
    go : (b : Bool) → value_at next_of nowhere p (m ∷ ls) ≡ head_code (after p (m ∷ ls)) → cond b (code_of m.place) (value_at next_of nowhere p (m ∷ ls)) ≡ head_code (cond b (m ∷ ls) (after p (m ∷ ls)))
    go true h = refl
    go false h = h

-- the way ends with what takes no time
abbrev Ends : List Leg → Type 0
Ends [] = Unit {0}
Ends (l ∷ []) = l.planned ≡ 0
Ends (l ∷ (m ∷ ls)) = Ends (m ∷ ls)

value-stay : (p : Place) (ls : List Leg) → Ends ls → value_at stay_of 0 p ls ≡ planned_on p ls
value-stay p [] e = refl
value-stay p (l ∷ []) e = go (same l.place p)
  where
    go : (b : Bool) → 0 ≡ cond b l.planned 0
    go true = sym e
    go false = refl
value-stay p (l ∷ (m ∷ ls)) e = ap (λ (n : ℕ). cond (same l.place p) l.planned n) (value-stay p (m ∷ ls) e)

legs-end : (ts : List Track) (stops : List Stop) → Ends (legs ts stops)
legs-end ts [] = tt
legs-end ts (a ∷ []) = refl
legs-end ts (a ∷ (b ∷ [])) = refl
legs-end ts (a ∷ (b ∷ (d ∷ l))) = legs-end ts (b ∷ (d ∷ l))

-- nothing is on the outside
planned_off : (p : Place) (ls : List Leg) → Off p ls → planned_on p ls ≡ 0
planned_off p [] o = refl
planned_off p (l ∷ ls) o = go (same l.place p) refl (planned_off p ls o.1)
  where
    go : (b : Bool) → same l.place p ≡ b → planned_on p ls ≡ 0 → cond b l.planned (planned_on p ls) ≡ 0
    go true e r = absurd (true≢false (sym (same_self p) ∙ ap (same p) (sym (same_true l.place p e)) ∙ o.0))
    go false e r = r

module _ (ts : List Track) (stops : List Stop) (a : Apart (leg outside 0 ∷ legs ts stops)) (c : Every (λ l. Coded l.place) (legs ts stops)) where
  -- no code of the way is past the way out
  beyond : (p : ℕ) → 65 ≤ p → Every (λ l. p ≡ code_of l.place → ⊥) (legs ts stops)
  beyond p h = both (legs ts stops) a.0 c
    where
      both : (ls : List Leg) → Off outside ls → Every (λ l. Coded l.place) ls → Every (λ l. p ≡ code_of l.place → ⊥) ls
      both [] o k = tt
      both (l ∷ ls) o k = ((λ e. let f = coded-few l.place k.0 o.0 in omega arith), both ls o.1 k.1)

  pub next-at : (row : List ℕ) (p : ℕ) → length row ≡ 128 → p ≤ 64 → get_or row p 0 ≡ nowhere → get_or (walk_next ts stops row) p 0 ≡ head_code (after (place_of p) (legs ts stops))
  next-at row p n h e = ap (λ (r : List ℕ). get_or r p 0) (walk-next ts stops row) ∙ writes_at next_of nowhere p (legs ts stops) row h n e a.1 c ∙ value-next (place_of p) (legs ts stops)

  pub next-outside : (row : List ℕ) (p : ℕ) → 65 ≤ p → get_or row p 0 ≡ first_station stops → get_or (walk_next ts stops row) p 0 ≡ head_code (legs ts stops)
  next-outside row p h e = ap (λ (r : List ℕ). get_or r p 0) (walk-next ts stops row) ∙ writes_off next_of p (legs ts stops) row (beyond p h) ∙ e ∙ sym (first_code ts stops)

  pub stay-at : (row : List ℕ) (p : ℕ) → length row ≡ 128 → p ≤ 64 → get_or row p 0 ≡ 0 → get_or (walk_stay ts stops row) p 0 ≡ planned_on (place_of p) (legs ts stops)
  stay-at row p n h e = ap (λ (r : List ℕ). get_or r p 0) (walk-stay ts stops row) ∙ writes_at stay_of 0 p (legs ts stops) row h n e a.1 c ∙ value-stay (place_of p) (legs ts stops) (legs-end ts stops)

  pub stay-outside : (row : List ℕ) (p : ℕ) → 65 ≤ p → get_or row p 0 ≡ 0 → get_or (walk_stay ts stops row) p 0 ≡ planned_on (place_of p) (legs ts stops)
  stay-outside row p h e =
      ap (λ (r : List ℕ). get_or r p 0) (walk-stay ts stops row) ∙ writes_off stay_of p (legs ts stops) row (beyond p h) ∙ e
      ∙ sym (rw (outside_code p h) (planned_off outside (legs ts stops) a.0))

-- the start of a row of next elements
pub start-low : (v p : ℕ) → p ≤ 64 → get_or (replicate 65 127 ++ replicate 63 v) p 0 ≡ 127
start-low v p h = get_or-append (replicate 65 127) (replicate 63 v) 0 p (omega arith) ∙ get_or-replicate 65 p 127 0 (omega arith)

pub start-high : (v p : ℕ) → 65 ≤ p → p < 128 → get_or (replicate 65 127 ++ replicate 63 v) p 0 ≡ v
start-high v p h k =
    let e : 65 + (p - 65) ≡ p = omega arith in
    ap (λ (i : ℕ). get_or (replicate 65 127 ++ replicate 63 v) i 0) (sym e)
    ∙ get_or-append-add (replicate 65 127) (replicate 63 v) (p - 65) 0 ∙ get_or-replicate 63 (p - 65) v 0 (omega arith)
