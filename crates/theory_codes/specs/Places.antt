-- Places and their codes: each code up to the outside's has its own place, and each place of a case its own code, so places are told apart by their codes.
-- Each law follows the cases of `place_of`. Takes `Sound` as given, and assumes nothing else.
use Rattle.std.specs.Prelude.{◌≡◌, refl, Bool, cond, List, [], ◌∷◌, ℕ, ◌+◌, ◌-◌, ◌≤◌, ◌<◌, ltb, leb, eqb}
use Rattle.std.proofs.Common.{sym, ap, ◌∙◌, arith, eqb-true, ne_eqb, ltb-true, ltb-false, lt-ltb, le-ltb, leb-true, leb-false}
use Rattle.std.proofs.Math.Bool.{true, false}
use Rattle.std.proofs.lemmas.Bool.{false≢true, eqb-false}
use Rattle.rules.specs.Files.{Case}
use Rattle.rules.specs.Turns.{Place, same, Leg, way, after, ahead, head_is}
use Rattle.rules.specs.Turns.Place.{outside, station, track, gone}
use Rattle.theory_sound.specs.Facts.{Sound}
use Rattle.theory_lists.specs.Every.{Every}
use Rattle.theory_sound.specs.Ways.{same_true, same_self, after_every}
use Rattle.theory_sound.specs.Trains.{Known, way-known}
use Rattle.theory_codes.specs.Codes.{code_of, nowhere, place_of}
use Rattle.theory_codes.specs.Tables.{head_code, next_code}

-- ---- places that have a code of their own

abbrev pub Coded : Place → Type 0
Coded outside = Unit {0}
Coded (station i) = i < 24
Coded (track j) = j < 40
Coded gone = Unit {0}

pub coded-small : (p : Place) → Coded p → code_of p ≤ 65
coded-small outside h = omega arith
coded-small (station i) h = omega arith
coded-small (track j) h = omega arith
coded-small gone h = omega arith

-- an element or the way out
pub coded-few : (p : Place) → Coded p → same outside p ≡ false → code_of p ≤ 64
coded-few outside h o = absurd (false≢true (sym o ∙ same_self outside))
coded-few (station i) h o = omega arith
coded-few (track j) h o = omega arith
coded-few gone h o = omega arith

pub place_code : (p : Place) → Coded p → place_of (code_of p) ≡ p
unfolding place_of
place_code outside h = refl
place_code (station i) h = rw (lt-ltb i 24 h)
place_code (track j) h =
    let e : 24 + j - 24 ≡ j = omega arith in
    rw (le-ltb (24 + j) 24 (omega arith), lt-ltb (24 + j) 64 (omega arith), e)
place_code gone h = refl

-- ---- codes that have a place of their own

pub place-coded : (e : ℕ) → Coded (place_of e)
unfolding place_of
place-coded e = go (ltb e 24) (ltb e 64) (eqb e 64) refl refl
  where
    go : (a b c : Bool) → ltb e 24 ≡ a → ltb e 64 ≡ b → Coded (cond a (station e) (cond b (track (e - 24)) (cond c gone outside)))
    go true b c p q = ltb-true e 24 p
    go false true c p q = omega (arith, ltb-true e 64 q, ltb-false e 24 p)
    go false false true p q = tt
    go false false false p q = tt

pub code_place : (e : ℕ) → e ≤ 65 → code_of (place_of e) ≡ e
unfolding place_of
code_place e h = go (ltb e 24) (ltb e 64) (eqb e 64) refl refl refl
  where
    go : (a b c : Bool) → ltb e 24 ≡ a → ltb e 64 ≡ b → eqb e 64 ≡ c → code_of (cond a (station e) (cond b (track (e - 24)) (cond c gone outside))) ≡ e
    go true b c p q r = refl
    go false true c p q r = omega (arith, ltb-false e 24 p)
    go false false true p q r = sym (eqb-true e 64 r)
    go false false false p q r = let other : e ≡ 64 → ⊥ = eqb-false e 64 r in omega (arith, ltb-false e 64 q)

-- past the way out every code is the outside's
pub outside_code : (e : ℕ) → 65 ≤ e → place_of e ≡ outside
unfolding place_of
outside_code e h = rw (le-ltb e 24 (omega arith), le-ltb e 64 (omega arith), ne_eqb e 64 (λ q. omega arith))

-- ---- places are the same where their codes are

pub code_test : (p : Place) (e : ℕ) → Coded p → e ≤ 65 → eqb (code_of p) e ≡ same p (place_of e)
code_test p e h l = go (eqb (code_of p) e) (same p (place_of e)) refl refl
  where
    go : (a b : Bool) → eqb (code_of p) e ≡ a → same p (place_of e) ≡ b → a ≡ b
    go true true f g = refl
    go false false f g = refl
    go true false f g = absurd (false≢true (sym g ∙ sym (ap (λ (q : Place). same q (place_of e)) (sym (ap place_of (eqb-true (code_of p) e f)) ∙ place_code p h)) ∙ same_self (place_of e)))
    go false true f g = absurd (eqb-false (code_of p) e f (ap code_of (same_true p (place_of e) g) ∙ code_place e l))

pub same_codes : (p e : ℕ) → p ≤ 65 → e ≤ 65 → same (place_of p) (place_of e) ≡ eqb p e
same_codes p e l m = sym (code_test (place_of p) e (place-coded p) m) ∙ ap (λ (c : ℕ). eqb c e) (code_place p l)

-- an element, or the way out, is no other place
pub same-element : (p e : ℕ) → e ≤ 64 → same (place_of p) (place_of e) ≡ eqb p e
same-element p e l = go (leb p 65) refl
  where
    go : (b : Bool) → leb p 65 ≡ b → same (place_of p) (place_of e) ≡ eqb p e
    go true q = same_codes p e (leb-true p 65 q) (omega arith)
    go false q =
        let far : 65 < p = leb-false p 65 q in
        ap (λ (o : Place). same o (place_of e)) (outside_code p (omega arith))
        ∙ sym (code_test outside e tt (omega arith))
        ∙ ne_eqb 65 e (λ h. omega arith)
        ∙ sym (ne_eqb p e (λ h. omega arith))

-- and so is what a way goes on with
pub head_code_lem : (e : ℕ) (ls : List Leg) → e ≤ 64 → ((p : Place) → head_is p ls ≡ true → Coded p) → eqb (head_code ls) e ≡ head_is (place_of e) ls
head_code_lem e [] h known = ne_eqb nowhere e (λ z. omega arith)
head_code_lem e (l ∷ ls) h known = code_test l.place e (known l.place (same_self l.place)) (omega arith)

-- ---- the elements of a case

module _ (C : Case) (sound : Sound C) where
  pub known-coded : (p : Place) → Known C p → Coded p
  known-coded outside h = tt
  known-coded (station i) h = omega (arith, sound.few_stations)
  known-coded (track j) h = omega (arith, sound.few_tracks)
  known-coded gone h = tt

  pub known-few : (p : Place) → Known C p → code_of p ≤ 64
  known-few outside h = absurd h
  known-few (station i) h = omega (arith, sound.few_stations)
  known-few (track j) h = omega (arith, sound.few_tracks)
  known-few gone h = omega arith

  code_small : (ls : List Leg) → Every (λ l. Known C l.place) ls → head_code ls < 128
  code_small [] h = omega arith
  code_small (l ∷ ls) h = omega (arith, known-few l.place h.0)

  -- the code of what a way goes on with has 7 bits
  pub next_small : (k p : ℕ) → next_code C k p < 128
  unfolding next_code ahead
  next_small k p = go (same (place_of p) outside)
    where
      go : (b : Bool) → head_code (cond b (way C k) (after (place_of p) (way C k))) < 128
      go true = code_small (way C k) (way-known C sound k)
      go false = code_small (after (place_of p) (way C k)) (after_every (λ l. Known C l.place) (place_of p) (way C k) (way-known C sound k))
