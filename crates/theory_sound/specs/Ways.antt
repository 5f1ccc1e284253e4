-- A train whose path repeats no station and has a track for each step has less of its way ahead after each step.
-- The places of such a way, with the outside before them, are all different, so what stands after a place begins behind it. Assumes nothing.
use Rattle.std.specs.Prelude.{◌≡◌, Bool, false, ◌||◌, cond, length, eqb}
use Rattle.std.proofs.Math.Path.{refl, sym, ap}
use Rattle.std.proofs.Common.{◌∙◌, subst, le_refl, arith}
use Rattle.std.proofs.Math.Bool.{true}
use Rattle.std.proofs.lemmas.Bool.{false≢true}
use mathlib.Core.List.{List, [], ◌∷◌, map}
use Prim.Native.Nat.{ℕ, suc, ◌<◌}
use Rattle.std.proofs.Math.ListN.{get_or}
use borrow.Author.Tests.{eqb-true, eqb-false, eq-eqb, ne_eqb}
use Rattle.rules.specs.Lists.{any, has}
use Rattle.rules.specs.Files.{Track, Stop, Case, leads, repeats}
use Rattle.rules.specs.Turns.{Place, same, Leg, leg, track_from, legs, train_at, way, after, ahead, head_is}
use Rattle.rules.specs.Turns.Place.{outside, station, track, gone}
use Rattle.theory_lists.specs.Every.{Every, every_all, every_source, every_more, fails_every}
use Rattle.theory_sound.specs.Facts.{Steps, Joined}
use Rattle.theory_lists.specs.Tests.{or_false-first, or_false-second, and_true-first, and_true-second}

-- ---- places

pub same_true : (p q : Place) → same p q ≡ true → p ≡ q
unfolding same
same_true outside outside h = refl
same_true outside (station j) h = absurd (false≢true h)
same_true outside (track j) h = absurd (false≢true h)
same_true outside gone h = absurd (false≢true h)
same_true (station i) outside h = absurd (false≢true h)
same_true (station i) (station j) h = ap station (eqb-true i j h)
same_true (station i) (track j) h = absurd (false≢true h)
same_true (station i) gone h = absurd (false≢true h)
same_true (track i) outside h = absurd (false≢true h)
same_true (track i) (station j) h = absurd (false≢true h)
same_true (track i) (track j) h = ap track (eqb-true i j h)
same_true (track i) gone h = absurd (false≢true h)
same_true gone outside h = absurd (false≢true h)
same_true gone (station j) h = absurd (false≢true h)
same_true gone (track j) h = absurd (false≢true h)
same_true gone gone h = refl

pub same_self : (p : Place) → same p p ≡ true
unfolding same
same_self outside = refl
same_self (station i) = eq-eqb i i refl
same_self (track i) = eq-eqb i i refl
same_self gone = refl

-- p is none of the places of the way
abbrev pub Off : Place → List Leg → Type 0
Off p ls = Every (λ l. same p l.place ≡ false) ls

-- no place stands twice in the way
abbrev pub Apart : List Leg → Type 0
Apart [] = Unit {0}
Apart (l ∷ ls) = Off l.place ls × Apart ls

-- what every leg has, those after a place have
pub after_every : (P : Leg → Type 0) (p : Place) (ls : List Leg) → Every P ls → Every P (after p ls)
after_every P p [] h = tt
after_every P p (l ∷ ls) h = go (same l.place p) (after_every P p ls h.1)
  where
    go : (b : Bool) → Every P (after p ls) → Every P (cond b ls (after p ls))
    go true r = h.1
    go false r = r

pub off_after : (p q : Place) (ls : List Leg) → Off p ls → Off p (after q ls)
off_after p q ls o = after_every (λ l. same p l.place ≡ false) q ls o

pub off_head : (p e : Place) (ls : List Leg) → Off p ls → head_is e ls ≡ true → same p e ≡ false
off_head p e [] o h = absurd (false≢true h)
off_head p e (l ∷ ls) o h = subst (λ (q : Place). same p q ≡ false) (same_true l.place e h) o.0

after-head : (e : Place) (ls : List Leg) → head_is e ls ≡ true → length (after e ls) < length ls
after-head e [] h = absurd (false≢true h)
after-head e (l ∷ ls) h = subst (λ (b : Bool). length (cond b ls (after e ls)) < suc (length ls)) (sym h) (le_refl (suc (length ls)))

-- behind the next place of a way less of it is ahead
pub after_shorter : (p e : Place) (ls : List Leg) → Apart ls → head_is e (after p ls) ≡ true → length (after e ls) < length (after p ls)
after_shorter p e [] a h = absurd (false≢true h)
after_shorter p e (l ∷ ls) a h = go (same l.place p) h (after_shorter p e ls a.1)
  where
    past : same l.place e ≡ false → length (after e (l ∷ ls)) ≡ length (after e ls)
    past q = ap (λ (b : Bool). length (cond b ls (after e ls))) q

    go : (b : Bool) → head_is e (cond b ls (after p ls)) ≡ true → (head_is e (after p ls) ≡ true → length (after e ls) < length (after p ls))
        → length (after e (l ∷ ls)) < length (cond b ls (after p ls))
    go true h r = omega (arith, past (off_head l.place e ls a.0 h), after-head e ls h)
    go false h r = omega (arith, past (off_head l.place e (after p ls) (off_after l.place p ls a.0) h), r h)

-- ---- the track of a step

-- the track that is found has the end that every track has which leads from a to b
track_from-end : (end : Track → ℕ) (a b n : ℕ) → ((r : Track) → leads a b r ≡ true → end r ≡ n) → (ts : List Track) → any (leads a b) ts ≡ true
    → get_or (map end ts) (track_from a b ts) 0 ≡ n
track_from-end end a b n f [] h = absurd (false≢true h)
track_from-end end a b n f (r ∷ ts) h = go (leads a b r) refl h (track_from-end end a b n f ts)
  where
    go : (t : Bool) → leads a b r ≡ t → (t || any (leads a b) ts) ≡ true → (any (leads a b) ts ≡ true → get_or (map end ts) (track_from a b ts) 0 ≡ n)
        → get_or (end r ∷ map end ts) (cond t 0 (suc (track_from a b ts))) 0 ≡ n
    go true q h i = f r q
    go false q h i = i h

-- so it leads from the first station to the second
pub track_from-from : (a b : ℕ) (ts : List Track) → any (leads a b) ts ≡ true → get_or (map (λ r. r.from) ts) (track_from a b ts) 0 ≡ a
unfolding leads
track_from-from a b = track_from-end (λ r. r.from) a b a (λ r q. eqb-true r.from a (and_true-first (eqb r.from a) (eqb r.to b) q))

pub track_from-to : (a b : ℕ) (ts : List Track) → any (leads a b) ts ≡ true → get_or (map (λ r. r.to) ts) (track_from a b ts) 0 ≡ b
unfolding leads
track_from-to a b = track_from-end (λ r. r.to) a b b (λ r q. eqb-true r.to b (and_true-second (eqb r.from a) (eqb r.to b) q))

-- ---- the places of a way

module _ (ts : List Track) where
  -- p is neither the station nor a track that leads from it
  abbrev Clear : Place → ℕ → Type 0
  Clear p s = (same p (station s) ≡ false) × ((d : ℕ) → any (leads s d) ts ≡ true → same p (track (track_from s d ts)) ≡ false)

  legs_off : (p : Place) → same p gone ≡ false → (stops : List Stop) → Every (λ s. Clear p s.station) stops → Steps (Joined ts) stops → Off p (legs ts stops)
  legs_off p g [] c j = tt
  legs_off p g (a ∷ []) c j = (c.0.0, (g, tt))
  legs_off p g (a ∷ (b ∷ l)) c j = (c.0.0, (c.0.1 b.station j.0, legs_off p g (b ∷ l) c.1 j.1))

  clear_outside : (s : ℕ) → Clear outside s
  unfolding same
  clear_outside s = (refl, λ d h. refl)

  clear_station : (a s : ℕ) → eqb a s ≡ false → Clear (station a) s
  unfolding same
  clear_station a s n = (n, λ d h. refl)

  clear_track : (a b s : ℕ) → any (leads a b) ts ≡ true → eqb a s ≡ false → Clear (track (track_from a b ts)) s
  unfolding same
  clear_track a b s j n = (refl, λ d h. ne_eqb (track_from a b ts) (track_from s d ts) (λ e. eqb-false a s n (from d h e)))
    where
      from : (d : ℕ) → any (leads s d) ts ≡ true → track_from a b ts ≡ track_from s d ts → a ≡ s
      from d h e =
          sym (track_from-from a b ts j) ∙ ap (λ (k : ℕ). get_or (map (λ r. r.from) ts) k 0) e ∙ track_from-from s d ts h

  others : (a : ℕ) (stops : List Stop) → has (map (λ s. s.station) stops) a ≡ false → Every (λ s. eqb a s.station ≡ false) stops
  others a stops h = every_source (λ s. eqb a s ≡ false) (λ s. s.station) stops (fails_every _ (eqb a) (λ s n. n) (map (λ s. s.station) stops) h)

  pub legs-apart : (stops : List Stop) → repeats (map (λ s. s.station) stops) ≡ false → Steps (Joined ts) stops → Apart (legs ts stops)
  unfolding same
  legs-apart [] r j = tt
  legs-apart (a ∷ []) r j = ((refl, tt), (tt, tt))
  legs-apart (a ∷ (b ∷ l)) r j = (
    (refl, legs_off (station a.station) refl (b ∷ l) (every_more _ _ (λ s. clear_station a.station s.station) (b ∷ l) others-of-a) j.1),
    (
      legs_off (track (track_from a.station b.station ts)) refl (b ∷ l) (every_more _ _ (λ s. clear_track a.station b.station s.station j.0) (b ∷ l) others-of-a) j.1,
      legs-apart (b ∷ l) (or_false-second (has stations a.station) (repeats stations) r) j.1,
    ),
  )
    where
      stations : List ℕ
      stations = map (λ s. s.station) (b ∷ l)

      others-of-a : Every (λ s. eqb a.station s.station ≡ false) (b ∷ l)
      others-of-a = others a.station (b ∷ l) (or_false-first (has stations a.station) (repeats stations) r)

  pub legs-outside : (stops : List Stop) → Steps (Joined ts) stops → Off outside (legs ts stops)
  unfolding same
  legs-outside stops j = legs_off outside refl stops (every_all (λ s. Clear outside s.station) (λ s. clear_outside s.station) stops) j

-- ---- the way of a train

-- what is ahead of a train stands after its place in the way that begins outside
pub ahead_after : (C : Case) (k : ℕ) (p : Place) → ahead C k p ≡ after p (leg outside 0 ∷ way C k)
unfolding ahead same
ahead_after C k outside = refl
ahead_after C k (station i) = refl
ahead_after C k (track j) = refl
ahead_after C k gone = refl

pub ahead_shorter : (C : Case) (k : ℕ) → repeats (map (λ s. s.station) (train_at C k).stops) ≡ false → Steps (Joined C.tracks) (train_at C k).stops
    → (p e : Place) → head_is e (ahead C k p) ≡ true → length (ahead C k e) < length (ahead C k p)
unfolding way
ahead_shorter C k r j p e h =
    rw (ahead_after C k e, ahead_after C k p)
    (after_shorter p e (leg outside 0 ∷ way C k) (legs-outside C.tracks stops j, legs-apart C.tracks stops r j) (rw (ahead_after C k p) at h))
  where
    stops : List Stop
    stops = (train_at C k).stops
