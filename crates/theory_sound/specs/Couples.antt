-- Coupled tracks: each is the other's partner, the two are different tracks, and no train's way has both.
-- The two lead there and back between the same stations, so a way that had both would come back to a station, and no path does. Takes `Sound` as given, and assumes
-- nothing else.
use Rattle.std.specs.Prelude.{◌≡◌, refl, Bool, true, false, ◌&&◌, ◌||◌, cond, List, [], ◌∷◌, map, ℕ, ◌<◌, length, get_or, eqb}
use Rattle.std.proofs.Common.{sym, ap, ap₂, ◌∙◌, subst, eqb-true, eq-eqb, ne_eqb}
use Rattle.std.proofs.Math.Bool.{and-false, or_comm}
use Rattle.std.proofs.lemmas.Bool.{false≢true}
use Rattle.std.proofs.Math.ListN.{get_or-map}
use Rattle.rules.specs.Lists.{any, has}
use Rattle.rules.specs.Files.{Track, Stop, Train, Couple, Case, any_step, repeats}
use Rattle.rules.specs.Turns.{Place, kind_of, number_of, same, Leg, leg, absent, train_at, track_from, legs, way, after, ahead, head_is, names, paired}
use Rattle.rules.specs.Turns.Place.{outside, track}
use Rattle.theory_lists.specs.Tests.{eqb-turn, and_true-first, and_true-second, or_false-first, or_false-second}
use Rattle.theory_lists.specs.Every.{every_more, every_at, every_anywhere, any_every}
use Rattle.theory_sound.specs.Facts.{Steps, Joined, SoundTrack, SoundCouple, Sound}
use Rattle.theory_sound.specs.Ways.{same_true, same_self, Off, off_after, off_head, track_from-from, track_from-to, ahead_after}

-- the station from which track j leads, and the one to which it leads
abbrev from : List Track → ℕ → ℕ
from ts j = get_or (map (λ r. r.from) ts) j 0

abbrev to : List Track → ℕ → ℕ
to ts j = get_or (map (λ r. r.to) ts) j 0

-- ---- partners

-- each of a pair is the other's partner
pub paired-turn : (C : Case) (e f : Place) → paired C e f ≡ paired C f e
unfolding paired
paired-turn C e f = all C.couples
  where
    all : (cs : List Couple) → any (λ c. names e f c || names f e c) cs ≡ any (λ c. names f e c || names e f c) cs
    all [] = refl
    all (c ∷ cs) = ap₂ ◌||◌ (or_comm (names e f c) (names f e c)) (all cs)

-- one of two tests is passed, so what follows from either follows
by_either : (X : Type 0) (a b : Bool) → (a || b) ≡ true → (a ≡ true → X) → (b ≡ true → X) → X
by_either X true b h f g = f refl
by_either X false b h f g = g h

-- e and f are tracks, there and back between the same ends
pub record Mirrored (ts : List Track) (e f : Place) : Type 0 where
  pub one : ℕ
  pub other : ℕ
  pub is_one : e ≡ track one
  pub is_other_track : f ≡ track other
  pub known_one : one < length ts
  pub known_other : other < length ts
  pub there : from ts one ≡ to ts other
  pub back : to ts one ≡ from ts other

module _ (C : Case) (sound : Sound C) where
  -- a couple that names them, in either order
  named_there : (e f : Place) (c : Couple) → SoundCouple C.tracks c → names e f c ≡ true → Mirrored C.tracks e f
  unfolding names
  named_there e f c s h = record {
    one = c.first;
    other = c.second;
    is_one = same_true e (track c.first) (and_true-first (same e (track c.first)) (same f (track c.second)) h);
    is_other_track = same_true f (track c.second) (and_true-second (same e (track c.first)) (same f (track c.second)) h);
    known_one = s.known_first;
    known_other = s.known_second;
    there = s.there;
    back = s.back;
  }

  named_back : (e f : Place) (c : Couple) → SoundCouple C.tracks c → names f e c ≡ true → Mirrored C.tracks e f
  named_back e f c s h =
      let m = named_there f e c s h in
      record {
        one = m.other;
        other = m.one;
        is_one = m.is_other_track;
        is_other_track = m.is_one;
        known_one = m.known_other;
        known_other = m.known_one;
        there = sym m.back;
        back = sym m.there;
      }

  pub paired_mirrored : (e f : Place) → paired C e f ≡ true → Mirrored C.tracks e f
  unfolding paired
  paired_mirrored e f =
      let either = by_either (Mirrored C.tracks e f) in
      any_every _ (SoundCouple C.tracks) (Mirrored C.tracks e f) (λ c h s. search (either, named_there, named_back)) C.couples sound.couples_sound

  -- no track is its own partner: its two ends are not the same station
  pub paired-apart : (e f : Place) → paired C e f ≡ true → same e f ≡ false
  paired-apart e f h = go (same e f) refl
    where
      m : Mirrored C.tracks e f
      m = paired_mirrored e f h

      nothing : Track
      nothing = record { from = 0; to = 0; capacity = 0 }

      it : Track
      it = get_or C.tracks m.one nothing

      two : SoundTrack (length C.stations) it
      two = every_at (SoundTrack (length C.stations)) C.tracks nothing sound.tracks_sound m.one m.known_one

      ends : m.one ≡ m.other → it.from ≡ it.to
      ends q =
          sym (get_or-map (λ r. r.from) C.tracks m.one nothing)
          ∙ m.there
          ∙ ap (to C.tracks) (sym q)
          ∙ get_or-map (λ r. r.to) C.tracks m.one nothing

      go : (b : Bool) → same e f ≡ b → b ≡ false
      go true q = absurd (two.two_ends (ends (ap number_of (sym m.is_one ∙ same_true e f q ∙ m.is_other_track))))
      go false q = refl

-- ---- the steps of a path

-- some step of the path is from station s to station d
abbrev drives : ℕ → ℕ → List Stop → Bool
drives s d stops = any_step (λ a b. eqb a.station s && eqb b.station d) stops

abbrev stations : List Stop → List ℕ
stations stops = map (λ s. s.station) stops

-- a path that does not have the station d has no step to it
drives-to : (s d : ℕ) (stops : List Stop) → has (stations stops) d ≡ false → drives s d stops ≡ false
drives-to s d [] h = refl
drives-to s d (a ∷ []) h = refl
drives-to s d (a ∷ (b ∷ l)) h =
    let more = or_false-second (eqb d a.station) (has (stations (b ∷ l)) d) h in
    let here : eqb b.station d ≡ false = eqb-turn b.station d ∙ or_false-first (eqb d b.station) (has (stations l) d) more in
    ap₂ ◌||◌ (ap (λ (z : Bool). eqb a.station s && z) here ∙ and-false (eqb a.station s)) (drives-to s d (b ∷ l) more)

-- a path that repeats no station does not drive there and back
no_return : (s d : ℕ) (stops : List Stop) → repeats (stations stops) ≡ false → drives s d stops ≡ true → drives d s stops ≡ false
no_return s d [] r h = refl
no_return s d (a ∷ []) r h = refl
no_return s d (a ∷ (b ∷ l)) r h =
    go (eqb a.station s) (eqb b.station d) refl refl h (no_return s d (b ∷ l) (or_false-second (has (stations (b ∷ l)) a.station) (repeats (stations (b ∷ l))) r))
  where
    -- the first station does not come again
    once : has (stations (b ∷ l)) a.station ≡ false
    once = or_false-first (has (stations (b ∷ l)) a.station) (repeats (stations (b ∷ l))) r

    -- no step leads to it
    never : (z y : ℕ) → eqb a.station z ≡ true → drives y z (b ∷ l) ≡ false
    never z y q = drives-to y z (b ∷ l) (subst (λ (i : ℕ). has (stations (b ∷ l)) i ≡ false) (eqb-true a.station z q) once)

    -- so where the rest drives to d, the first step does not begin there
    elsewhere : drives s d (b ∷ l) ≡ true → eqb a.station d ≡ false
    elsewhere h = by (eqb a.station d) refl
      where
        by : (z : Bool) → eqb a.station d ≡ z → z ≡ false
        by true q = absurd (false≢true (sym (never d s q) ∙ h))
        by false q = refl

    back : Bool
    back = eqb b.station s

    go : (x y : Bool) → eqb a.station s ≡ x → eqb b.station d ≡ y → ((x && y) || drives s d (b ∷ l)) ≡ true → (drives s d (b ∷ l) ≡ true → drives d s (b ∷ l) ≡ false)
        → ((eqb a.station d && back) || drives d s (b ∷ l)) ≡ false
    go true true p q h ih = ap₂ (λ (i j : Bool). (i && back) || j) (sym (ap (eqb a.station) (eqb-true b.station d q)) ∙ or_false-first _ _ once) (never s d p)
    go true false p q h ih = ap₂ (λ (i j : Bool). (i && back) || j) (elsewhere h) (ih h)
    go false y p q h ih = ap₂ (λ (i j : Bool). (i && back) || j) (elsewhere h) (ih h)

-- ---- the ways of the trains

-- a track whose step the path does not have is not on its way
track_off : (ts : List Track) (j : ℕ) (stops : List Stop) → drives (from ts j) (to ts j) stops ≡ false → Steps (Joined ts) stops → Off (track j) (legs ts stops)
unfolding same
track_off ts j [] h s = tt
track_off ts j (a ∷ []) h s = (refl, (refl, tt))
track_off ts j (a ∷ (b ∷ l)) h s = (
  refl,
  (ne_eqb j (track_from a.station b.station ts) (λ q. false≢true (sym (or_false-first here rest h) ∙ step q)), track_off ts j (b ∷ l) (or_false-second here rest h) s.1),
)
  where
    here : Bool
    here = eqb a.station (from ts j) && eqb b.station (to ts j)

    rest : Bool
    rest = drives (from ts j) (to ts j) (b ∷ l)

    step : j ≡ track_from a.station b.station ts → here ≡ true
    step q =
        ap₂ ◌&&◌
        (eq-eqb a.station (from ts j) (sym (track_from-from a.station b.station ts s.0) ∙ ap (from ts) (sym q)))
        (eq-eqb b.station (to ts j) (sym (track_from-to a.station b.station ts s.0) ∙ ap (to ts) (sym q)))

-- nothing stands after a place that is not on the way
off_nothing : (p : Place) (ls : List Leg) → Off p ls → after p ls ≡ []
unfolding same
off_nothing p [] o = refl
off_nothing p (l ∷ ls) o =
    ap₂ (λ (b : Bool) (r : List Leg). cond b ls r)
    (ap₂ ◌&&◌ (eqb-turn (kind_of l.place) (kind_of p)) (eqb-turn (number_of l.place) (number_of p)) ∙ o.0) (off_nothing p ls o.1)

module _ (C : Case) (sound : Sound C) (k : ℕ) where
  -- the path of train k repeats no station, and has a track for each step
  abbrev Path : Train → Type 0
  Path t = (repeats (stations t.stops) ≡ false) × Steps (Joined C.tracks) t.stops

  path : Path (train_at C k)
  path = every_anywhere Path C.trains absent (refl, tt) (every_more _ Path (λ t s. (s.no_repeat, s.joined)) C.trains sound.trains_sound) k

  way_off : (j : ℕ) → drives (from C.tracks j) (to C.tracks j) (train_at C k).stops ≡ false → Off (track j) (leg outside 0 ∷ way C k)
  unfolding way same
  way_off j d = (refl, track_off C.tracks j (train_at C k).stops d path.1)

  -- no way has both tracks of a pair: where e is still ahead of train k, its partner is not on the way, and nothing is ahead of it there
  pub partner_off : (p e q : Place) → head_is e (ahead C k p) ≡ true → paired C e q ≡ true → ahead C k q ≡ []
  partner_off p e q h pair = go (drives s d stops) refl
    where
      stops : List Stop
      stops = (train_at C k).stops

      m : Mirrored C.tracks e q
      m = paired_mirrored C sound e q pair

      s : ℕ
      s = from C.tracks m.one

      d : ℕ
      d = to C.tracks m.one

      go : (b : Bool) → drives s d stops ≡ b → ahead C k q ≡ []
      go true t =
          ahead_after C k q
          ∙ ap (λ (f : Place). after f (leg outside 0 ∷ way C k)) m.is_other_track
          ∙ off_nothing (track m.other) (leg outside 0 ∷ way C k)
          (way_off m.other (ap₂ (λ (i j : ℕ). drives i j stops) (sym m.back) (sym m.there) ∙ no_return s d stops path.0 t))
      go false t = absurd (false≢true (sym (off_head e e (ahead C k p) off h) ∙ same_self e))
        where
          off : Off e (ahead C k p)
          off =
              subst (λ (f : Place). Off f (ahead C k p)) (sym m.is_one)
              (subst (Off (track m.one)) (sym (ahead_after C k p)) (off_after (track m.one) p (leg outside 0 ∷ way C k) (way_off m.one t)))
