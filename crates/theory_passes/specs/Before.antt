-- All askers of a train for an element stand at one and the same place, the one before it on the train's way; so the marks that enter are the same for each,
-- and so is the arrival. The places of a way are all different, so the place before an element is found by it. Assumes nothing.
use Rattle.std.specs.Prelude.{◌≡◌, Bool, not, ℕ, ◌+◌}
use Rattle.std.proofs.Math.Path.{refl, ap, ap₂}
use Rattle.std.proofs.Common.{sym, ◌∙◌}
use Rattle.std.proofs.Math.Bool.{true, false, cond}
use Rattle.std.proofs.lemmas.Bool.{false≢true}
use mathlib.Core.List.{List, [], ◌∷◌, map}
use Rattle.rules.specs.Lists.{one, each, keep}
use Rattle.rules.specs.Files.{Case}
use Rattle.rules.specs.Turns.{Place, same, Mark, stands, block, Leg, leg, way, after, head_is, last_station, asks, due_again, leaves_block, leaving, entered, arriving, Served, served, Arrival, arrives}
use Rattle.rules.specs.Turns.Place.{outside}
use Rattle.rules.specs.Joint.{Cover, Entry, entry, Piece, covered}
use Rattle.theory_sound.specs.Facts.{Sound}
use Rattle.theory_sound.specs.Ways.{same_true, Apart, off_after, off_head, ahead_after}
use Rattle.theory_sound.specs.Trains.{way_apart}
use Rattle.theory_simulation.specs.Places.{asked}
use Rattle.theory_passes.specs.Passes.{asks_for, pieces_among, serve_among, passed}
use Rattle.theory_passes.specs.Walk.{asks_for-asks, asks_for-train}

-- ---- the definitions

-- the place before e on a way whose places follow p
abbrev pub before_on : Place → Place → List Leg → Place
before_on e p [] = p
before_on e p (l ∷ ls) = cond (same l.place e) p (before_on e l.place ls)

-- the place from which train k asks for e: the element before it, or outside
unfoldable pub place_before : Case → ℕ → Place → Place
place_before C k e = before_on e outside (way C k)

-- the marks of train k when it enters e in minute t: its standing mark, then its block
unfoldable pub new_marks : Case → ℕ → Place → ℕ → List Mark
new_marks C t e k =
    stands k e (due_again C t k e) ∷ one (leaves_block C (place_before C k e)) (block k (place_before C k e) (t + C.head.safety))

-- its arrival, if e is its last station
unfoldable pub arrival_marks : Case → ℕ → Place → ℕ → List (Arrival Mark)
arrival_marks C t e k = one (same e (last_station C k)) (arrives (stands k e (due_again C t k e)) t)

-- what comes of an asker with the mark m and the pieces ps, where each entering piece makes the marks new, and arrives as home says
unfoldable pub serve_with : Mark → List Mark → List (Arrival Mark) → List Piece → Served Entry
serve_with m new home ps =
    let entering = keep (λ q. not q.held) ps in
    served
    (map (λ q. entry m q.cover) (keep (λ q. q.held) ps))
    (each (λ q. map (λ a. entry a q.cover) new) entering)
    (each (λ q. map (covered q.cover) home) entering)

-- ---- the place of an asker

before_on_lem : (e p q : Place) (ls : List Leg) → Apart (leg p 0 ∷ ls) → head_is e (after q (leg p 0 ∷ ls)) ≡ true → q ≡ before_on e p ls
before_on_lem e p q [] a h = go (same p q) h
  where
    go : (b : Bool) → head_is e (cond b [] []) ≡ true → q ≡ p
    go true h = absurd (false≢true h)
    go false h = absurd (false≢true h)
before_on_lem e p q (l ∷ ls) a h = go (same p q) refl h (before_on_lem e l.place q ls a.1)
  where
    go : (b : Bool) → same p q ≡ b → head_is e (cond b (l ∷ ls) (after q (l ∷ ls))) ≡ true
        → (head_is e (after q (leg l.place 0 ∷ ls)) ≡ true → q ≡ before_on e l.place ls) → q ≡ cond (same l.place e) p (before_on e l.place ls)
    go true f h ih = sym (same_true p q f) ∙ sym (ap (λ (z : Bool). cond z p (before_on e l.place ls)) h)
    go false f h ih = ih h ∙ sym (ap (λ (z : Bool). cond z p (before_on e l.place ls)) (other (same l.place q) h))
      where
        -- e is further on than the next place
        other : (b : Bool) → head_is e (cond b ls (after q ls)) ≡ true → same l.place e ≡ false
        other true r = off_head l.place e ls a.1.0 r
        other false r = off_head l.place e (after q ls) (off_after l.place q ls a.1.0) r

module _ (C : Case) (sound : Sound C) (t : ℕ) (e : Place) where
  -- an asker for e stands at the place before it
  pub asker_place : (m : Mark) → asks C t e m ≡ true → m.place ≡ place_before C m.train e
  unfolding place_before
  asker_place m h =
      before_on_lem e outside m.place (way C m.train) (way_apart C sound m.train)
      (sym (ap (head_is e) (ahead_after C m.train m.place)) ∙ (asked C t e m h).goes)

  module _ (k : ℕ) where
    pub asks_for-place : (m : Mark) → asks_for C t e k m ≡ true → m.place ≡ place_before C k e
    asks_for-place m h = asker_place m (asks_for-asks C t e k m h) ∙ ap (λ (j : ℕ). place_before C j e) (asks_for-train C t e k m h)

    -- the marks that enter are the same for all askers of the train
    pub asks_for-entered : (m : Mark) → asks_for C t e k m ≡ true → entered C t e m ≡ new_marks C t e k
    unfolding entered leaving new_marks
    asks_for-entered m h =
        ap₂ (λ (j : ℕ) (p : Place). stands j e (due_again C t j e) ∷ one (leaves_block C p) (block j p (t + C.head.safety))) (asks_for-train C t e k m h) (asks_for-place m h)

    pub asks_for-arriving : (m : Mark) → asks_for C t e k m ≡ true → arriving C t e m ≡ arrival_marks C t e k
    unfolding arriving arrival_marks
    asks_for-arriving m h = ap (λ (j : ℕ). one (same e (last_station C j)) (arrives (stands j e (due_again C t j e)) t)) (asks_for-train C t e k m h)

    -- so an asker is served by its pieces and the marks of the pass
    pub serve_among_with : (far qs : List Cover) (r : Entry) → asks_for C t e k r.mark ≡ true
        → serve_among C t e far qs r ≡ serve_with r.mark (new_marks C t e k) (arrival_marks C t e k) (pieces_among C e far qs r.cover)
    unfolding serve_among serve_with
    serve_among_with far qs r h =
        ap₂ (λ (new : List Mark) (home : List (Arrival Mark)). serve_with r.mark new home (pieces_among C e far qs r.cover)) (asks_for-entered r.mark h) (asks_for-arriving r.mark h)

    -- and what comes of an entry in the pass follows from its pieces and these marks
    pub passed_with : (far qs : List Cover) (r : Entry)
        → passed C t e k far qs r
        ≡ cond (asks_for C t e k r.mark) (serve_with r.mark (new_marks C t e k) (arrival_marks C t e k) (pieces_among C e far qs r.cover)) (served (r ∷ []) [] [])
    unfolding passed
    passed_with far qs r = go (asks_for C t e k r.mark) refl
      where
        go : (b : Bool) → asks_for C t e k r.mark ≡ b
            → cond b (serve_among C t e far qs r) (served (r ∷ []) [] [])
            ≡ cond b (serve_with r.mark (new_marks C t e k) (arrival_marks C t e k) (pieces_among C e far qs r.cover)) (served (r ∷ []) [] [])
        go true h = serve_among_with far qs r h
        go false h = refl
