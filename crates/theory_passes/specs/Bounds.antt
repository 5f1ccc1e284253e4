-- Bounds of the runs that code needs: each mark is of a train of the case, is outside or on that train's way, blocks nothing outside, and has a minute of at most 1,438.
-- The first marks are so, and the marks with which an asker enters are so again. Assumes nothing but delays of one byte, which `ByteDelays` names.
use Rattle.std.specs.Prelude.{◌≡◌, refl, Bool, not, ◌||◌, cond, ℕ, ◌+◌, ◌≤◌, ◌<◌, get_or, set}
use Rattle.std.proofs.Common.{sym, ◌∙◌, arith}
use Rattle.std.proofs.Math.Path.{ap, subst}
use Rattle.std.proofs.Math.Bool.{true, false, or-true}
use Rattle.std.proofs.lemmas.Bool.{false≢true}
use mathlib.Core.List.{List, [], ◌∷◌, ◌++◌, map, append-nil}
use Rattle.std.proofs.Math.ListN.{length}
use Rattle.rules.specs.Lists.{any, below}
use Rattle.rules.specs.Files.{Stop, Case}
use Rattle.rules.specs.Turns.{Place, same, Mark, block, Leg, leg, train_at, way, after, ahead, head_is, ended, asks, due_again, leaves_block, leaving, entered, State, Rules, Arrival}
use Rattle.rules.specs.Turns.Place.{outside}
use Rattle.rules.specs.Single.{pair_at, first_arrival, waits}
use Rattle.rules.specs.Joint.{entry, whole, first_list}
use Rattle.theory_sound.specs.Facts.{Sound}
use Rattle.theory_sound.specs.Ways.{same_true, same_self}
use Rattle.theory_sound.specs.Trains.{anywhere, way-planned, train-in_time, planned-low}
use Rattle.theory_lists.specs.Every.{Every, every_append, every_left, every_right, every_one, every_keep, every_map, every_each, every_anywhere}
use Rattle.theory_lists.specs.Below.{every_below}
use Rattle.theory_lists.specs.Items.{served_list}
use Rattle.theory_simulation.specs.Places.{asked}
use Rattle.theory_passes.specs.Passes.{cleared}
use Rattle.theory_passes.specs.Marks.{Marks}
use Rattle.theory_passes.specs.Walk.{walk, walk_keeps}

-- ---- the definitions

-- each delay of the case's tables is a byte
abbrev pub ByteDelays : Case → Type 0
ByteDelays C = Every (Every (λ p. p.delay ≤ 255)) C.tables

-- the place is outside or on the way of train k
abbrev pub on_way : Case → ℕ → Place → Bool
on_way C k p = any (λ l. same l.place p) (leg outside 0 ∷ way C k)

pub record Bounded (C : Case) (m : Mark) : Type 0 where
  pub of_case : m.train < length C.trains
  pub is_on_way : on_way C m.train m.place ≡ true
  pub in_time : m.minute ≤ 1438

-- every item of the list shows a bounded mark
abbrev pub AllBounded : {A : Type 0} → Case → (A → Mark) → List A → Type 0
AllBounded C mark l = Every (λ a. Bounded C (mark a)) l

-- ---- what a bounded mark's numbers are

pub way_every : (P : Place → Type 0) (p : Place) (ls : List Leg) → Every (λ l. P l.place) ls → any (λ l. same l.place p) ls ≡ true → P p
way_every P p [] h q = absurd (false≢true q)
way_every P p (l ∷ ls) h q = go (same l.place p) refl q (way_every P p ls h.1)
  where
    go : (b : Bool) → same l.place p ≡ b → (b || any (λ l. same l.place p) ls) ≡ true → (any (λ l. same l.place p) ls ≡ true → P p) → P p
    go true f q ih = subst P (same_true l.place p f) h.0
    go false f q ih = ih q

module _ (C : Case) (sound : Sound C) (m : Mark) (b : Bounded C m) where
  pub bounded-train : m.train < 7
  bounded-train = omega (arith, b.of_case, sound.few_trains)

  pub bounded-minute : m.minute < 2048
  bounded-minute = omega (arith, b.in_time)

-- ---- the marks with which an asker enters

after_any : (test : Leg → Bool) (p : Place) (ls : List Leg) → any test (after p ls) ≡ true → any test ls ≡ true
after_any test p [] h = h
after_any test p (l ∷ ls) h = go (same l.place p) h (after_any test p ls)
  where
    tail : any test ls ≡ true → (test l || any test ls) ≡ true
    tail q = ap (λ (z : Bool). test l || z) q ∙ or-true (test l)

    go : (b : Bool) → any test (cond b ls (after p ls)) ≡ true → (any test (after p ls) ≡ true → any test ls ≡ true) → (test l || any test ls) ≡ true
    go true q ih = tail q
    go false q ih = tail (ih q)

head-any : (e : Place) (ls : List Leg) → head_is e ls ≡ true → any (λ l. same l.place e) ls ≡ true
head-any e [] h = absurd (false≢true h)
head-any e (l ∷ ls) h = ap (λ (z : Bool). z || any (λ l. same l.place e) ls) h

module _ (C : Case) (sound : Sound C) where
  -- what a train asks for is on its way
  pub ahead-on : (k : ℕ) (p e : Place) → head_is e (ahead C k p) ≡ true → on_way C k e ≡ true
  unfolding ahead
  ahead-on k p e h = ap (λ (z : Bool). same outside e || z) (go (same p outside) h) ∙ or-true (same outside e)
    where
      go : (b : Bool) → head_is e (cond b (way C k) (after p (way C k))) ≡ true → any (λ l. same l.place e) (way C k) ≡ true
      go true q = head-any e (way C k) q
      go false q = after_any (λ l. same l.place e) p (way C k) (head-any e (after p (way C k)) q)

  pub entered-bounded : (t : ℕ) → t ≤ C.head.last_minute → (e : Place) (m : Mark) → asks C t e m ≡ true → Bounded C m → Every (Bounded C) (entered C t e m)
  unfolding entered leaving due_again
  entered-bounded t h e m ask b = (
    record {
      of_case = b.of_case;
      is_on_way = ahead-on m.train m.place e (asked C t e m ask).goes;
      in_time = omega (arith, h, sound.in_window, planned-low C.head.last_minute e (way C m.train) (way-planned C sound m.train));
    },
    every_one (Bounded C) (leaves_block C m.place) (block m.train m.place (t + C.head.safety))
        (λ q. record {
          of_case = b.of_case;
          is_on_way = b.is_on_way;
          in_time = omega (arith, h, sound.in_window, sound.head_sound.short_safety);
        }),
  )

  -- ---- a walk

  module _ {A : Type 0} (R : Rules A) (marks : Marks C R) (t : ℕ) (h : t ≤ C.head.last_minute) (e : Place) where
    serve-bounded : (b : List A) (a : A) (c : List A) → asks C t e (R.mark a) ≡ true → AllBounded C R.mark (b ++ (a ∷ c))
        → AllBounded C R.mark (served_list (R.serve t e (b ++ (a ∷ c)) a) b c)
    serve-bounded b a c ask q =
        every_append P (b ++ s.0 ++ c) s.1
        (every_append P (b ++ s.0) c (every_append P b s.0 (every_left P b (a ∷ c) q) new.0) (every_right P b (a ∷ c) q).1)
        new.1
      where
        P : A → Type 0
        P i = Bounded C (R.mark i)

        s : List A × List A
        s = ((R.serve t e (b ++ (a ∷ c)) a).rows, (R.serve t e (b ++ (a ∷ c)) a).added)

        own : Bounded C (R.mark a)
        own = (every_right P b (a ∷ c) q).0

        new : Every P s.0 × Every P s.1
        new = marks (Bounded C) t e (b ++ (a ∷ c)) a own (entered-bounded t h e (R.mark a) ask own)

    pub walk-bounded : (k : ℕ) (l : List A) (v : List (Arrival A)) (n : ℕ) → AllBounded C R.mark l → AllBounded C R.mark (walk C R t e k [] l [] v n).list
    walk-bounded k l v n q =
        walk_keeps C R t e (λ u w. AllBounded C R.mark u) (λ b a c w ask p. serve-bounded b a c ask p) k [] l [] v n
        (subst (AllBounded C R.mark) (sym (append-nil l)) q)

  -- ---- the end of blocks

  pub cleared-bounded : {A : Type 0} (mark : A → Mark) (t : ℕ) (s : State A) → AllBounded C mark s.list → AllBounded C mark (cleared mark t s).list
  cleared-bounded mark t s q = every_keep (λ a. Bounded C (mark a)) (λ a. not (ended t (mark a))) s.list q

  -- ---- the first marks

  first-arrival : (T : ℕ) (stops : List Stop) → Every (λ s. s.departure ≤ T) stops → Every (λ s. s.arrival ≤ s.departure) stops → first_arrival stops ≤ T
  first-arrival T [] d a = omega arith
  first-arrival T (s ∷ l) d a = omega (arith, d.0, a.0)

  pub arrival-low : (k : ℕ) → first_arrival (train_at C k).stops ≤ C.head.last_minute
  arrival-low =
      anywhere (λ u. first_arrival u.stops ≤ C.head.last_minute) C sound (omega arith)
      (λ u s. first-arrival C.head.last_minute u.stops (train-in_time (length C.stations) C.tracks C.head.last_minute u s) s.stays)

  module _ (bytes : ByteDelays C) where
    pub delay-low : (k d : ℕ) → (pair_at C k d).delay ≤ 255
    delay-low k d =
        every_anywhere (λ p. p.delay ≤ 255) (get_or C.tables k []) (record { delay = 0; weight = 0 }) (omega arith)
        (every_anywhere (Every (λ p. p.delay ≤ 255)) C.tables [] tt bytes k) d

    pub waits-bounded : (k d : ℕ) → k < length C.trains → Bounded C (waits C k d)
    unfolding waits
    waits-bounded k d h = record {
      of_case = h;
      is_on_way = ap (λ (z : Bool). z || any (λ l. same l.place outside) (way C k)) (same_self outside);
      in_time = omega (arith, sound.in_window, arrival-low k, delay-low k d);
    }

    pub first_list-bounded : AllBounded C (λ r. r.mark) (first_list C)
    unfolding first_list
    first_list-bounded =
        every_each (λ k. k < length C.trains) (λ r. Bounded C r.mark) (λ k. map (λ d. entry (waits C k d) (set (whole C) k (d ∷ []))) (below (length (get_or C.tables k []))))
        (λ k h. every_map (λ d. d < length (get_or C.tables k [])) (λ r. Bounded C r.mark) (λ d. entry (waits C k d) (set (whole C) k (d ∷ [])))
        (λ d l. waits-bounded k d h) (below (length (get_or C.tables k []))) (every_below (length (get_or C.tables k []))))
        (below (length C.trains)) (every_below (length C.trains))
