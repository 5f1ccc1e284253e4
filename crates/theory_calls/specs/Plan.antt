-- No arrival is before plan, so the lateness, which is a difference, never stops at 0.
-- A train that stands somewhere is due no earlier than the plan leaves time for the rest of its way, and each step takes its full planned length. Assumes nothing.
use Rattle.std.specs.Prelude.{◌≡◌, Bool, true, false, cond, List, [], ◌∷◌, ◌++◌, map, ℕ, ◌+◌, ◌-◌, ◌≤◌, ◌<◌, length, get_or, eqb}
use Rattle.std.proofs.Math.Path.{refl, ap, subst}
use Rattle.std.proofs.Common.{sym, ◌∙◌, le_refl, arith, eqb-true}
use Rattle.std.proofs.Math.Bool.{not}
use Rattle.std.proofs.lemmas.Bool.{false≢true}
use Rattle.std.proofs.Math.Option.{some}
use Rattle.rules.specs.Lists.{below, has}
use Rattle.rules.specs.Refusals.Result.{answer}
use Rattle.rules.specs.Files.{Track, Stop, Case, last_of, repeats, files}
use Rattle.rules.specs.Turns.{Place, same, Mark, block, Leg, leg, legs, train_at, way, after, ahead, head_is, planned_on, last_station, elements, ended, asks, due_again, leaves_block, leaving, entered, Arrival, arriving, served}
use Rattle.rules.specs.Turns.Place.{outside, station}
use Rattle.rules.specs.Single.{first_arrival, waits, first_marks, enters, serve_train, single_rules, single, minute_of, arrival}
use Rattle.rules.specs.Figures.{plan}
use Rattle.theory_lists.specs.Every.{Every, every_append, every_left, every_right, every_one, every_keep, every_more, every_map, every_all, every_source, fails_every}
use Rattle.theory_lists.specs.Items.{served_list}
use Rattle.theory_lists.specs.Tests.{or_false-first, or_false-second}
use Rattle.theory_sound.specs.Facts.{Sound, Steps}
use Rattle.theory_sound.proofs.Accepted.{accepted-sound}
use Rattle.theory_sound.specs.Ways.{same_true, Apart, off_head, off_after, ahead_after}
use Rattle.theory_sound.specs.Trains.{anywhere, way_apart}
use Rattle.theory_simulation.specs.Keeping.{run_keeps}
use Rattle.theory_simulation.specs.Places.{Asked, asked}
use Rattle.theory_weights.specs.Log.{single_logged}

-- ---- the rest of a way

-- the planned minutes on the elements before the last station
abbrev to_go : Place → List Leg → ℕ
to_go last [] = 0
to_go last (l ∷ ls) = cond (same l.place last) 0 (l.planned + to_go last ls)

-- nothing is to go where the last station is next
to_go-last : (last : Place) (ls : List Leg) → head_is last ls ≡ true → to_go last ls ≡ 0
to_go-last last [] h = refl
to_go-last last (l ∷ ls) h = ap (λ (b : Bool). cond b 0 (l.planned + to_go last ls)) h

-- a way that begins with e
head-leg : (e : Place) (ls : List Leg) → head_is e ls ≡ true → ls ≡ leg e (planned_on e ls) ∷ after e ls
head-leg e [] h = absurd (false≢true h)
head-leg e (l ∷ ls) h = rw (h, same_true l.place e h)

-- what stands after a place of a way, if e is next
after-leg : (p e : Place) (ls : List Leg) → Apart ls → head_is e (after p ls) ≡ true → after p ls ≡ leg e (planned_on e ls) ∷ after e ls
after-leg p e [] a h = absurd (false≢true h)
after-leg p e (l ∷ ls) a h = go (same l.place p) h (after-leg p e ls a.1)
  where
    past : same l.place e ≡ false → leg e (planned_on e (l ∷ ls)) ∷ after e (l ∷ ls) ≡ leg e (planned_on e ls) ∷ after e ls
    past q = ap (λ (b : Bool). leg e (cond b l.planned (planned_on e ls)) ∷ cond b ls (after e ls)) q

    go : (b : Bool) → head_is e (cond b ls (after p ls)) ≡ true → (head_is e (after p ls) ≡ true → after p ls ≡ leg e (planned_on e ls) ∷ after e ls)
        → cond b ls (after p ls) ≡ leg e (planned_on e (l ∷ ls)) ∷ after e (l ∷ ls)
    go true h ih = head-leg e ls h ∙ sym (past (off_head l.place e ls a.0 h))
    go false h ih = ih h ∙ sym (past (off_head l.place e (after p ls) (off_after l.place p ls a.0) h))

-- a step takes its planned length of what is to go
to_go-step : (last : Place) (C : Case) → Sound C → (k : ℕ) (p e : Place) → head_is e (ahead C k p) ≡ true
    → to_go last (ahead C k p) ≤ planned_on e (way C k) + to_go last (ahead C k e)
to_go-step last C sound k p e h =
    omega (
      arith,
      ap (to_go last) (ahead_after C k p ∙ after-leg p e (leg outside 0 ∷ way C k) (way_apart C sound k) (rw (ahead_after C k p) at h)),
      ap (to_go last) (ahead_after C k e),
      first (same e last),
      start (same outside e),
    )
  where
    first : (b : Bool) → cond b 0 (planned_on e (leg outside 0 ∷ way C k) + to_go last (after e (leg outside 0 ∷ way C k)))
        ≤ planned_on e (leg outside 0 ∷ way C k) + to_go last (after e (leg outside 0 ∷ way C k))
    first true = omega arith
    first false = omega arith

    start : (b : Bool) → cond b 0 (planned_on e (way C k)) ≤ planned_on e (way C k)
    start true = omega arith
    start false = omega arith

-- ---- the whole way

-- a station that is none of the stops' is not the last one's
last-other : (a : ℕ) (s : Stop) (stops : List Stop) → Every (λ z. eqb a z.station ≡ false) (s ∷ stops) → eqb a (last_of (s ∷ stops)).station ≡ false
last-other a s [] h = h.0
last-other a s (z ∷ stops) h = last-other a z stops h.1

others : (a : ℕ) (stops : List Stop) → has (map (λ s. s.station) stops) a ≡ false → Every (λ s. eqb a s.station ≡ false) stops
others a stops h = every_source (λ s. eqb a s ≡ false) (λ s. s.station) stops (fails_every _ (eqb a) (λ s n. n) (map (λ s. s.station) stops) h)

-- the planned lengths lead from the first arrival to the last
legs-to_go : (ts : List Track) (stops : List Stop) → repeats (map (λ s. s.station) stops) ≡ false → Every (λ s. s.arrival ≤ s.departure) stops
    → Steps (λ a b. a.departure < b.arrival) stops
    → (last_of stops).arrival ≤ first_arrival stops + to_go (station (last_of stops).station) (legs ts stops)
unfolding same
legs-to_go ts [] r s d = omega arith
legs-to_go ts (a ∷ []) r s d = omega arith
legs-to_go ts (a ∷ (b ∷ l)) r s d =
    let apart : eqb a.station (last_of (b ∷ l)).station ≡ false =
    last-other a.station b l (others a.station (b ∷ l) (or_false-first (has stations a.station) (repeats stations) r)) in
    omega (
      arith,
      ap (λ (z : Bool). cond z 0 (a.departure - a.arrival + (b.arrival - a.departure + rest))) apart,
      legs-to_go ts (b ∷ l) (or_false-second (has stations a.station) (repeats stations) r) s.1 d.1,
      s.0,
      d.0,
    )
  where
    stations : List ℕ
    stations = map (λ s. s.station) (b ∷ l)

    rest : ℕ
    rest = to_go (station (last_of (b ∷ l)).station) (legs ts (b ∷ l))

way-to_go : (C : Case) → Sound C → (k : ℕ) → plan C k ≤ first_arrival (train_at C k).stops + to_go (last_station C k) (way C k)
unfolding plan last_station way
way-to_go C sound =
    anywhere (λ u. (last_of u.stops).arrival ≤ first_arrival u.stops + to_go (station (last_of u.stops).station) (legs C.tracks u.stops)) C sound (omega arith)
    (λ u s. legs-to_go C.tracks u.stops s.no_repeat s.stays s.drives)

-- ---- the single run

module _ (C : Case) (sound : Sound C) where
  -- a standing mark is due no earlier than the plan leaves time for the rest of the way
  abbrev OnPlan : Mark → Type 0
  OnPlan m = m.blocks ≡ false → plan C m.train ≤ m.minute + to_go (last_station C m.train) (ahead C m.train m.place)

  outside-ahead : (k : ℕ) → ahead C k outside ≡ way C k
  unfolding ahead same
  outside-ahead k = refl

  waits-plan : (k i : ℕ) → OnPlan (waits C k i)
  unfolding waits
  waits-plan k i h = omega (arith, way-to_go C sound k, ap (to_go (last_station C k)) (outside-ahead k))

  entered-plan : (t : ℕ) (e : Place) (m : Mark) → Asked C t e m → OnPlan m → Every OnPlan (entered C t e m)
  unfolding entered leaving due_again
  entered-plan t e m a h = (
    λ q. omega (arith, a.due, h a.stood, to_go-step (last_station C m.train) C sound m.train m.place e a.goes),
    every_one OnPlan (leaves_block C m.place) (block m.train m.place (t + C.head.safety)) (λ q r. absurd (false≢true (sym r))),
  )

  -- an arrival is not before its train's plan
  abbrev Planned : Arrival Mark → Type 0
  Planned v = plan C v.who.train ≤ v.minute

  arriving-plan : (t : ℕ) (e : Place) (m : Mark) → Asked C t e m → OnPlan m → Every Planned (arriving C t e m)
  unfolding arriving
  arriving-plan t e m a h =
      every_one Planned (same e (last_station C m.train)) _
      (λ q. omega (arith, a.due, h a.stood, to_go-last (last_station C m.train) (ahead C m.train m.place) (subst (λ (p : Place). head_is p (ahead C m.train m.place) ≡ true) (same_true e (last_station C m.train) q) a.goes)))

  -- of the list and the arrivals
  abbrev Kept : List Mark → List (Arrival Mark) → Type 0
  Kept l v = Every OnPlan l × Every Planned v

  serve-plan : (t : ℕ) (e : Place) (b : List Mark) (a : Mark) (c : List Mark) (v : List (Arrival Mark)) → asks C t e a ≡ true → Kept (b ++ (a ∷ c)) v
      → Kept (served_list (serve_train C t e (b ++ (a ∷ c)) a) b c) (v ++ (serve_train C t e (b ++ (a ∷ c)) a).arrived)
  unfolding serve_train
  serve-plan t e b a c v ask h = go (enters C e a.train (b ++ (a ∷ c)))
    where
      own : OnPlan a
      own = (every_right OnPlan b (a ∷ c) h.0).0

      around : (r s : List Mark) → Every OnPlan r → Every OnPlan s → Every OnPlan (b ++ r ++ c ++ s)
      around r s p q =
          every_append OnPlan (b ++ r ++ c) s
          (every_append OnPlan (b ++ r) c (every_append OnPlan b r (every_left OnPlan b (a ∷ c) h.0) p) (every_right OnPlan b (a ∷ c) h.0).1) q

      go : (z : Bool) → Kept (served_list (cond z (served [] (entered C t e a) (arriving C t e a)) (served (a ∷ []) [] [])) b c)
          (v ++ (cond z (served [] (entered C t e a) (arriving C t e a)) (served (a ∷ []) [] [])).arrived)
      go true = (
        around [] (entered C t e a) tt (entered-plan t e a (asked C t e a ask) own),
        every_append Planned v (arriving C t e a) h.1 (arriving-plan t e a (asked C t e a ask) own),
      )
      go false = (around (a ∷ []) [] (own, tt) tt, every_append Planned v [] h.1 tt)

  single-plan : (x : List ℕ) (m : ℕ) → Kept (single C x m).list (single C x m).arrived
  unfolding single single_rules first_marks
  single-plan x m =
      run_keeps C (single_rules C) m (λ e. Unit) (every_all (λ e. Unit) (λ e. tt) (elements C)) Kept
      (λ t h l v p. (every_keep OnPlan (λ a. not (ended t a)) l p.0, p.1))
      (λ t h e u b a c v ask p. serve-plan t e b a c v ask p)
      (first_marks C x)
      (every_map (λ k. Unit) OnPlan (λ k. waits C k (get_or x k 0)) (λ k u. waits-plan k (get_or x k 0)) (below (length C.trains)) (every_all (λ k. Unit) (λ k. tt) (below (length C.trains))), tt)
      m (le_refl m)

-- ---- arrivals

-- what each arrival of train k has, its minute has
minute-has : (P : ℕ → Type 0) (k : ℕ) (vs : List (Arrival Mark)) → Every (λ v. v.who.train ≡ k → P v.minute) vs → (t : ℕ) → minute_of k vs ≡ some t → P t
minute-has P k [] h t e =
    let z : ◌≡◌ {A = ℕ} 0 1 = cc in
    absurd (omega arith)
minute-has P k (v ∷ vs) h t e = go (eqb v.who.train k) refl e (minute-has P k vs h.1 t)
  where
    go : (b : Bool) → eqb v.who.train k ≡ b → cond b (some v.minute) (minute_of k vs) ≡ some t → (minute_of k vs ≡ some t → P t) → P t
    go true q e ih = let same : v.minute ≡ t = cc e in subst P same (h.0 (eqb-true v.who.train k q))
    go false q e ih = ih e

module _ (cs bk : List ℕ) (C : Case) (accepted : files cs bk ≡ answer C) where
  -- whatever the choice, a train that arrives does so in no minute before the planned one
  pub arrival-plan : (x : List ℕ) (k t : ℕ) → arrival C x k ≡ some t → plan C k ≤ t
  unfolding arrival
  arrival-plan x k t e =
      minute-has (λ u. plan C k ≤ u) k (single C x C.head.last_minute).arrived
      (every_more (λ v. plan C v.who.train ≤ v.minute) (λ v. v.who.train ≡ k → plan C k ≤ v.minute)
      (λ v h q. subst (λ (j : ℕ). plan C j ≤ v.minute) q h) (single C x C.head.last_minute).arrived
      (single-plan C (accepted-sound cs bk C accepted) x C.head.last_minute).1)
      t e

  -- nor in a minute after the last of the window
  pub arrival-window : (x : List ℕ) (k t : ℕ) → arrival C x k ≡ some t → t ≤ C.head.last_minute
  unfolding arrival
  arrival-window x k t e =
      minute-has (λ u. u ≤ C.head.last_minute) k (single C x C.head.last_minute).arrived
      (every_more (λ v. v.minute ≤ C.head.last_minute) (λ v. v.who.train ≡ k → v.minute ≤ C.head.last_minute) (λ v h q. h)
      (single C x C.head.last_minute).arrived (single_logged C x C.head.last_minute))
      t e
