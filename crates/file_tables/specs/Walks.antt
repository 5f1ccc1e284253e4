-- The laws by which each function reads a train's stops and the tracks: what one turn of its loop does, and what its end leaves.
-- Each opens the definition at its next stop or track. Assumes nothing.
use Rattle.std.proofs.Math.Path.{◌≡◌, refl, ap}
use Rattle.std.proofs.Common.{sym, ◌∙◌, append-nil, not-suc-le-zero, length-append, length-set}
use Rattle.std.specs.Prelude.{Bool, cond, List, [], ◌∷◌, ◌++◌, length, take, drop, set, replicate, eqb, Option, Some, None, MatchOption}
use Rattle.std.specs.List.{find, range_with_len}
use Rattle.std.proofs.Math.Bool.{true, false}
use Prim.Native.Nat.{ℕ, zero, suc, ◌+◌, ◌-◌, ◌*◌, ◌≤◌, ◌<◌}
use native.Mathlib.Omega.{arith}
use Rattle.rules.specs.Files.{Track, Stop, byte, word, leads, last_of}
use Rattle.rules.specs.Turns.{track_from}
use Rattle.rules.specs.Single.{first_arrival}
use borrow.Author.Tests.{eq-eqb, ne_eqb}
use Rattle.file_tables.specs.Model.{rows, partner_from, track_in, tracks_from, stop_in, stops_from, stops_at, train_in, track_code, walk_next, walk_stay, first_station, next_row_of, stay_row, stop_word, next_part, stay_part, way_part}
use Rattle.file_fields.specs.Fields.{past}
use Rattle.file_tables.specs.Fills.{pad_length, length-rows}

-- ---- the track between two stations

-- the first of n tracks from the i-th on that leads there
module _ (cs : List ℕ) (from to o : ℕ) where
  pub track_found : (n i : ℕ) → MatchOption (find (λ j. leads from to (track_in cs (o + 6 * j))) (range_with_len i n))
      (track_from from to (tracks_from cs n (o + 6 * i)) ≡ n) (λ j. (j ≡ i + track_from from to (tracks_from cs n (o + 6 * i))) × (j < i + n))
  track_found zero i = refl
  track_found (suc n) i =
      let e : o + 6 * i + 6 ≡ o + 6 * (i + 1) = omega arith in
      rw e (step (leads from to (track_in cs (o + 6 * i))) _ _ (track_found n (i + 1)))
    where
      step : (b : Bool) (t : ℕ) (r : Option ℕ) → MatchOption r (t ≡ n) (λ j. (j ≡ i + 1 + t) × (j < i + 1 + n))
          → MatchOption (cond b (Some i) r) (cond b 0 (suc t) ≡ suc n) (λ j. (j ≡ i + cond b 0 (suc t)) × (j < i + suc n))
      step true t r h = (omega arith, omega arith)
      step false t None h = ap suc h
      step false t (Some j) h = (omega arith, omega arith)

  pub track_first : (n : ℕ) → MatchOption (find (λ j. leads from to (track_in cs (o + 6 * j))) (range_with_len 0 n))
      (track_from from to (tracks_from cs n o) ≡ n) (λ j. (j ≡ track_from from to (tracks_from cs n o)) × (j < n))
  track_first n =
      let e : o + 6 * 0 ≡ o = omega arith in
      go _ _ (rw e at (track_found n 0))
    where
      go : (r : Option ℕ) (t : ℕ) → MatchOption r (t ≡ n) (λ j. (j ≡ 0 + t) × (j < 0 + n)) → MatchOption r (t ≡ n) (λ j. (j ≡ t) × (j < n))
      go None t h = h
      go (Some j) t h = (omega arith, omega arith)

-- ---- the partner of a track

module _ (cs : List ℕ) (j : ℕ) where
  pub partner-start : (q o : ℕ) → partner_from cs j (q - 0) o ≡ partner_from cs j q o
  partner-start q o = let e : q - 0 ≡ q = omega arith in rw e

  module _ (q k at : ℕ) (h : k < q) where
    pub partner-first : j ≡ byte cs (at + 3) → partner_from cs j (q - k) at ≡ 24 + byte cs (at + 4)
    partner-first f = let e : q - k ≡ suc (q - (k + 1)) = omega arith in rw (e, eq-eqb j (byte cs (at + 3)) f)

    module _ (n : j ≡ byte cs (at + 3) → ⊥) where
      pub partner-second : j ≡ byte cs (at + 4) → partner_from cs j (q - k) at ≡ 24 + byte cs (at + 3)
      partner-second f =
          let e : q - k ≡ suc (q - (k + 1)) = omega arith in
          rw (e, ne_eqb j (byte cs (at + 3)) n, eq-eqb j (byte cs (at + 4)) f)

      pub partner-next : (j ≡ byte cs (at + 4) → ⊥) → partner_from cs j (q - k) at ≡ partner_from cs j (q - (k + 1)) (at + 5)
      partner-next m =
          let e : q - k ≡ suc (q - (k + 1)) = omega arith in
          rw (e, ne_eqb j (byte cs (at + 3)) n, ne_eqb j (byte cs (at + 4)) m)

  pub partner-end : (q k at : ℕ) → q ≤ k → partner_from cs j (q - k) at ≡ 0
  partner-end q k at h = let e : q - k ≡ 0 = omega arith in rw e

-- ---- a train's stops

pub last-stop : (cs : List ℕ) (n o : ℕ) → last_of (stops_from cs (suc n) o) ≡ stop_in cs (o + 5 * n)
last-stop cs zero o = let e : o + 5 * 0 ≡ o = omega arith in rw e
last-stop cs (suc n) o = let e : o + 5 * suc n ≡ o + 5 + 5 * n = omega arith in rw e (last-stop cs n (o + 5))

module _ (cs : List ℕ) (ts : List Track) where
  -- the stop at i, and the one after it
  pub next-walked : (m i : ℕ) (row : List ℕ) → 2 ≤ m
      → walk_next ts (stops_from cs m i) row
      ≡ walk_next ts (stops_from cs (m - 1) (i + 5)) (set (set row (byte cs i) (track_code ts (stop_in cs i) (stop_in cs (i + 5)))) (track_code ts (stop_in cs i) (stop_in cs (i + 5))) (byte cs (i + 5)))
  unfolding stop_in
  next-walked zero i row h = absurd (not-suc-le-zero h)
  next-walked (suc zero) i row h = absurd (omega arith)
  next-walked (suc (suc m)) i row h = let e : suc (suc m) - 1 ≡ suc m = omega arith in rw e

  pub next_last : (i : ℕ) (row : List ℕ) → walk_next ts (stops_from cs 1 i) row ≡ set row (byte cs i) 64
  unfolding stop_in
  next_last i row = refl

  pub stay-walked : (m i : ℕ) (row : List ℕ) → 2 ≤ m
      → walk_stay ts (stops_from cs m i) row
      ≡ walk_stay ts (stops_from cs (m - 1) (i + 5)) (set (set row (byte cs i) (word cs (i + 3) - word cs (i + 1))) (track_code ts (stop_in cs i) (stop_in cs (i + 5))) (word cs (i + 5 + 1) - word cs (i + 3)))
  unfolding stop_in
  stay-walked zero i row h = absurd (not-suc-le-zero h)
  stay-walked (suc zero) i row h = absurd (omega arith)
  stay-walked (suc (suc m)) i row h = let e : suc (suc m) - 1 ≡ suc m = omega arith in rw e

  pub stay-last : (i : ℕ) (row : List ℕ) → walk_stay ts (stops_from cs 1 i) row ≡ set row (byte cs i) (word cs (i + 3) - word cs (i + 1))
  unfolding stop_in
  stay-last i row = refl

  pub next_row : (o : ℕ) → next_row_of cs ts o ≡ walk_next ts (stops_from cs (stops_at cs o) (o + 5)) (replicate 65 127 ++ replicate 63 (first_station (stops_from cs (stops_at cs o) (o + 5))))
  unfolding next_row_of train_in
  next_row o = refl

  pub stay-row : (o : ℕ) → stay_row cs ts o ≡ walk_stay ts (stops_from cs (stops_at cs o) (o + 5)) (replicate 128 0)
  unfolding stay_row train_in
  stay-row o = refl

pub first_of : (cs : List ℕ) (n i : ℕ) → 0 < n → first_station (stops_from cs n i) ≡ byte cs i
unfolding stop_in
first_of cs zero i h = absurd (not-suc-le-zero h)
first_of cs (suc n) i h = refl

-- ---- words of a train

module _ (cs : List ℕ) (o : ℕ) where
  pub word_none : (which : ℕ) → stops_at cs o ≡ 0 → stop_word cs which o ≡ 0
  unfolding stop_word train_in
  word_none which e = rw e (go (eqb which 0) (eqb which 1))
    where
      go : (a b : Bool) → ◌≡◌ {A = ℕ} (cond a 0 (cond b 0 0)) 0
      go true b = refl
      go false true = refl
      go false false = refl

  module _ (n : ℕ) (e : n ≡ stops_at cs o) (some : n ≡ 0 → ⊥) where
    last-of : last_of (train_in cs o).stops ≡ stop_in cs (o + 5 * n)
    unfolding train_in
    last-of = rw (← e) (go n some)
      where
        go : (n : ℕ) → (n ≡ 0 → ⊥) → last_of (stops_from cs n (o + 5)) ≡ stop_in cs (o + 5 * n)
        go zero h = absurd (h refl)
        go (suc n) h = let q : o + 5 + 5 * n ≡ o + 5 * suc n = omega arith in last-stop cs n (o + 5) ∙ ap (stop_in cs) q

    pub word-station : (which : ℕ) → which ≡ 0 → byte cs (o + 5 * n) ≡ stop_word cs which o
    unfolding stop_word stop_in
    word-station which q = rw (q) (sym (ap (λ (s : Stop). s.station) last-of))

    pub word-plan : (which : ℕ) → which ≡ 1 → word cs (o + 5 * n + 1) ≡ stop_word cs which o
    unfolding stop_word stop_in
    word-plan which q = rw (q) (sym (ap (λ (s : Stop). s.arrival) last-of))

    pub word_first : (which : ℕ) → (which ≡ 0 → ⊥) → (which ≡ 1 → ⊥) → word cs (o + 6) ≡ stop_word cs which o
    unfolding stop_word stop_in train_in
    word_first which p q = rw (ne_eqb which 0 p, ne_eqb which 1 q, ← e) (go n some)
      where
        go : (n : ℕ) → (n ≡ 0 → ⊥) → word cs (o + 6) ≡ first_arrival (stops_from cs n (o + 5))
        go zero h = absurd (h refl)
        go (suc n) h = let q : o + 6 ≡ o + 5 + 1 = omega arith in rw q

-- ---- the head's words

pub heads_put : (l m : List ℕ) (n a b d : ℕ) → l ≡ replicate (length m) 0 → length m ≡ 8
    → set (set (set (set l 0 n) 1 a) 2 b) 3 d ≡ n ∷ a ∷ b ∷ d ∷ 0 ∷ 0 ∷ 0 ∷ 0 ∷ []
heads_put l m n a b d e h = rw (e, h)

-- ---- a row

-- outside, the first station
pub row-start : (l m : List ℕ) (v k : ℕ) (q : List ℕ) → l ≡ replicate (length m) 127 → length m ≡ 128 → q ≡ replicate (length (take k (drop 65 l))) v → k ≡ 63
    → take 65 l ++ (q ++ drop k (drop 65 l)) ≡ replicate 65 127 ++ replicate 63 v
row-start l m v k q e h f g = rw (f, e, h, g) (append-nil _)

-- no stop: nothing is next anywhere
pub row-none : (cs l m : List ℕ) (n i : ℕ) → l ≡ replicate (length m) 127 → length m ≡ 128 → n ≡ 0 → l ≡ replicate 65 127 ++ replicate 63 (first_station (stops_from cs n i))
row-none cs l m n i e h q = rw (e, h, q)

-- ---- one turn of a walk: of n stops, k − 1 are passed, and what is left makes of the row what the whole walk is to make

module _ (cs : List ℕ) (ts : List Track) where
  pub next-holds : (n o : ℕ) (row : List ℕ) → n ≡ stops_at cs o → row ≡ replicate 65 127 ++ replicate 63 (first_station (stops_from cs n (o + 5)))
      → walk_next ts (stops_from cs (n + 1 - 1) (o + 5)) row ≡ next_row_of cs ts o
  next-holds n o row e h = let q : n + 1 - 1 ≡ n = omega arith in rw (q, h, e) (sym (next_row cs ts o))

  pub stay-holds : (n o : ℕ) (row : List ℕ) → n ≡ stops_at cs o → row ≡ replicate 128 0
      → walk_stay ts (stops_from cs (n + 1 - 1) (o + 5)) row ≡ stay_row cs ts o
  stay-holds n o row e h = let q : n + 1 - 1 ≡ n = omega arith in rw (q, h, e) (sym (stay-row cs ts o))

  module _ (n k i : ℕ) (row all : List ℕ) where
    pub next_again : (on : List ℕ) → k < n → walk_next ts (stops_from cs (n + 1 - k) i) row ≡ all
        → on ≡ set (set row (byte cs i) (track_code ts (stop_in cs i) (stop_in cs (i + 5)))) (track_code ts (stop_in cs i) (stop_in cs (i + 5))) (byte cs (i + 5))
        → walk_next ts (stops_from cs (n + 1 - (k + 1)) (i + 5)) on ≡ all
    next_again on h e q =
        let m : n + 1 - (k + 1) ≡ n + 1 - k - 1 = omega arith in
        rw (q, m) (sym (next-walked cs ts (n + 1 - k) i row (omega arith)) ∙ e)

    pub stay_again : (at on : List ℕ) → k < n → walk_stay ts (stops_from cs (n + 1 - k) i) row ≡ all
        → at ≡ set row (byte cs i) (word cs (i + 3) - word cs (i + 1))
        → on ≡ set at (track_code ts (stop_in cs i) (stop_in cs (i + 5))) (word cs (i + 5 + 1) - word cs (i + 3))
        → walk_stay ts (stops_from cs (n + 1 - (k + 1)) (i + 5)) on ≡ all
    stay_again at on h e p q =
        let m : n + 1 - (k + 1) ≡ n + 1 - k - 1 = omega arith in
        rw (q, p, m) (sym (stay-walked cs ts (n + 1 - k) i row (omega arith)) ∙ e)

    pub next-end : (on : List ℕ) → n + 1 - k ≡ 1 → walk_next ts (stops_from cs (n + 1 - k) i) row ≡ all → on ≡ set row (byte cs i) 64 → on ≡ all
    next-end on h e q = q ∙ sym (next_last cs ts i row) ∙ (rw h at e)

    pub stay-end : (on : List ℕ) → n + 1 - k ≡ 1 → walk_stay ts (stops_from cs (n + 1 - k) i) row ≡ all → on ≡ set row (byte cs i) (word cs (i + 3) - word cs (i + 1)) → on ≡ all
    stay-end on h e q = q ∙ sym (stay-last cs ts i row) ∙ (rw h at e)

    pub next-none : n + 1 - k ≡ 0 → walk_next ts (stops_from cs (n + 1 - k) i) row ≡ all → row ≡ all
    next-none h e = rw h at e

    pub stay_none : n + 1 - k ≡ 0 → walk_stay ts (stops_from cs (n + 1 - k) i) row ≡ all → row ≡ all
    stay_none h e = rw h at e

-- a walk keeps the row's length
pub walk_next-length : (ts : List Track) (l : List Stop) (row : List ℕ) → length (walk_next ts l row) ≡ length row
walk_next-length ts [] row = refl
walk_next-length ts (a ∷ []) row = length-set row a.station 64
walk_next-length ts (a ∷ (b ∷ l)) row =
    let m = set row a.station (track_code ts a b) in
    walk_next-length ts (b ∷ l) (set m (track_code ts a b) b.station) ∙ length-set m (track_code ts a b) b.station ∙ length-set row a.station (track_code ts a b)

pub walk_stay-length : (ts : List Track) (l : List Stop) (row : List ℕ) → length (walk_stay ts l row) ≡ length row
walk_stay-length ts [] row = refl
walk_stay-length ts (a ∷ []) row = length-set row a.station (a.departure - a.arrival)
walk_stay-length ts (a ∷ (b ∷ l)) row =
    let m = set row a.station (a.departure - a.arrival) in
    walk_stay-length ts (b ∷ l) (set m (track_code ts a b) (b.arrival - a.departure)) ∙ length-set m (track_code ts a b) (b.arrival - a.departure) ∙ length-set row a.station (a.departure - a.arrival)

pub next-row-length : (cs : List ℕ) (ts : List Track) (o : ℕ) → length (next_row_of cs ts o) ≡ 128
unfolding next_row_of
next-row-length cs ts o = walk_next-length ts (train_in cs o).stops (replicate 65 127 ++ replicate 63 (first_station (train_in cs o).stops))

pub stay-row-length : (cs : List ℕ) (ts : List Track) (o : ℕ) → length (stay_row cs ts o) ≡ 128
unfolding stay_row
stay-row-length cs ts o = walk_stay-length ts (train_in cs o).stops (replicate 128 0)

pub next-part-length : (cs : List ℕ) (ts : List Track) (n o : ℕ) → n ≤ 8 → length (next_part cs ts n o) ≡ 1024
unfolding next_part
next-part-length cs ts n o h =
    pad_length (rows (next_row_of cs ts) (past cs) n o) (128 * n) 1024 127 (length-rows (next_row_of cs ts) (past cs) 128 (next-row-length cs ts) n o) (omega arith)

pub stay-part-length : (cs : List ℕ) (ts : List Track) (n o : ℕ) → n ≤ 8 → length (stay_part cs ts n o) ≡ 1024
unfolding stay_part
stay-part-length cs ts n o h =
    pad_length (rows (stay_row cs ts) (past cs) n o) (128 * n) 1024 0 (length-rows (stay_row cs ts) (past cs) 128 (stay-row-length cs ts) n o) (omega arith)

pub way-part-length : (cs : List ℕ) (ts : List Track) (n o : ℕ) → n ≤ 8 → length (way_part cs ts n o) ≡ 2048
way-part-length cs ts n o h = simp length-append (omega (arith, next-part-length cs ts n o h, stay-part-length cs ts n o h))
