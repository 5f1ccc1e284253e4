-- The verdict on a body that the code computes by offset is the verdict of 01's rules on what the body holds: each rule is carried
-- from the list of stops or pairs to its indices, and the chain of tests is then the same. Assumes nothing.
use Rattle.std.specs.Prelude.{◌≡◌, ◌&&◌, ◌||◌, List, map, drop}
use Rattle.std.proofs.Math.Path.{refl, ap, sym}
use Rattle.std.proofs.Common.{◌∙◌, true≢false, lt-ltb, le-ltb, ne_eqb, leb-false, ltb-true, ltb-false, eqb-true}
use Rattle.std.proofs.Math.Bool.{Bool, true, false, cond, not, or-false}
use Rattle.std.proofs.lemmas.Simd.{map-map}
use Prim.Native.Nat.{ℕ, zero, suc, ◌+◌, ◌-◌, ◌*◌, ◌%◌, ◌<◌}
use native.Mathlib.Omega.{arith}
use Rattle.std.proofs.Math.Dec.{leb, ltb, eqb}
use Rattle.std.proofs.Math.ListN.{length}
use Rattle.std.proofs.lemmas.Bool.{eqb-false}
use Rattle.rules.specs.Lists.{any, span, below, has}
use Rattle.rules.specs.Refusals.{verdict, first_of}
use Rattle.rules.specs.Files.{Contents, Track, Stop, Pair, byte, word, head_of, track_of, stop_of, train_of, pair_of, table_of, couple_of, kind_of, known, lengths, head_rules, station_rules, unknown, leads, track_rules, any_step, repeats, path_broken, times_broken, train_rules, rising, table_rules, track_at, coupled, unlike, couple_rules}
use Rattle.file_fields.specs.At.{byte-drop, word-drop}
use Rattle.file_bodies.specs.Bodies.{any_below, sum_below, head_verdict, station_verdict, ends, joined, track_verdict, stops, stop, arrival, departure, repeated, bad_stop, bad_time, times_verdict, train_verdict, pairs, delay, weight, bad_pair, pairs_verdict, table_verdict, alike, taken, first_couple, couple_verdict, bad_length}
use Rattle.file_bodies.specs.Search.{any_here, any_same, any_or, sum_same, any_below_lem, sum_below_lem, after_first, step-below, repeats-below, rising-below, last_of-below}

-- ---- tests

pub below_one : (n : ℕ) → ltb n 1 ≡ eqb n 0
below_one n = go (eqb n 0) refl
  where
    go : (b : Bool) → eqb n 0 ≡ b → ltb n 1 ≡ b
    go true e = let h = eqb-true n 0 e in lt-ltb n 1 (omega arith)
    go false e = let h = eqb-false n 0 e in le-ltb n 1 (omega arith)

-- ---- head, station, track

pub head_agrees : (b : List ℕ) → head_verdict b ≡ verdict (head_rules (head_of b))
unfolding head_verdict head_rules head_of
head_agrees b =
    rw (below_one (word b 0), le-ltb (byte b 2) 0 (omega arith), below_one (word b 3))
    (go (eqb (word b 0) 0) (ltb 719 (word b 0)) (ltb 30 (byte b 2)) (eqb (word b 3) 0) (ltb 1024 (word b 3)))
  where
    go : (p q r s t : Bool) → cond p 6 (cond q 6 (cond r 6 (cond s 6 (cond t 6 0)))) ≡ first_of (((p || q) || (false || r)) || (s || t)) 6 0
    go true q r s t = refl
    go false true r s t = refl
    go false false true s t = refl
    go false false false true t = refl
    go false false false false true = refl
    go false false false false false = refl

pub station_agrees : (b : List ℕ) → station_verdict b ≡ verdict (station_rules (byte b 0))
unfolding station_verdict station_rules
station_agrees b = rw (below_one (byte b 0)) (go (eqb (byte b 0) 0) (ltb 255 (byte b 0)))
  where
    go : (p q : Bool) → cond p 6 (cond q 6 0) ≡ first_of (p || q) 6 0
    go true q = refl
    go false true = refl
    go false false = refl

module _ (c : Contents) (earlier : List ℕ) (base n stations : ℕ) (known : stations ≡ length c.stations)
    (tracks : (from to : ℕ) → joined earlier base n from to ≡ any (leads from to) c.tracks) where
  pub track_agrees : (b : List ℕ) → track_verdict earlier base n stations b ≡ verdict (track_rules c (track_of b))
  unfolding track_verdict track_rules track_of unknown
  track_agrees b =
      rw (below_one (byte b 2), known, tracks (byte b 0) (byte b 1))
      (go (eqb (byte b 2) 0) (ltb 255 (byte b 2)) (leb (length c.stations) (byte b 0)) (leb (length c.stations) (byte b 1)) (eqb (byte b 0) (byte b 1)) (any (leads (byte b 0) (byte b 1)) c.tracks))
    where
      go : (p q r s t u : Bool) → cond p 6 (cond q 6 (cond r 7 (cond s 7 (cond t 7 (cond u 7 0))))) ≡ first_of (p || q) 6 (first_of (((r || s) || t) || u) 7 0)
      go true q r s t u = refl
      go false true r s t u = refl
      go false false true s t u = refl
      go false false false true t u = refl
      go false false false false true u = refl
      go false false false false false true = refl
      go false false false false false false = refl

  -- ---- train

  module _ (b : List ℕ) where
    -- stop k of the body
    abbrev at : ℕ → Stop
    at k = stop_of (drop (2 + 5 * k) b)

    at-station : (k : ℕ) → (at k).station ≡ stop b k
    unfolding stop_of
    at-station k = byte-drop b (2 + 5 * k) 0 (5 * k + 2) (omega arith)

    at-arrival : (k : ℕ) → (at k).arrival ≡ arrival b k
    unfolding stop_of
    at-arrival k = word-drop b (2 + 5 * k) 1 (5 * k + 3) (omega arith)

    at-departure : (k : ℕ) → (at k).departure ≡ departure b k
    unfolding stop_of
    at-departure k = word-drop b (2 + 5 * k) 3 (5 * k + 5) (omega arith)

    -- a stop is bad where its station is unknown, stands before it, or has no track from the stop before
    stop_agrees : (k : ℕ) → bad_stop earlier base n stations b k
        ≡ (unknown c (at k).station || any_below (λ i. eqb (at i).station (at k).station) k) || after_first (λ i j. not (any (leads (at i).station (at j).station) c.tracks)) k
    unfolding bad_stop repeated unknown
    stop_agrees k =
        rw (known, tracks (stop b (k - 1)) (stop b k), at-station k, at-station (k - 1), any_same (λ i. eqb (at i).station (stop b k)) (λ i. eqb (stop b i) (stop b k)) k (λ i h. rw (at-station i)))
        (go (leb (length c.stations) (stop b k)) (any_below (λ i. eqb (stop b i) (stop b k)) k) (eqb k 0) (any (leads (stop b (k - 1)) (stop b k)) c.tracks))
      where
        go : (p q r s : Bool) → cond p true (cond q true (cond r false (cond s false true))) ≡ (p || q) || cond r false (not s)
        go true q r s = refl
        go false true r s = refl
        go false false true s = refl
        go false false false true = refl
        go false false false false = refl

    path_agrees : (m : ℕ) → any_below (bad_stop earlier base n stations b) m ≡ path_broken c (map at (below m))
    unfolding path_broken
    path_agrees m =
        any_same (bad_stop earlier base n stations b) _ m (λ k h. stop_agrees k)
        ∙ sym (ap (λ (x : Bool). x || any_below (after_first S) m) (any_or U R m) ∙ any_or (λ k. U k || R k) (after_first S) m)
        ∙ ap (λ (x : Bool). (x || any_below R m) || any_below (after_first S) m) (sym (any_below_lem (λ (s : Stop). unknown c s.station) at m))
        ∙ ap (λ (x : Bool). (any (λ (s : Stop). unknown c s.station) (map at (below m)) || x) || any_below (after_first S) m) (sym (ap repeats (map-map (λ (s : Stop). s.station) at (below m)) ∙ repeats-below (λ k. (at k).station) m))
        ∙ ap (λ (x : Bool). (any (λ (s : Stop). unknown c s.station) (map at (below m)) || repeats (map (λ (s : Stop). s.station) (map at (below m)))) || x) (sym (step-below (λ (s t : Stop). not (any (leads s.station t.station) c.tracks)) at m))
      where
        U : ℕ → Bool
        U k = unknown c (at k).station

        R : ℕ → Bool
        R k = any_below (λ i. eqb (at i).station (at k).station) k

        S : ℕ → ℕ → Bool
        S i j = not (any (leads (at i).station (at j).station) c.tracks)

    -- a time is bad where a train leaves before it comes, or comes no later than it left the stop before
    time_agrees : (k : ℕ) → bad_time b k ≡ ltb (at k).departure (at k).arrival || after_first (λ i j. leb (at j).arrival (at i).departure) k
    unfolding bad_time
    time_agrees k =
        rw (at-departure k, at-arrival k, at-departure (k - 1))
        (go (ltb (departure b k) (arrival b k)) (eqb k 0) (leb (arrival b k) (departure b (k - 1))))
      where
        go : (p q r : Bool) → cond p true (cond q false r) ≡ p || cond q false r
        go true q r = refl
        go false q r = refl

    times-agree : (m : ℕ) → word earlier 3 ≡ c.head.last_minute → length b ≡ 5 * suc m + 2 → times_verdict earlier b ≡ first_of (times_broken c (map at (below (suc m)))) 9 0
    unfolding times_verdict times_broken
    times-agree m last size =
        let count : stops b ≡ suc m = omega arith in
        let end : length b - 2 ≡ 5 * m + 5 = omega arith in
        rw (last, count, end)
        (go (any_below (bad_time b) (suc m)) (ltb c.head.last_minute (word b (5 * m + 5)))
        ∙ ap (λ (x : Bool). first_of (x || ltb c.head.last_minute (word b (5 * m + 5))) 9 0)
        (any_same (bad_time b) _ (suc m) (λ k h. time_agrees k) ∙ sym (any_or D (after_first S) (suc m))
        ∙ ap (λ (x : Bool). x || any_below (after_first S) (suc m)) (sym (any_below_lem (λ (s : Stop). ltb s.departure s.arrival) at (suc m)))
        ∙ ap (λ (x : Bool). any (λ (s : Stop). ltb s.departure s.arrival) (map at (below (suc m))) || x) (sym (step-below (λ (s t : Stop). leb t.arrival s.departure) at (suc m))))
        ∙ ap (λ (t : ℕ). first_of ((any (λ (s : Stop). ltb s.departure s.arrival) (map at (below (suc m))) || any_step (λ (s t : Stop). leb t.arrival s.departure) (map at (below (suc m)))) || ltb c.head.last_minute t) 9 0)
        (sym (ap (λ (s : Stop). s.departure) (last_of-below at m) ∙ at-departure m)))
      where
        D : ℕ → Bool
        D k = ltb (at k).departure (at k).arrival

        S : ℕ → ℕ → Bool
        S i j = leb (at j).arrival (at i).departure

        go : (p q : Bool) → cond p 9 (cond q 9 0) ≡ first_of (p || q) 9 0
        go true q = refl
        go false true = refl
        go false false = refl

    pub train_agrees : (m place : ℕ) → word earlier 3 ≡ c.head.last_minute → length b ≡ 5 * suc m + 2 → train_verdict earlier base n stations b ≡ verdict (train_rules c (train_of place b))
    unfolding train_verdict train_rules train_of
    train_agrees m place last size =
        let count : stops b ≡ suc m = omega arith in
        rw count
        (ap (λ (x : Bool). cond x 8 (times_verdict earlier b)) (path_agrees (suc m)) ∙ ap (λ (x : ℕ). cond (path_broken c (map at (below (suc m)))) 8 x) (times-agree m last size)
        ∙ go (path_broken c (map at (below (suc m)))) (times_broken c (map at (below (suc m)))))
      where
        go : (p q : Bool) → cond p 8 (first_of q 9 0) ≡ first_of p 8 (first_of q 9 0)
        go true q = refl
        go false q = refl

-- ---- delay table

module _ (c : Contents) (tables last : ℕ) (types : (x : ℕ) → any (λ e. leb x e.type) c.tables ≡ cond (eqb tables 0) false (leb x last)) (b : List ℕ) where
  -- pair k of the body
  abbrev pair : ℕ → Pair
  pair k = pair_of (drop (1 + 2 * k) b)

  pair-delay : (k : ℕ) → (pair k).delay ≡ delay b k
  unfolding pair_of
  pair-delay k = byte-drop b (1 + 2 * k) 0 (2 * k + 1) (omega arith)

  pair-weight : (k : ℕ) → (pair k).weight ≡ weight b k
  unfolding pair_of
  pair-weight k = byte-drop b (1 + 2 * k) 1 (2 * k + 2) (omega arith)

  pair_agrees : (k : ℕ) → bad_pair b k ≡ after_first (λ i j. leb (pair j).delay (pair i).delay) k || eqb (pair k).weight 0
  unfolding bad_pair
  pair_agrees k =
      rw (pair-delay k, pair-delay (k - 1), pair-weight k)
      (go (eqb (weight b k) 0) (eqb k 0) (leb (delay b k) (delay b (k - 1))))
    where
      go : (p q r : Bool) → cond p true (cond q false r) ≡ cond q false r || p
      go true true r = refl
      go true false true = refl
      go true false false = refl
      go false true r = refl
      go false false true = refl
      go false false false = refl

  pairs-agree : (m : ℕ) → any_below (bad_pair b) m ≡ not (rising (map (λ (p : Pair). p.delay) (map pair (below m)))) || any (λ (p : Pair). eqb p.weight 0) (map pair (below m))
  pairs-agree m =
      any_same (bad_pair b) _ m (λ k h. pair_agrees k) ∙ sym (any_or (after_first D) W m)
      ∙ ap (λ (x : Bool). x || any_below W m) (sym (ap (λ (l : List ℕ). not (rising l)) (map-map (λ (p : Pair). p.delay) pair (below m)) ∙ rising-below (λ k. (pair k).delay) m))
      ∙ ap (λ (x : Bool). not (rising (map (λ (p : Pair). p.delay) (map pair (below m)))) || x) (sym (any_below_lem (λ (p : Pair). eqb p.weight 0) pair m))
    where
      D : ℕ → ℕ → Bool
      D i j = leb (pair j).delay (pair i).delay

      W : ℕ → Bool
      W k = eqb (pair k).weight 0

  pub table_agrees : table_verdict tables last b ≡ verdict (table_rules c (table_of b))
  unfolding table_verdict pairs_verdict table_rules table_of
  table_agrees =
      rw (pairs-agree (pairs b), types (byte b 0), sum_below_lem (λ (p : Pair). p.weight) pair (pairs b), sum_same (λ k. (pair k).weight) (weight b) (pairs b) (λ k h. pair-weight k))
      (go (eqb tables 0) (leb (byte b 0) last) (not (rising (map (λ (p : Pair). p.delay) (map pair (below (pairs b))))) || any (λ (p : Pair). eqb p.weight 0) (map pair (below (pairs b)))) (eqb (sum_below (weight b) (pairs b)) 100))
    where
      go : (z l x e : Bool) → cond z (cond x 10 (cond e 0 10)) (cond l 10 (cond x 10 (cond e 0 10))) ≡ first_of ((x || not e) || cond z false l) 10 0
      go true l true e = refl
      go true l false true = refl
      go true l false false = refl
      go false true true e = refl
      go false true false true = refl
      go false true false false = refl
      go false false true e = refl
      go false false false true = refl
      go false false false false = refl

-- ---- couple

module _ (c : Contents) (earlier : List ℕ) (base tracks n : ℕ) (many : tracks ≡ length c.tracks)
    (stand : (j : ℕ) → j < tracks → track_of (drop (base + 6 * j + 3) earlier) ≡ track_at c j)
    (known : (t : ℕ) → taken earlier (first_couple earlier n) n t ≡ has (coupled c.couples) t) where
  from-here : (j : ℕ) → j < tracks → byte earlier (base + 6 * j + 3) ≡ (track_at c j).from
  unfolding track_of
  from-here j h = sym (byte-drop earlier (base + 6 * j + 3) 0 (base + 6 * j + 3) (omega arith)) ∙ ap (λ (r : Track). r.from) (stand j h)

  to-here : (j : ℕ) → j < tracks → byte earlier (base + 6 * j + 4) ≡ (track_at c j).to
  unfolding track_of
  to-here j h = sym (byte-drop earlier (base + 6 * j + 3) 1 (base + 6 * j + 4) (omega arith)) ∙ ap (λ (r : Track). r.to) (stand j h)

  capacity-here : (j : ℕ) → j < tracks → byte earlier (base + 6 * j + 5) ≡ (track_at c j).capacity
  unfolding track_of
  capacity-here j h = sym (byte-drop earlier (base + 6 * j + 3) 2 (base + 6 * j + 5) (omega arith)) ∙ ap (λ (r : Track). r.capacity) (stand j h)

  alike_agrees : (i j : ℕ) → i < tracks → j < tracks
      → alike earlier (base + 6 * i) (base + 6 * j)
      ≡ leads (track_at c j).to (track_at c j).from (track_at c i) && eqb (track_at c i).capacity (track_at c j).capacity
  unfolding alike ends leads
  alike_agrees i j h k =
      rw (from-here i h, to-here i h, capacity-here i h, from-here j k, to-here j k, capacity-here j k)
      (go (eqb (track_at c i).from (track_at c j).to) (eqb (track_at c i).to (track_at c j).from) (eqb (track_at c i).capacity (track_at c j).capacity))
    where
      go : (p q r : Bool) → cond (cond p q false) r false ≡ (p && q) && r
      go true true r = refl
      go true false r = refl
      go false q r = refl

  pub couple_agrees : (b : List ℕ) → couple_verdict earlier base tracks n b ≡ verdict (couple_rules c (couple_of b))
  unfolding couple_verdict couple_rules couple_of unlike
  couple_agrees b = rw (many, known i, known j) (go (leb (length c.tracks) i) (leb (length c.tracks) j) refl refl)
    where
      i : ℕ
      i = byte b 0

      j : ℕ
      j = byte b 1

      mirrors : Bool
      mirrors = leads (track_at c j).to (track_at c j).from (track_at c i)

      equal : Bool
      equal = eqb (track_at c i).capacity (track_at c j).capacity

      is-coupled : ℕ → Bool
      is-coupled t = has (coupled c.couples) t

      tests : (p q r s : Bool) → cond (not (p && q)) 18 (cond r 18 (cond s 18 0)) ≡ first_of (((not p || not q) || r) || s) 18 0
      tests false q r s = refl
      tests true false r s = refl
      tests true true true s = refl
      tests true true false true = refl
      tests true true false false = refl

      go : (p q : Bool) → leb (length c.tracks) i ≡ p → leb (length c.tracks) j ≡ q
          → cond p 18 (cond q 18 (cond (not (alike earlier (base + 6 * i) (base + 6 * j))) 18 (cond (is-coupled i) 18 (cond (is-coupled j) 18 0))))
          ≡ first_of (((((p || q) || not mirrors) || not equal) || is-coupled i) || is-coupled j) 18 0
      go true q e f = refl
      go false true e f = refl
      go false false e f =
          let h = leb-false (length c.tracks) i e in
          let k = leb-false (length c.tracks) j f in
          rw (alike_agrees i j (omega arith) (omega arith)) (tests mirrors equal (is-coupled i) (is-coupled j))

-- ---- lengths

abbrev differ : Bool → Bool → Bool
differ true b = not b
differ false b = b

-- two tests that computing finds equal at each number below m
equal-below : (f g : ℕ → Bool) (m : ℕ) → any_below (λ k. differ (f k) (g k)) m ≡ false → (n : ℕ) → n < m → f n ≡ g n
equal-below f g m h n k = go (f n) (g n) refl refl
  where
    no : (p q : Bool) → f n ≡ p → g n ≡ q → differ p q ≡ true → ⊥
    no p q x y d = true≢false (sym (any_here (λ i. differ (f i) (g i)) n m k (rw (x, y) d)) ∙ h)

    go : (p q : Bool) → f n ≡ p → g n ≡ q → p ≡ q
    go true true x y = refl
    go true false x y = absurd (no true false x y refl)
    go false true x y = absurd (no false true x y refl)
    go false false x y = refl

train-length : (n : ℕ) → not (has (map (λ k. 2 + 5 * k) (span 7 2)) n) ≡ cond (ltb n 12) true (cond (ltb 42 n) true (not (eqb (n % 5) 2)))
unfolding any_below
train-length n = go (ltb n 43) refl
  where
    go : (b : Bool) → ltb n 43 ≡ b → not (has (map (λ k. 2 + 5 * k) (span 7 2)) n) ≡ cond (ltb n 12) true (cond (ltb 42 n) true (not (eqb (n % 5) 2)))
    go true e = equal-below (λ i. not (has (map (λ k. 2 + 5 * k) (span 7 2)) i)) (λ i. cond (ltb i 12) true (cond (ltb 42 i) true (not (eqb (i % 5) 2)))) 43 refl n (ltb-true n 43 e)
    go false e =
        let h = ltb-false n 43 e in
        rw (ne_eqb n 12 (λ q. omega arith), ne_eqb n 17 (λ q. omega arith), ne_eqb n 22 (λ q. omega arith), ne_eqb n 27 (λ q. omega arith), ne_eqb n 32 (λ q. omega arith), ne_eqb n 37 (λ q. omega arith), ne_eqb n 42 (λ q. omega arith), le-ltb n 12 (omega arith), lt-ltb 42 n (omega arith))

table-length : (n : ℕ) → not (has (map (λ k. 1 + 2 * k) (span 8 1)) n) ≡ cond (ltb n 3) true (cond (ltb 17 n) true (not (eqb (n % 2) 1)))
unfolding any_below
table-length n = go (ltb n 18) refl
  where
    go : (b : Bool) → ltb n 18 ≡ b → not (has (map (λ k. 1 + 2 * k) (span 8 1)) n) ≡ cond (ltb n 3) true (cond (ltb 17 n) true (not (eqb (n % 2) 1)))
    go true e = equal-below (λ i. not (has (map (λ k. 1 + 2 * k) (span 8 1)) i)) (λ i. cond (ltb i 3) true (cond (ltb 17 i) true (not (eqb (i % 2) 1)))) 18 refl n (ltb-true n 18 e)
    go false e =
        let h = ltb-false n 18 e in
        rw (ne_eqb n 3 (λ q. omega arith), ne_eqb n 5 (λ q. omega arith), ne_eqb n 7 (λ q. omega arith), ne_eqb n 9 (λ q. omega arith), ne_eqb n 11 (λ q. omega arith), ne_eqb n 13 (λ q. omega arith), ne_eqb n 15 (λ q. omega arith), ne_eqb n 17 (λ q. omega arith), le-ltb n 3 (omega arith), lt-ltb 17 n (omega arith))

-- of a tag that there is
pub length_agrees : (tag n : ℕ) → known (kind_of tag) ≡ true → not (has (lengths (kind_of tag)) n) ≡ bad_length tag n
unfolding known kind_of lengths bad_length
length_agrees zero n h = absurd (true≢false (sym h))
length_agrees (suc zero) n h = ap not (or-false (eqb n 5))
length_agrees (suc (suc zero)) n h = ap not (or-false (eqb n 1))
length_agrees (suc (suc (suc zero))) n h = ap not (or-false (eqb n 3))
length_agrees (suc (suc (suc (suc zero)))) n h = train-length n
length_agrees (suc (suc (suc (suc (suc zero))))) n h = table-length n
length_agrees (suc (suc (suc (suc (suc (suc zero)))))) n h = ap not (or-false (eqb n 2))
length_agrees (suc (suc (suc (suc (suc (suc (suc t))))))) n h = absurd (true≢false (sym h))
