-- The parts that are filled from the bytes are the parts of the tables of the case: words of the trains, their order, their pairs, capacities and partners.
-- Each is compared word by word, for the trains that are there and for those up to the eighth that are not. Assumes nothing.
use Rattle.std.specs.Prelude.{◌≡◌, Bool, drop, replicate, eqb}
use Rattle.std.proofs.Math.Path.{refl, ap, sym}
use Rattle.std.proofs.Common.{ap₂, ◌∙◌, add-zero, mul-suc, mul-zero, add_comm, arith, get_or-append-add, ext_get_or, lt-ltb, ltb-true, ltb-false}
use Rattle.std.proofs.Math.Bool.{true, false, cond}
use mathlib.Core.List.{List, [], ◌∷◌, ◌++◌, map, append_assoc}
use Prim.Native.Nat.{ℕ, zero, suc, ◌+◌, ◌-◌, ◌*◌, ◌/◌, ◌≤◌, ◌<◌}
use Rattle.std.proofs.Math.Nat.{zero-add}
use Rattle.std.proofs.Math.ListN.{length, get_or, get_or-append, get_or-eq_default}
use Rattle.std.proofs.lemmas.List.{get_or-replicate, replicate-append-replicate}
use Rattle.std.proofs.Math.Dec.{ltb}
use Rattle.rules.specs.Lists.{each, fold, span, below}
use Rattle.rules.specs.Files.{Track, Train, Pair, Case, byte, table_of, pair_of, last_of}
use Rattle.rules.specs.Turns.{absent, train_at, last_station, capacity}
use Rattle.rules.specs.Turns.Place.{outside, station, track, gone}
use Rattle.rules.specs.Single.{pair_at, first_arrival}
use Rattle.rules.specs.Figures.{plan}
use Rattle.theory_codes.specs.Codes.{code_of, place_of}
use Rattle.theory_codes.specs.Tables.{insert, order, per_train, per_pair, partner_in, partner_code}
use Rattle.file_fields.specs.Fields.{past}
use Rattle.file_fields.specs.At.{byte-drop}
use Rattle.theory_sound.specs.Bodies.{pairs-count}
use Rattle.theory_lists.specs.Below.{get_d_below, length-span-map}
use Rattle.file_tables.specs.Model.{onward, gather, rows, track_in, train_in, stop_word, pairs_in, table_in, train_word, pair_word, pair_row, capacity_word, priority_of, insert_by, order_by, train_row, pair_part, capacity_part, couple_in, couples_from, couple_place, partner_from, partner_word, partner_part, track_place, train_place}
use Rattle.file_tables.specs.Fills.{length-gather, get_d_gather, onward-zero, order-length, pad_length}
use Rattle.file_plan.specs.Layout.{station_in, onward-add, span-gather}
use Rattle.file_plan.specs.Decoded.{Decoded, gather-map}

-- ---- lists with a rest of one value

pad_low : (l : List ℕ) (m v k : ℕ) → k < length l → get_or (l ++ replicate m v) k 0 ≡ get_or l k 0
pad_low l m v k h = get_or-append l (replicate m v) 0 k h

pad_high : (l : List ℕ) (m v k : ℕ) → length l ≤ k → k < length l + m → get_or (l ++ replicate m v) k 0 ≡ v
pad_high l m v k h q =
    let e : length l + (k - length l) ≡ k = omega arith in
    ap (λ (i : ℕ). get_or (l ++ replicate m v) i 0) (sym e)
    ∙ get_or-append-add l (replicate m v) (k - length l) 0 ∙ get_or-replicate m (k - length l) v 0 (omega arith)

-- one word a train
pub words_of : (f : ℕ → ℕ) (l : List ℕ) (n m : ℕ) → length l ≡ n → n ≤ m → ((k : ℕ) → k < n → f k ≡ get_or l k 0)
    → map (λ k. cond (ltb k n) (f k) 0) (below m) ≡ l ++ replicate (m - n) 0
words_of f l n m e h q = ext_get_or 0 _ _ (length-span-map g m 0 ∙ sym (pad_length l n m 0 e h)) at
  where
    g : ℕ → ℕ
    g k = cond (ltb k n) (f k) 0

    at : (k : ℕ) → k < length (map g (below m)) → get_or (map g (below m)) k 0 ≡ get_or (l ++ replicate (m - n) 0) k 0
    at k i = get_d_below g m k 0 (omega (arith, length-span-map g m 0)) ∙ go (ltb k n) refl
      where
        go : (b : Bool) → ltb k n ≡ b → cond b (f k) 0 ≡ get_or (l ++ replicate (m - n) 0) k 0
        go true z = let y = ltb-true k n z in q k y ∙ sym (pad_low l (m - n) 0 k (omega arith))
        go false z = let y = ltb-false k n z in sym (pad_high l (m - n) 0 k (omega arith) (omega (arith, length-span-map g m 0)))

-- one row a train
each_same : (f : ℕ → List ℕ) (w v : ℕ) (m i : ℕ) → ((k : ℕ) → f (i + k) ≡ replicate w v) → each f (span m i) ≡ replicate (w * m) v
each_same f w v zero i h = ap (λ (k : ℕ). replicate k v) (sym (mul-zero w))
each_same f w v (suc m) i h =
    ap₂ ◌++◌ (ap f (sym (add-zero i)) ∙ h 0) (each_same f w v m (suc i) (λ k. let e : suc i + k ≡ i + suc k = omega arith in ap f e ∙ h (suc k)))
    ∙ replicate-append-replicate w (w * m) v ∙ ap (λ (k : ℕ). replicate k v) (add_comm w (w * m) ∙ sym (mul-suc w m))

pub rows_of : (f make : ℕ → List ℕ) (next : ℕ → ℕ) (w v n m i o : ℕ) → n ≤ m
    → ((k : ℕ) → k < n → f (i + k) ≡ make (onward next k o)) → ((k : ℕ) → n ≤ k → f (i + k) ≡ replicate w v)
    → each f (span m i) ≡ rows make next n o ++ replicate (w * m - w * n) v
rows_of f make next w v zero m i o h p q =
    let e : w * m - w * 0 ≡ w * m = omega (arith, mul-zero w) in
    each_same f w v m i (λ k. q k (omega arith)) ∙ ap (λ (k : ℕ). replicate k v) (sym e)
rows_of f make next w v (suc n) zero i o h p q = absurd (omega arith)
rows_of f make next w v (suc n) (suc m) i o h p q =
    let e : w * suc m - w * suc n ≡ w * m - w * n = omega (arith, mul-suc w m, mul-suc w n) in
    ap₂ ◌++◌ (ap f (sym (add-zero i)) ∙ p 0 (omega arith))
    (rows_of f make next w v n m (suc i) (next o) (omega arith)
    (λ k y. let a : suc i + k ≡ i + suc k = omega arith in ap f a ∙ p (suc k) (omega arith))
    (λ k y. let a : suc i + k ≡ i + suc k = omega arith in ap f a ∙ q (suc k) (omega arith)))
    ∙ sym (append_assoc (make o) (rows make next n (next o)) (replicate (w * m - w * n) v))
    ∙ ap (λ (k : ℕ). (make o ++ rows make next n (next o)) ++ replicate k v) (sym e)

-- ---- the parts of a case

module _ (cs bk : List ℕ) (C : Case) (s r n : ℕ) (D : Decoded cs bk C s r n) where
  abbrev o : ℕ
  o = train_place s r

  pub count : length C.trains ≡ n
  count = ap length D.trains ∙ length-gather (train_in cs) (past cs) n o

  pub few : n ≤ 8
  few = omega (arith, D.sound.few_trains, count)

  pub train-at : (k : ℕ) → k < n → train_at C k ≡ train_in cs (onward (past cs) k o)
  train-at k h = ap (λ (l : List Train). get_or l k absent) D.trains ∙ get_d_gather (train_in cs) (past cs) n o k absent h

  pub train-none : (k : ℕ) → n ≤ k → train_at C k ≡ absent
  train-none k h = get_or-eq_default C.trains absent {n = k} (omega (arith, count))

  -- the order
  priority-same : (k : ℕ) → (train_at C k).priority ≡ priority_of cs o n k
  unfolding priority_of train_in
  priority-same k = go (ltb k n) refl
    where
      go : (b : Bool) → ltb k n ≡ b → (train_at C k).priority ≡ cond b (byte cs (onward (past cs) k o + 3)) 0
      go true e = ap (λ (t : Train). t.priority) (train-at k (ltb-true k n e))
      go false e = ap (λ (t : Train). t.priority) (train-none k (ltb-false k n e))

  insert-same : (k : ℕ) (l : List ℕ) → insert C k l ≡ insert_by (priority_of cs o n) k l
  insert-same k [] = refl
  insert-same k (j ∷ l) =
      ap₂ (λ (a b : ℕ). cond (ltb a b) (k ∷ j ∷ l) (j ∷ insert C k l)) (priority-same k) (priority-same j)
      ∙ ap (λ (m : List ℕ). cond (ltb (priority_of cs o n k) (priority_of cs o n j)) (k ∷ j ∷ l) (j ∷ m)) (insert-same k l)

  fold_same : (ks l : List ℕ) → fold (insert C) ks l ≡ fold (insert_by (priority_of cs o n)) ks l
  fold_same [] l = refl
  fold_same (k ∷ ks) l = ap (fold (insert C) ks) (insert-same k l) ∙ fold_same ks (insert_by (priority_of cs o n) k l)

  order_same : order C ≡ order_by (priority_of cs o n) n
  unfolding order order_by
  order_same = ap (λ (m : ℕ). fold (insert C) (below m) []) count ∙ fold_same (below n) []

  -- words of the trains
  each_train : (f : ℕ → ℕ) (l : List ℕ) → length l ≡ n → ((k : ℕ) → k < n → f k ≡ get_or l k 0) → per_train C f ≡ l ++ replicate (8 - n) 0
  each_train f l e h = ap (λ (m : ℕ). map (λ k. cond (ltb k m) (f k) 0) (below 8)) count ∙ words_of f l n 8 e few h

  pub order-part : per_train C (λ k. get_or (order C) k 0) ≡ order_by (priority_of cs o n) n ++ replicate (8 - n) 0
  order-part =
      each_train (λ k. get_or (order C) k 0) (order_by (priority_of cs o n) n) (order-length (priority_of cs o n) n)
      (λ k h. ap (λ (l : List ℕ). get_or l k 0) order_same)

  word-part : (f : ℕ → ℕ) (which : ℕ) → ((k : ℕ) → k < n → f k ≡ train_word cs bk which (onward (past cs) k o)) → per_train C f ≡ train_row cs bk n o which
  unfolding train_row
  word-part f which h =
      each_train f (gather (train_word cs bk which) (past cs) n o) (length-gather (train_word cs bk which) (past cs) n o)
      (λ k q. h k q ∙ sym (get_d_gather (train_word cs bk which) (past cs) n o k 0 q))

  pub last-part : per_train C (λ k. code_of (last_station C k)) ≡ train_row cs bk n o 0
  unfolding last_station train_word stop_word
  last-part = word-part (λ k. code_of (last_station C k)) 0 (λ k h. ap (λ (t : Train). (last_of t.stops).station) (train-at k h))

  pub plan-part : per_train C (plan C) ≡ train_row cs bk n o 1
  unfolding plan train_word stop_word
  plan-part = word-part (plan C) 1 (λ k h. ap (λ (t : Train). (last_of t.stops).arrival) (train-at k h))

  pub first_part : per_train C (λ k. first_arrival (train_at C k).stops) ≡ train_row cs bk n o 2
  unfolding train_word stop_word
  first_part = word-part (λ k. first_arrival (train_at C k).stops) 2 (λ k h. ap (λ (t : Train). first_arrival t.stops) (train-at k h))

  pub pairs-at : (k : ℕ) → k < n → get_or C.tables k [] ≡ (table_of (table_in cs bk (onward (past cs) k o))).pairs
  pairs-at k h = ap (λ (l : List (List Pair)). get_or l k []) D.pairs ∙ get_d_gather _ (past cs) n o k [] h

  pub pairs-none : (k : ℕ) → n ≤ k → get_or C.tables k [] ≡ []
  pairs-none k h = get_or-eq_default C.tables [] {n = k} (omega (arith, ap length D.pairs, length-gather (λ i. (table_of (table_in cs bk i)).pairs) (past cs) n o))

  pub number-part : per_train C (λ k. length (get_or C.tables k [])) ≡ train_row cs bk n o 3
  unfolding train_word pairs_in
  number-part = word-part (λ k. length (get_or C.tables k [])) 3 (λ k h. ap length (pairs-at k h) ∙ pairs-count (table_in cs bk (onward (past cs) k o)))

-- ---- pairs

-- word `which` of pair d: the delay or the weight
pair-byte : (b : List ℕ) (get : Pair → ℕ) (which : ℕ) → ((i : ℕ) → get (pair_of (drop (1 + 2 * i) b)) ≡ byte b (which + 2 * i)) → get (record { delay = 0; weight = 0 }) ≡ 0
    → (d : ℕ) → get (get_or (table_of b).pairs d (record { delay = 0; weight = 0 })) ≡ pair_word b which d
unfolding table_of pair_word pairs_in
pair-byte b get which h z d = go (ltb d m) refl
  where
    m : ℕ
    m = (length b - 1) / 2

    make : ℕ → Pair
    make i = pair_of (drop (1 + 2 * i) b)

    go : (t : Bool) → ltb d m ≡ t → get (get_or (map make (below m)) d (record { delay = 0; weight = 0 })) ≡ cond t (byte b (which + 2 * d)) 0
    go true e = ap get (get_d_below make m d (record { delay = 0; weight = 0 }) (ltb-true d m e)) ∙ h d
    go false e =
        let y = ltb-false d m e in
        ap get (get_or-eq_default (map make (below m)) (record { delay = 0; weight = 0 }) {n = d} (omega (arith, length-span-map make m 0))) ∙ z

pub one_value : (f : ℕ → ℕ) (v m i : ℕ) → ((k : ℕ) → f k ≡ v) → map f (span m i) ≡ replicate m v
one_value f v zero i h = refl
one_value f v (suc m) i h = ap₂ (λ (a : ℕ) (l : List ℕ). a ∷ l) (h i) (one_value f v m (suc i) h)

delay-byte : (b : List ℕ) (i : ℕ) → (pair_of (drop (1 + 2 * i) b)).delay ≡ byte b (1 + 2 * i)
unfolding pair_of
delay-byte b i = byte-drop b (1 + 2 * i) 0 (1 + 2 * i) (omega arith)

module _ (cs bk : List ℕ) (C : Case) (s r n : ℕ) (D : Decoded cs bk C s r n) where
  pairs-part : (get : Pair → ℕ) (which : ℕ) → ((b : List ℕ) (i : ℕ) → get (pair_of (drop (1 + 2 * i) b)) ≡ byte b (which + 2 * i)) → get (record { delay = 0; weight = 0 }) ≡ 0
      → per_pair C (λ k d. get (pair_at C k d)) ≡ pair_part cs bk n (train_place s r) which
  unfolding pair_part pair_row
  pairs-part get which h z =
      rows_of (λ k. map (λ d. get (pair_at C k d)) (below 8)) (pair_row cs bk which) (past cs) 8 0 n 8 0 (train_place s r) (few cs bk C s r n D)
      (λ k q.
      let e = zero-add k in
      let at = onward (past cs) k (train_place s r) in
      ap (λ (j : ℕ). map (λ d. get (pair_at C j d)) (below 8)) e
      ∙ span-gather (λ d. get (pair_at C k d)) (pair_word (table_in cs bk at) which) suc 8 0 0
      (λ d y. ap (λ (i : ℕ). get (pair_at C k i)) (zero-add d)
      ∙ ap (λ (l : List Pair). get (get_or l d (record { delay = 0; weight = 0 }))) (pairs-at cs bk C s r n D k q)
      ∙ pair-byte (table_in cs bk at) get which (h (table_in cs bk at)) z d
      ∙ ap (pair_word (table_in cs bk at) which) (sym (onward-zero d))))
      (λ k q.
      ap (λ (j : ℕ). map (λ d. get (pair_at C j d)) (below 8)) (zero-add k)
      ∙ one_value (λ d. get (pair_at C k d)) 0 8 0 (λ d. ap (λ (l : List Pair). get (get_or l d (record { delay = 0; weight = 0 }))) (pairs-none cs bk C s r n D k q) ∙ z))

  -- the delay d of train k is a byte of its table
  pub delay-word : (k d : ℕ) → k < n → (pair_at C k d).delay ≡ pair_word (table_in cs bk (onward (past cs) k (train_place s r))) 1 d
  delay-word k d h =
      ap (λ (l : List Pair). (get_or l d (record { delay = 0; weight = 0 })).delay) (pairs-at cs bk C s r n D k h)
      ∙ pair-byte (table_in cs bk (onward (past cs) k (train_place s r))) (λ p. p.delay) 1 (delay-byte (table_in cs bk (onward (past cs) k (train_place s r)))) refl d

  pub delays-part : per_pair C (λ k d. (pair_at C k d).delay) ≡ pair_part cs bk n (train_place s r) 1
  delays-part = pairs-part (λ p. p.delay) 1 delay-byte refl

  pub weights-part : per_pair C (λ k d. (pair_at C k d).weight) ≡ pair_part cs bk n (train_place s r) 2
  unfolding pair_of
  weights-part = pairs-part (λ p. p.weight) 2 (λ b i. byte-drop b (1 + 2 * i) 1 (2 + 2 * i) (omega arith)) refl

  -- ---- capacities

  station-capacity : (e : ℕ) → get_or C.stations e 0 ≡ cond (ltb e s) (byte cs (11 + 4 * e)) 0
  station-capacity e = ap (λ (l : List ℕ). get_or l e 0) D.stations ∙ go (ltb e s) refl
    where
      go : (b : Bool) → ltb e s ≡ b → get_or (gather (station_in cs) (λ i. i + 4) s 8) e 0 ≡ cond b (byte cs (11 + 4 * e)) 0
      go true z =
          let y : onward (λ i. i + 4) e 8 + 3 ≡ 11 + 4 * e = omega (arith, onward-add 4 e 8) in
          get_d_gather (station_in cs) (λ i. i + 4) s 8 e 0 (ltb-true e s z) ∙ ap (byte cs) y
      go false z =
          let y = ltb-false e s z in
          get_or-eq_default (gather (station_in cs) (λ i. i + 4) s 8) 0 {n = e} (omega (arith, length-gather (station_in cs) (λ i. i + 4) s 8))

  track-capacity : (j : ℕ) → get_or (map (λ t. t.capacity) C.tracks) j 0 ≡ cond (ltb j r) (byte cs (8 + 4 * s + 6 * j + 5)) 0
  unfolding track_in
  track-capacity j = ap (λ (l : List Track). get_or (map (λ t. t.capacity) l) j 0) D.tracks ∙ ap (λ (l : List ℕ). get_or l j 0) (gather-map (λ t. t.capacity) (track_in cs) make (λ i. i + 6) (λ i. refl) r (track_place s)) ∙ go (ltb j r) refl
    where
      make : ℕ → ℕ
      make i = byte cs (i + 5)

      go : (b : Bool) → ltb j r ≡ b → get_or (gather make (λ i. i + 6) r (track_place s)) j 0 ≡ cond b (byte cs (8 + 4 * s + 6 * j + 5)) 0
      go true z =
          let y : onward (λ i. i + 6) j (track_place s) + 5 ≡ 8 + 4 * s + 6 * j + 5 = omega (arith, onward-add 6 j (track_place s)) in
          get_d_gather make (λ i. i + 6) r (track_place s) j 0 (ltb-true j r z) ∙ ap (byte cs) y
      go false z =
          let y = ltb-false j r z in
          get_or-eq_default (gather make (λ i. i + 6) r (track_place s)) 0 {n = j} (omega (arith, length-gather make (λ i. i + 6) r (track_place s)))

  capacity-same : (e : ℕ) → e < 64 → capacity C (place_of e) ≡ capacity_word cs s r e
  unfolding capacity place_of capacity_word
  capacity-same e h = go (ltb e 24) refl
    where
      go : (b : Bool) → ltb e 24 ≡ b
          → capacity C (cond b (station e) (cond (ltb e 64) (track (e - 24)) (cond (eqb e 64) gone outside)))
          ≡ cond b (cond (ltb e s) (byte cs (11 + 4 * e)) 0) (cond (ltb (e - 24) r) (byte cs (8 + 4 * s + 6 * (e - 24) + 5)) 0)
      go true z = station-capacity e
      go false z = rw (lt-ltb e 64 h) (track-capacity (e - 24))

  pub capacities_part : map (λ e. capacity C (place_of e)) (below 64) ≡ capacity_part cs s r
  unfolding capacity_part
  capacities_part =
      span-gather (λ e. capacity C (place_of e)) (capacity_word cs s r) suc 64 0 0
      (λ e h. ap (λ (i : ℕ). capacity C (place_of i)) (zero-add e) ∙ capacity-same e h ∙ ap (capacity_word cs s r) (sym (onward-zero e)))

  -- ---- partners

  partner-found : (j m i : ℕ) → partner_in j (couples_from cs m i) ≡ partner_from cs j m i
  unfolding couple_in
  partner-found j zero i = refl
  partner-found j (suc m) i =
      ap (λ (x : ℕ). cond (eqb j (byte cs (i + 3))) (24 + byte cs (i + 4)) (cond (eqb j (byte cs (i + 4))) (24 + byte cs (i + 3)) x)) (partner-found j m (i + 5))

  partner-same : (q e : ℕ) → C.couples ≡ couples_from cs q (couple_place cs q) → partner_code C e ≡ partner_word cs q (couple_place cs q) e
  unfolding partner_code partner_word
  partner-same q e h = ap (λ (x : ℕ). cond (ltb e 24) 0 x) (ap (partner_in (e - 24)) h ∙ partner-found (e - 24) q (couple_place cs q))

  pub partners-part : map (partner_code C) (below 64) ≡ partner_part cs (length C.couples)
  unfolding partner_part
  partners-part =
      span-gather (partner_code C) (partner_word cs q (couple_place cs q)) suc 64 0 0
      (λ e h. ap (partner_code C) (zero-add e) ∙ partner-same q e D.couples ∙ ap (partner_word cs q (couple_place cs q)) (sym (onward-zero e)))
    where
      q : ℕ
      q = length C.couples
