-- What the words of `tables C` are, place by place: each part of the list is found after the parts before it. Assumes nothing.
use Rattle.std.specs.Prelude.{◌≡◌, Bool, cond, List, [], ◌++◌, map, ℕ, zero, suc, ◌+◌, ◌*◌, ◌≤◌, ◌<◌, length, get_or, ltb}
use Rattle.std.proofs.Math.Path.{refl}
use Rattle.std.proofs.Common.{ap, sym, ◌∙◌, suc-mul, arith, length-append, get_or-append-add, lt-ltb}
use Rattle.std.proofs.Math.ListN.{get_or-append, get_or-eq_default}
use Rattle.rules.specs.Lists.{each, span, below}
use Rattle.rules.specs.Files.{Case}
use Rattle.rules.specs.Turns.{train_at, last_station, capacity}
use Rattle.rules.specs.Single.{pair_at, first_arrival}
use Rattle.rules.specs.Figures.{plan}
use Rattle.theory_lists.specs.Below.{length-span-map, get_d_below}
use Rattle.theory_codes.specs.Codes.{code_of, place_of}
use Rattle.theory_codes.specs.Tables.{order, next_code, stay_on, partner_code, per_train, per_pair, head_table, train_tables, pair_tables, tables}

-- ---- lists of lists

at_right : (a b : List ℕ) (n i : ℕ) → length a ≡ n → get_or (a ++ b) (n + i) 0 ≡ get_or b i 0
at_right a b n i h = ap (λ (z : ℕ). get_or (a ++ b) (z + i) 0) (sym h) ∙ get_or-append-add a b i 0

at_left : (a b : List ℕ) (n i : ℕ) → length a ≡ n → i < n → get_or (a ++ b) i 0 ≡ get_or a i 0
at_left a b n i h l = get_or-append a b 0 i (omega arith)

abbrev block : (ℕ → ℕ → ℕ) → ℕ → ℕ → ℕ → List ℕ
block f m n k = each (λ j. map (f j) (below m)) (span n k)

block-length : (f : ℕ → ℕ → ℕ) (m n k : ℕ) → length (block f m n k) ≡ n * m
block-length f m zero k = omega arith
block-length f m (suc n) k = omega (arith, length-append (map (f k) (below m)) (block f m n (suc k)), length-span-map (f k) m 0, block-length f m n (suc k), suc-mul n m)

block_at : (f : ℕ → ℕ → ℕ) (m n k j p : ℕ) → j < n → p < m → get_or (block f m n k) (j * m + p) 0 ≡ f (k + j) p
block_at f m zero k j p h l = absurd (omega arith)
block_at f m (suc n) k zero p h l =
    let e : 0 * m + p ≡ p = omega arith in
    let z : k ≡ k + 0 = omega arith in
    ap (λ (y : ℕ). get_or (block f m (suc n) k) y 0) e
    ∙ at_left (map (f k) (below m)) (block f m n (suc k)) m p (length-span-map (f k) m 0) l
    ∙ get_d_below (f k) m p 0 l
    ∙ ap (λ (y : ℕ). f y p) z
block_at f m (suc n) k (suc j) p h l =
    let e : suc j * m + p ≡ m + (j * m + p) = omega (arith, suc-mul j m) in
    let z : suc k + j ≡ k + suc j = omega arith in
    ap (λ (y : ℕ). get_or (block f m (suc n) k) y 0) e
    ∙ at_right (map (f k) (below m)) (block f m n (suc k)) m (j * m + p) (length-span-map (f k) m 0)
    ∙ block_at f m n (suc k) j p (omega arith) l
    ∙ ap (λ (y : ℕ). f y p) z

-- ---- the parts of the tables

module _ (C : Case) where
  abbrev caps : List ℕ
  caps = map (λ e. capacity C (place_of e)) (below 64)

  abbrev nexts : List ℕ
  nexts = each (λ k. map (next_code C k) (below 128)) (below 8)

  abbrev stays : List ℕ
  stays = each (λ k. map (stay_on C k) (below 128)) (below 8)

  abbrev partners : List ℕ
  partners = map (partner_code C) (below 64)

  abbrev front : List ℕ
  front = head_table C ++ train_tables C ++ pair_tables C

  front_length : length front ≡ 176
  front_length =
      omega (
        arith,
        length-append (head_table C ++ train_tables C) (pair_tables C),
        length-append (per_pair C (λ k d. (pair_at C k d).delay)) (per_pair C (λ k d. (pair_at C k d).weight)),
        block-length (λ k d. (pair_at C k d).delay) 8 8 0,
        block-length (λ k d. (pair_at C k d).weight) 8 8 0,
      )

  caps-length : length (front ++ caps) ≡ 240
  caps-length = omega (arith, length-append front caps, front_length, length-span-map (λ e. capacity C (place_of e)) 64 0)

  nexts-length : length (front ++ caps ++ nexts) ≡ 1264
  nexts-length = omega (arith, length-append (front ++ caps) nexts, caps-length, block-length (next_code C) 128 8 0)

  stays-length : length (front ++ caps ++ nexts ++ stays) ≡ 2288
  stays-length = omega (arith, length-append (front ++ caps ++ nexts) stays, nexts-length, block-length (stay_on C) 128 8 0)

  -- ---- what stands where

  pub table-partner : (e : ℕ) → e < 64 → get_or (tables C) (2288 + e) 0 ≡ partner_code C e
  unfolding tables
  table-partner e h = at_right (front ++ caps ++ nexts ++ stays) partners 2288 e stays-length ∙ get_d_below (partner_code C) 64 e 0 h

  -- the way out has none, nor has a place past it
  pub table-past : (e : ℕ) → 64 ≤ e → get_or (tables C) (2288 + e) 0 ≡ 0
  unfolding tables
  table-past e h =
      at_right (front ++ caps ++ nexts ++ stays) partners 2288 e stays-length
      ∙ get_or-eq_default partners 0 {n = e} (omega (arith, length-span-map (partner_code C) 64 0))

  in_stays : (i : ℕ) → i < 2288 → get_or (tables C) i 0 ≡ get_or (front ++ caps ++ nexts ++ stays) i 0
  unfolding tables
  in_stays i h = at_left (front ++ caps ++ nexts ++ stays) partners 2288 i stays-length h

  pub table-stay : (k p : ℕ) → k < 8 → p < 128 → get_or (tables C) (1264 + (k * 128 + p)) 0 ≡ stay_on C k p
  table-stay k p h l =
      in_stays (1264 + (k * 128 + p)) (omega arith)
      ∙ at_right (front ++ caps ++ nexts) stays 1264 (k * 128 + p) nexts-length
      ∙ block_at (stay_on C) 128 8 0 k p h l
      ∙ ap (λ (j : ℕ). stay_on C j p) (omega arith)

  in_nexts : (i : ℕ) → i < 1264 → get_or (tables C) i 0 ≡ get_or (front ++ caps ++ nexts) i 0
  in_nexts i h = in_stays i (omega arith) ∙ at_left (front ++ caps ++ nexts) stays 1264 i nexts-length h

  in_caps : (i : ℕ) → i < 240 → get_or (tables C) i 0 ≡ get_or (front ++ caps) i 0
  in_caps i h = in_nexts i (omega arith) ∙ at_left (front ++ caps) nexts 240 i caps-length h

  in_front : (i : ℕ) → i < 176 → get_or (tables C) i 0 ≡ get_or front i 0
  in_front i h = in_caps i (omega arith) ∙ at_left front caps 176 i front_length h

  pub table-next : (k p : ℕ) → k < 8 → p < 128 → get_or (tables C) (240 + (k * 128 + p)) 0 ≡ next_code C k p
  table-next k p h l =
      in_nexts (240 + (k * 128 + p)) (omega arith)
      ∙ at_right (front ++ caps) nexts 240 (k * 128 + p) caps-length
      ∙ block_at (next_code C) 128 8 0 k p h l
      ∙ ap (λ (j : ℕ). next_code C j p) (omega arith)

  pub table-capacity : (e : ℕ) → e < 64 → get_or (tables C) (176 + e) 0 ≡ capacity C (place_of e)
  table-capacity e h =
      in_caps (176 + e) (omega arith) ∙ at_right front caps 176 e front_length ∙ get_d_below (λ e. capacity C (place_of e)) 64 e 0 h

  abbrev heads : List ℕ
  heads = head_table C ++ train_tables C

  pairs-at : (i : ℕ) → i < 128 → get_or (tables C) (48 + i) 0 ≡ get_or (pair_tables C) i 0
  pairs-at i h = in_front (48 + i) (omega arith) ∙ at_right heads (pair_tables C) 48 i refl

  pub table-delay : (k d : ℕ) → k < 8 → d < 8 → get_or (tables C) (48 + (k * 8 + d)) 0 ≡ (pair_at C k d).delay
  table-delay k d h l =
      pairs-at (k * 8 + d) (omega arith)
      ∙ at_left (per_pair C (λ k d. (pair_at C k d).delay)) (per_pair C (λ k d. (pair_at C k d).weight)) 64 (k * 8 + d) (block-length (λ k d. (pair_at C k d).delay) 8 8 0) (omega arith)
      ∙ block_at (λ k d. (pair_at C k d).delay) 8 8 0 k d h l
      ∙ ap (λ (j : ℕ). (pair_at C j d).delay) (omega arith)

  pub table-weight : (k d : ℕ) → k < 8 → d < 8 → get_or (tables C) (112 + (k * 8 + d)) 0 ≡ (pair_at C k d).weight
  table-weight k d h l =
      ap (λ (i : ℕ). get_or (tables C) i 0) (let e : 112 + (k * 8 + d) ≡ 48 + (64 + (k * 8 + d)) = omega arith in e)
      ∙ pairs-at (64 + (k * 8 + d)) (omega arith)
      ∙ at_right (per_pair C (λ k d. (pair_at C k d).delay)) (per_pair C (λ k d. (pair_at C k d).weight)) 64 (k * 8 + d) (block-length (λ k d. (pair_at C k d).delay) 8 8 0)
      ∙ block_at (λ k d. (pair_at C k d).weight) 8 8 0 k d h l
      ∙ ap (λ (j : ℕ). (pair_at C j d).weight) (omega arith)

  trains-at : (i : ℕ) → i < 40 → get_or (tables C) (8 + i) 0 ≡ get_or (train_tables C) i 0
  trains-at i h = in_front (8 + i) (omega arith) ∙ at_left heads (pair_tables C) 48 (8 + i) refl (omega arith) ∙ at_right (head_table C) (train_tables C) 8 i refl

  abbrev O : List ℕ
  O = per_train C (λ k. get_or (order C) k 0)

  abbrev L : List ℕ
  L = per_train C (λ k. code_of (last_station C k))

  abbrev P : List ℕ
  P = per_train C (plan C)

  abbrev F : List ℕ
  F = per_train C (λ k. first_arrival (train_at C k).stops)

  abbrev D : List ℕ
  D = per_train C (λ k. length (get_or C.tables k []))

  -- a word of a train, 0 for one that is not there
  abbrev pub word_for : (ℕ → ℕ) → ℕ → ℕ
  word_for f k = cond (ltb k (length C.trains)) (f k) 0

  train-word : (f : ℕ → ℕ) (k : ℕ) → k < 8 → get_or (per_train C f) k 0 ≡ word_for f k
  train-word f k l = get_d_below (word_for f) 8 k 0 l

  present : (f : ℕ → ℕ) (k : ℕ) → k < length C.trains → word_for f k ≡ f k
  present f k h = ap (λ (b : Bool). cond b (f k) 0) (lt-ltb k (length C.trains) h)

  pub words-order : (k : ℕ) → k < 8 → get_or (tables C) (8 + k) 0 ≡ word_for (λ j. get_or (order C) j 0) k
  words-order k l =
      trains-at k (omega arith)
      ∙ at_left (O ++ L ++ P ++ F) D 32 k refl (omega arith)
      ∙ at_left (O ++ L ++ P) F 24 k refl (omega arith)
      ∙ at_left (O ++ L) P 16 k refl (omega arith)
      ∙ at_left O L 8 k refl l
      ∙ train-word (λ j. get_or (order C) j 0) k l

  pub words-delays : (k : ℕ) → k < 8 → get_or (tables C) (40 + k) 0 ≡ word_for (λ j. length (get_or C.tables j [])) k
  words-delays k l =
      ap (λ (i : ℕ). get_or (tables C) i 0) (let e : 40 + k ≡ 8 + (32 + k) = omega arith in e)
      ∙ trains-at (32 + k) (omega arith)
      ∙ at_right (O ++ L ++ P ++ F) D 32 k refl
      ∙ train-word (λ j. length (get_or C.tables j [])) k l

  -- ---- the words of a train of the case

  pub table-order : (k : ℕ) → k < length C.trains → k < 8 → get_or (tables C) (8 + k) 0 ≡ get_or (order C) k 0
  table-order k h l = words-order k l ∙ present (λ j. get_or (order C) j 0) k h

  pub table-delays : (k : ℕ) → k < length C.trains → k < 8 → get_or (tables C) (40 + k) 0 ≡ length (get_or C.tables k [])
  table-delays k h l = words-delays k l ∙ present (λ j. length (get_or C.tables j [])) k h

  pub table-last : (k : ℕ) → k < length C.trains → k < 8 → get_or (tables C) (16 + k) 0 ≡ code_of (last_station C k)
  table-last k h l =
      ap (λ (i : ℕ). get_or (tables C) i 0) (let e : 16 + k ≡ 8 + (8 + k) = omega arith in e)
      ∙ trains-at (8 + k) (omega arith)
      ∙ at_left (O ++ L ++ P ++ F) D 32 (8 + k) refl (omega arith)
      ∙ at_left (O ++ L ++ P) F 24 (8 + k) refl (omega arith)
      ∙ at_left (O ++ L) P 16 (8 + k) refl (omega arith)
      ∙ at_right O L 8 k refl
      ∙ train-word (λ j. code_of (last_station C j)) k l
      ∙ present (λ j. code_of (last_station C j)) k h

  -- the planned arrival
  pub table-plan : (k : ℕ) → k < length C.trains → k < 8 → get_or (tables C) (24 + k) 0 ≡ plan C k
  table-plan k h l =
      ap (λ (i : ℕ). get_or (tables C) i 0) (let e : 24 + k ≡ 8 + (16 + k) = omega arith in e)
      ∙ trains-at (16 + k) (omega arith)
      ∙ at_left (O ++ L ++ P ++ F) D 32 (16 + k) refl (omega arith)
      ∙ at_left (O ++ L ++ P) F 24 (16 + k) refl (omega arith)
      ∙ at_right (O ++ L) P 16 k refl
      ∙ train-word (plan C) k l
      ∙ present (plan C) k h

  pub table-first : (k : ℕ) → k < length C.trains → k < 8 → get_or (tables C) (32 + k) 0 ≡ first_arrival (train_at C k).stops
  table-first k h l =
      ap (λ (i : ℕ). get_or (tables C) i 0) (let e : 32 + k ≡ 8 + (24 + k) = omega arith in e)
      ∙ trains-at (24 + k) (omega arith)
      ∙ at_left (O ++ L ++ P ++ F) D 32 (24 + k) refl (omega arith)
      ∙ at_right (O ++ L ++ P) F 24 k refl
      ∙ train-word (λ j. first_arrival (train_at C j).stops) k l
      ∙ present (λ j. first_arrival (train_at C j).stops) k h

  -- ---- the head's words

  pub table-trains : get_or (tables C) 0 0 ≡ length C.trains
  unfolding tables
  table-trains = refl

  pub table-minute : get_or (tables C) 1 0 ≡ C.head.last_minute
  unfolding tables
  table-minute = refl

  pub table-safety : get_or (tables C) 2 0 ≡ C.head.safety
  unfolding tables
  table-safety = refl

  pub table-room : get_or (tables C) 3 0 ≡ C.head.room
  unfolding tables
  table-room = refl
