-- The weights that code adds are those of the definitions: a packed cover weighs what the cover weighs, and a pass adds at its train and minute alone.
-- The bits of a set are its delays, the bytes of a cover its sets. Assumes nothing.
use Rattle.std.specs.Prelude.{◌≡◌, Bool, ◌&&◌, length, get_or, eqb}
use Rattle.std.proofs.Math.Path.{refl, ap, ap₂, sym}
use Rattle.std.proofs.Common.{◌∙◌, add-zero, length-set, get_or-set_same, get_or-set_other, eq-eqb, ne_eqb, eqb-true}
use Rattle.std.proofs.Math.Bool.{true, false, not, cond}
use mathlib.Core.List.{List, [], ◌∷◌, ◌++◌, map}
use Prim.Native.Nat.{ℕ, suc, ◌+◌, ◌*◌, ◌/◌, ◌%◌, ◌^◌, ◌≤◌, ◌<◌}
use native.Mathlib.Omega.{arith}
use Rattle.std.proofs.Math.ListN.{set}
use Rattle.std.proofs.lemmas.Bool.{eqb-false}
use Rattle.rules.specs.Lists.{one, each, keep, sum}
use Rattle.rules.specs.Files.{Stop, Case, last_of}
use Rattle.rules.specs.Turns.{Place, same, capacity, last_station, State, Arrival}
use Rattle.rules.specs.Turns.Place.{gone}
use Rattle.rules.specs.Single.{pair_at}
use Rattle.rules.specs.Joint.{Cover, Entry, Piece, piece, carry, across, meets, meets_across, weight, weight_at, whole}
use Rattle.rules.specs.Calls.{set_image}
use Rattle.theory_sound.specs.Facts.{Sound}
use Rattle.theory_sound.specs.Trains.{anywhere}
use Rattle.theory_lists.specs.Every.{Every, every_more}
use Rattle.theory_lists.specs.Sums.{sum-append, sum_every}
use Rattle.theory_simulation.specs.Parts.{Parts, carry-parts, across-parts}
use Rattle.theory_weights.specs.Choices.{product, weight-product}
use Rattle.theory_codes.specs.Codes.{code_of, place_of}
use Rattle.theory_codes.specs.Tables.{tables}
use Rattle.theory_passes.specs.Passes.{asks_for, pieces_among, pass}
use Rattle.theory_passes.specs.Arrivals.{entering_weight, arrived_weight, pass-weight}
use Rattle.cut.specs.Packed.{packed_in, packed, Delays, Sets}
use Rattle.cut.specs.Packed.Delays.{none, takes, skips}
use Rattle.cut.specs.Sets.{image_delays, delays-small}
use Rattle.cut.specs.Bridge.{entering_covers}
use Rattle.asking.specs.declared.Job.{Job}
use Rattle.weigh.specs.Weigh.{set_weight, cover_weight, weight_of, brought_of}
use Rattle.asking.specs.Ask.{job_of, met_for}
use Rattle.serving.specs.Pass.{covers_of, enter_row}
use Rattle.visiting.specs.Visit.{arrived_of, job_for}
use Rattle.visiting.specs.Arriving.{arrived-any}
use Rattle.theory_codes.specs.Places.{Coded, code_place, code_test, place_code, place-coded}
use Rattle.theory_codes.specs.Lookups.{table-weight, table-last, table-trains}
use Rattle.entries.specs.Encoded.{row_of, Good, proper_packable, meets-parts, far-parts}
use Rattle.entries.specs.Rowed.{Asker, enter-is}

mod-sum : (a b : ℕ) → (a % 2 ^ 64 + b % 2 ^ 64) % 2 ^ 64 ≡ (a + b) % 2 ^ 64
mod-sum a b = omega arith

-- every piece of a part is a part
among_parts : (C : Case) (e : Place) (far qs : List Cover) → Every (Parts (whole C)) far → Every (Parts (whole C)) qs → (p : Cover) → Parts (whole C) p
    → Every (λ x. Parts (whole C) x.cover) (pieces_among C e far qs p)
unfolding pieces_among
among_parts C e far qs f h p g = go (same e gone)
  where
    go : (b : Bool) → Every (λ x. Parts (whole C) x.cover) (cond b (piece p false ∷ []) (across (carry (capacity C e) qs 0) far p))
    go true = (g, tt)
    go false = across-parts (whole C) (carry (capacity C e) qs 0) (carry-parts (whole C) (capacity C e) qs h 0) far f p g

-- ---- a set

set_sum : (T : List ℕ) (base : ℕ) {n k : ℕ} {s : List ℕ} {v : ℕ} → Delays n k s v → set_weight T (base + k) n v ≡ sum (λ d. get_or T (base + d) 0) s
unfolding set_weight
set_sum T base none = refl
set_sum T base (takes {n = n} {k = k} {s = s} {v = v} r) =
    let a : (v * 2 + 1) % 2 ≡ 1 = omega arith in
    let b : (v * 2 + 1) / 2 ≡ v = omega arith in
    let c : suc (base + k) ≡ base + suc k = omega arith in
    ap₂ (λ (z : Bool) (x : ℕ). cond z (get_or T (base + k) 0) 0 + set_weight T (suc (base + k)) n x) (eq-eqb ((v * 2 + 1) % 2) 1 a) b
    ∙ ap (λ (i : ℕ). get_or T (base + k) 0 + set_weight T i n v) c
    ∙ ap (λ (x : ℕ). get_or T (base + k) 0 + x) (set_sum T base r)
set_sum T base (skips {n = n} {k = k} {s = s} {v = v} r) =
    let a : v * 2 % 2 ≡ 0 = omega arith in
    let b : v * 2 / 2 ≡ v = omega arith in
    let c : suc (base + k) ≡ base + suc k = omega arith in
    ap₂ (λ (z : Bool) (x : ℕ). cond z (get_or T (base + k) 0) 0 + set_weight T (suc (base + k)) n x) (ne_eqb (v * 2 % 2) 1 (λ z. omega arith)) b
    ∙ ap (λ (i : ℕ). 0 + set_weight T i n v) c
    ∙ omega (arith, set_sum T base r)

-- each delay of a set is one of its n
delays-below : {n k : ℕ} {s : List ℕ} {v : ℕ} → Delays n k s v → Every (λ d. d < k + n) s
delays-below none = tt
delays-below (takes {n = n} {k = k} {s = s} r) = (omega arith, every_more (λ d. d < suc k + n) (λ d. d < k + suc n) (λ d h. omega arith) s (delays-below r))
delays-below (skips {n = n} {k = k} {s = s} r) = every_more (λ d. d < suc k + n) (λ d. d < k + suc n) (λ d h. omega arith) s (delays-below r)

-- ---- a cover

module _ (C : Case) where
  set-weight : (j : ℕ) {s : List ℕ} {v : ℕ} → j < 8 → Delays 8 0 s v → set_weight (tables C) (112 + j * 8) 8 (set_image s) ≡ sum (λ d. (pair_at C j d).weight) s
  set-weight j {s} {v} h r =
      let a : 112 + j * 8 ≡ 112 + j * 8 + 0 = omega arith in
      ap₂ (λ (i x : ℕ). set_weight (tables C) i 8 x) a (image_delays r)
      ∙ set_sum (tables C) (112 + j * 8) r
      ∙ sum_every (λ d. d < 0 + 8) (λ d. get_or (tables C) (112 + j * 8 + d) 0) (λ d. (pair_at C j d).weight)
      (λ d l. ap (λ (i : ℕ). get_or (tables C) i 0) (let e : 112 + j * 8 + d ≡ 112 + (j * 8 + d) = omega arith in e) ∙ table-weight C j d h (omega arith)) s (delays-below r)

  cover-weight : (j : ℕ) {b n : ℕ} {p : Cover} → j + n ≤ 8 → Sets b n p → cover_weight (tables C) j n (packed_in b p) ≡ product C j p
  unfolding cover_weight packed_in
  cover-weight j h Sets.none = refl
  cover-weight j h (Sets.more {b} {n} {s} {v} {p} r f) =
      let small : set_image s < 256 = omega (arith, image_delays r, delays-small r) in
      let low : (packed_in b p * 256 + set_image s) % 256 ≡ set_image s = omega arith in
      let high : (packed_in b p * 256 + set_image s) / 256 ≡ packed_in b p = omega arith in
      ap₂ (λ (x y : ℕ). set_weight (tables C) (112 + j * 8) 8 x * cover_weight (tables C) (suc j) n y) low high
      ∙ ap₂ ◌*◌ (set-weight j (omega arith) r) (cover-weight (suc j) (omega arith) f)

  module _ (sound : Sound C) where
    -- a packed cover weighs what the cover weighs
    pub weight-packed : (p : Cover) → Parts (whole C) p → weight_of (tables C) (packed p) ≡ weight C p
    unfolding weight_of
    weight-packed p h =
        ap (λ (n : ℕ). cover_weight (tables C) 0 n (packed p)) (table-trains C ∙ sym sound.tabled)
        ∙ cover-weight 0 (omega (arith, sound.tabled, sound.few_trains)) (proper_packable C sound p h)
        ∙ sym (weight-product C p)

    -- ---- the last station

    last-known : (stops : List Stop) → Every (λ s. s.station < length C.stations) stops → (last_of stops).station < 24
    last-known [] h = omega arith
    last-known (a ∷ []) h = omega (arith, h.0, sound.few_stations)
    last-known (a ∷ (b ∷ l)) h = last-known (b ∷ l) h.1

    last-coded : (k : ℕ) → Coded (last_station C k)
    unfolding last_station
    last-coded k = anywhere (λ u. (last_of u.stops).station < 24) C sound (omega arith) (λ u s. last-known u.stops s.known_stations) k

    pub last-low : (k : ℕ) → code_of (last_station C k) ≤ 64
    unfolding last_station
    last-low k = omega (arith, last-coded k)

    last_test : (e k : ℕ) → e ≤ 64 → eqb e (code_of (last_station C k)) ≡ same (place_of e) (last_station C k)
    last_test e k h =
        ap (λ (c : ℕ). eqb c (code_of (last_station C k))) (sym (code_place e (omega arith)))
        ∙ code_test (place_of e) (code_of (last_station C k)) (place-coded e) (omega (arith, last-low k))
        ∙ ap (same (place_of e)) (place_code (last_station C k) (last-coded k))

    -- ---- a pass

    module _ (t e k : ℕ) (low : e ≤ 64) (train : k < length C.trains) (l : List Entry) (a : Asker C sound t e k low l) (good : Every (Good C) l) where
      abbrev few : k < 8
      few = omega (arith, sound.few_trains)

      abbrev q : Job
      q = job_for (tables C) t e k (map row_of l)

      abbrev qs : List Cover
      qs = meets (place_of e) k l

      abbrev far : List Cover
      far = meets_across C (place_of e) k l

      pieces-parts : (r : Entry) → Good C r → Every (λ x. Parts (whole C) x.cover) (pieces_among C (place_of e) far qs r.cover)
      pieces-parts r g = among_parts C (place_of e) far qs (far-parts C sound t e k low l good) (meets-parts C sound t e k low l good) r.cover g.1

      entering_weight_lem : (ps : List Piece) → Every (λ x. Parts (whole C) x.cover) ps
          → sum (weight_of (tables C)) (entering_covers ps) ≡ sum (λ x. weight C x.cover) (keep (λ x. not x.held) ps)
      entering_weight_lem [] h = refl
      entering_weight_lem (x ∷ ps) h = go x.held (entering_weight_lem ps h.1)
        where
          go : (b : Bool) → sum (weight_of (tables C)) (entering_covers ps) ≡ sum (λ x. weight C x.cover) (keep (λ x. not x.held) ps)
              → sum (weight_of (tables C)) (map (λ y. packed y.cover) (one (not b) x ++ keep (λ y. not y.held) ps))
              ≡ sum (λ x. weight C x.cover) (one (not b) x ++ keep (λ x. not x.held) ps)
          go true ih = ih
          go false ih = ap₂ ◌+◌ (weight-packed x.cover h.0) ih

      covers-weight : (m : List Entry) → Every (Good C) m
          → sum (weight_of (tables C)) (each (enter_row (tables C) q (met_for q (map row_of l))) (map row_of m))
          ≡ sum (λ r. cond (asks_for C t (place_of e) k r.mark) (entering_weight C (place_of e) far qs r.cover) 0) m
      unfolding entering_weight
      covers-weight [] h = refl
      covers-weight (r ∷ m) h =
          sum-append (weight_of (tables C)) (enter_row (tables C) q (met_for q (map row_of l)) (row_of r)) (each (enter_row (tables C) q (met_for q (map row_of l))) (map row_of m))
          ∙ ap₂ ◌+◌
          (ap (sum (weight_of (tables C))) (enter-is C sound t e k low few l a good r h.0) ∙ go (asks_for C t (place_of e) k r.mark))
          (covers-weight m h.1)
        where
          go : (b : Bool) → sum (weight_of (tables C)) (cond b (entering_covers (pieces_among C (place_of e) far qs r.cover)) [])
              ≡ cond b (sum (λ x. weight C x.cover) (keep (λ x. not x.held) (pieces_among C (place_of e) far qs r.cover))) 0
          go true = entering_weight_lem (pieces_among C (place_of e) far qs r.cover) (pieces-parts r h.0)
          go false = refl

      -- the weights after the pass
      pub arrived-is : (v : List ℕ) → get_or v (k * 720 + t) 0 % 2 ^ 64 ≡ get_or v (k * 720 + t) 0
          → arrived_of (tables C) q (covers_of (tables C) q (map row_of l)) v
          ≡ cond (same (place_of e) (last_station C k)) (set v (k * 720 + t) ((get_or v (k * 720 + t) 0 + arrived_weight C t (place_of e) k l % 2 ^ 64) % 2 ^ 64)) v
      unfolding brought_of covers_of arrived_weight job_of
      arrived-is v small =
          arrived-any (tables C) q (each (enter_row (tables C) q (met_for q (map row_of l))) (map row_of l)) v small
          ∙ ap (λ (c : ℕ). cond (eqb e c) new v) (table-last C k train few)
          ∙ ap (λ (b : Bool). cond b new v) (last_test e k low)
          ∙ go (same (place_of e) (last_station C k))
        where
          W : ℕ
          W = sum (weight_of (tables C)) (each (enter_row (tables C) q (met_for q (map row_of l))) (map row_of l))

          new : List ℕ
          new = set v (k * 720 + t) ((get_or v (k * 720 + t) 0 + W % 2 ^ 64) % 2 ^ 64)

          go : (b : Bool) → cond b new v
              ≡ cond b (set v (k * 720 + t) ((get_or v (k * 720 + t) 0 + cond b (sum (λ r. cond (asks_for C t (place_of e) k r.mark) (entering_weight C (place_of e) far qs r.cover) 0) l) 0 % 2 ^ 64) % 2 ^ 64)) v
          go true = ap (λ (w : ℕ). set v (k * 720 + t) ((get_or v (k * 720 + t) 0 + w % 2 ^ 64) % 2 ^ 64)) (covers-weight l good)
          go false = refl

-- ---- the list of weights

-- the weights v are those of the arrivals vs, as the machine sums them: train k's in minute t at k · 720 + t
pub record Weighs (C : Case) (v : List ℕ) (vs : List (Arrival Entry)) : Type 0 where
  pub size : length v ≡ 5760
  pub each : (k t : ℕ) → k < 8 → t < 720 → get_or v (k * 720 + t) 0 ≡ weight_at C vs k t % 2 ^ 64

module _ (C : Case) (sound : Sound C) (t e k : ℕ) (v : List ℕ) (s : State Entry) (train : k < 8) (minute : t < 720) (w : Weighs C v s.arrived) where
  abbrev W : ℕ
  W = arrived_weight C t (place_of e) k s.list

  -- the weights after a pass
  pub weighs-pass : Weighs C (cond (same (place_of e) (last_station C k)) (set v (k * 720 + t) ((get_or v (k * 720 + t) 0 + W % 2 ^ 64) % 2 ^ 64)) v) (pass C t (place_of e) k s).arrived
  unfolding arrived_weight
  weighs-pass = record {
    size = go_size (same (place_of e) (last_station C k));
    each = λ j u h m. go j u h m (same (place_of e) (last_station C k)) refl
        ∙ sym (ap (λ (x : ℕ). x % 2 ^ 64) (pass-weight C sound t (place_of e) k s j u));
  }
    where
      new : List ℕ
      new = set v (k * 720 + t) ((get_or v (k * 720 + t) 0 + W % 2 ^ 64) % 2 ^ 64)

      go_size : (b : Bool) → length (cond b new v) ≡ 5760
      go_size true = length-set v (k * 720 + t) ((get_or v (k * 720 + t) 0 + W % 2 ^ 64) % 2 ^ 64) ∙ w.size
      go_size false = w.size

      same_sum : (j u : ℕ) → j < 8 → u < 720 → get_or v (j * 720 + u) 0 ≡ (weight_at C s.arrived j u + 0) % 2 ^ 64
      same_sum j u h m = w.each j u h m ∙ ap (λ (x : ℕ). x % 2 ^ 64) (sym (add-zero (weight_at C s.arrived j u)))

      go : (j u : ℕ) → j < 8 → u < 720 → (b : Bool) → same (place_of e) (last_station C k) ≡ b
          → get_or (cond b new v) (j * 720 + u) 0 ≡ (weight_at C s.arrived j u + cond (eqb k j && eqb t u) W 0) % 2 ^ 64
      go j u h m true z = at (eqb k j) (eqb t u) refl refl
        where
          at : (x y : Bool) → eqb k j ≡ x → eqb t u ≡ y → get_or new (j * 720 + u) 0 ≡ (weight_at C s.arrived j u + cond (x && y) W 0) % 2 ^ 64
          at true true f g =
              let i : k * 720 + t ≡ j * 720 + u = omega (arith, eqb-true k j f, eqb-true t u g) in
              ap (λ (n : ℕ). get_or (set v n ((get_or v n 0 + W % 2 ^ 64) % 2 ^ 64)) (j * 720 + u) 0) i
              ∙ get_or-set_same v (j * 720 + u) ((get_or v (j * 720 + u) 0 + W % 2 ^ 64) % 2 ^ 64) 0 (omega (arith, w.size))
              ∙ ap (λ (x : ℕ). (x + W % 2 ^ 64) % 2 ^ 64) (w.each j u h m)
              ∙ mod-sum (weight_at C s.arrived j u) W
          at true false f g = get_or-set_other v (k * 720 + t) (j * 720 + u) ((get_or v (k * 720 + t) 0 + W % 2 ^ 64) % 2 ^ 64) 0 (λ i. eqb-false t u g (omega (arith, eqb-true k j f))) ∙ same_sum j u h m
          at false y f g = get_or-set_other v (k * 720 + t) (j * 720 + u) ((get_or v (k * 720 + t) 0 + W % 2 ^ 64) % 2 ^ 64) 0 (λ i. eqb-false k j f (omega arith)) ∙ same_sum j u h m
      go j u h m false z =
          w.each j u h m
          ∙ ap (λ (x : ℕ). x % 2 ^ 64) (sym (add-zero (weight_at C s.arrived j u)))
          ∙ ap (λ (x : ℕ). (weight_at C s.arrived j u + x) % 2 ^ 64) (sym (at (eqb k j && eqb t u)))
        where
          at : (b : Bool) → cond b W 0 ≡ 0
          at true = ap (λ (b : Bool). cond b (sum (λ r. cond (asks_for C t (place_of e) k r.mark) (entering_weight C (place_of e) (meets_across C (place_of e) k s.list) (meets (place_of e) k s.list) r.cover) 0) s.list) 0) z
          at false = refl
