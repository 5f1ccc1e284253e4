-- The first list on rows is the first list of the definitions, and the run starts in agreement: one row per train and delay, other trains' sets whole.
-- The bytes of a first cover are gone through from train to train. Assumes nothing.
use Rattle.std.specs.Prelude.{◌≡◌, Bool, true, false, set, replicate, ltb}
use Rattle.std.proofs.Math.Path.{refl, ap, ap₂, sym}
use Rattle.std.proofs.Common.{◌∙◌, subst, add-zero, eq-eqb, ne_eqb, lt-ltb, le-ltb, ltb-true, ltb-false}
use Rattle.std.proofs.Math.Bool.{cond}
use mathlib.Core.List.{List, [], ◌∷◌, ◌++◌, map}
use Prim.Native.Nat.{ℕ, zero, suc, ◌+◌, ◌-◌, ◌*◌, ◌^◌, ◌≤◌, ◌<◌}
use native.Mathlib.Omega.{arith}
use Rattle.std.proofs.Math.ListN.{length, get_or, length-replicate, get_or-replicate}
use Rattle.std.proofs.lemmas.List.{length-map}
use Rattle.rules.specs.Lists.{each, below}
use Rattle.rules.specs.Files.{Case, Pair}
use Rattle.rules.specs.Turns.{State, state}
use Rattle.rules.specs.Single.{waits}
use Rattle.rules.specs.Joint.{whole, Entry, entry, first_list, check_list, weight_at}
use Rattle.rules.specs.Calls.{set_image}
use Rattle.theory_sound.specs.Facts.{Sound}
use Rattle.theory_lists.specs.Each.{map-append}
use Rattle.theory_lists.specs.Every.{Every}
use Rattle.theory_lists.specs.Below.{every_below}
use Rattle.theory_codes.specs.Codes.{state_of}
use Rattle.theory_codes.specs.Tables.{tables}
use Rattle.theory_passes.proofs.Joint.{first_lawful}
use Rattle.theory_trace.specs.Room.{check_list-room}
use Rattle.theory_passes.specs.Bounds.{ByteDelays, first_list-bounded}
use Rattle.cut.specs.Packed.{packed_in}
use Rattle.cut.specs.Sets.{image_delays, whole-delays, single-delays}
use Rattle.rows.specs.Rows.{Row, row}
use Rattle.opening.specs.First.{first_byte, first_bytes, first_row, first_rows}
use Rattle.visiting.specs.Visit.{guard}
use Rattle.visiting.specs.Visiting.{guard_in, guard_out}
use Rattle.theory_codes.specs.Lookups.{table-trains, table-delays, table-first, table-delay, table-room}
use Rattle.entries.specs.Encoded.{row_of}
use Rattle.entries.specs.Weighed.{Weighs}
use Rattle.entries.specs.Agreeing.{Agrees, Kind}
use Rattle.entries.specs.Agreeing.Agrees.{agree, over}

-- ---- lists over numbers

map-span : {A : Type 0} (P : ℕ → Type 0) (f g : ℕ → A) → ((d : ℕ) → P d → f d ≡ g d) → (l : List ℕ) → Every P l → map f l ≡ map g l
map-span P f g h [] e = refl
map-span P f g h (d ∷ l) e = ap₂ (λ a b. a ∷ b) (h d e.0) (map-span P f g h l e.1)

map_join : {A B : Type 0} (f : A → B) (g : ℕ → A) (l : List ℕ) → map (λ d. f (g d)) l ≡ map f (map g l)
map_join f g [] = refl
map_join f g (d ∷ l) = ap (λ z. f (g d) ∷ z) (map_join f g l)

-- ---- the bytes of a first cover

module _ (C : Case) (sound : Sound C) (k d : ℕ) (train : k < length C.trains) (delay : d < length (get_or C.tables k [])) where
  abbrev n : ℕ
  n = length C.trains

  abbrev T : List ℕ
  T = tables C

  abbrev whole_of : List Pair → List ℕ
  whole_of pairs = below (length pairs)

  small : d < 8
  small = omega (arith, sound.few_pairs k train)

  -- the byte of another train
  byte-other : (j : ℕ) → (j ≡ k → ⊥) → j < n → first_byte T k d j ≡ set_image (whole_of (get_or C.tables j []))
  unfolding first_byte
  byte-other j h l =
      ap₂ (λ (a b : Bool). cond a (2 ^ d) (cond b (2 ^ get_or T (40 + j) 0 - 1) 1)) (ne_eqb j k h) (lt-ltb j (get_or T 0 0) (omega (arith, table-trains C)))
      ∙ ap (λ (x : ℕ). 2 ^ x - 1) (table-delays C j l (omega (arith, sound.few_trains)))
      ∙ sym (image_delays (whole-delays (length (get_or C.tables j [])) (sound.few_pairs j l)))

  byte-absent : (j : ℕ) → n ≤ j → first_byte T k d j ≡ 1
  unfolding first_byte
  byte-absent j l =
      ap₂ (λ (a b : Bool). cond a (2 ^ d) (cond b (2 ^ get_or T (40 + j) 0 - 1) 1)) (ne_eqb j k (λ z. omega arith)) (le-ltb j (get_or T 0 0) (omega (arith, table-trains C)))

  byte-own : first_byte T k d k ≡ set_image (d ∷ [])
  unfolding first_byte
  byte-own = ap (λ (a : Bool). cond a (2 ^ d) (cond (ltb k (get_or T 0 0)) (2 ^ get_or T (40 + k) 0 - 1) 1)) (eq-eqb k k refl) ∙ sym (image_delays (single-delays d small))

  abbrev Rest : ℕ → List (List Pair) → Type 0
  Rest j ts = (i : ℕ) → i < length ts → get_or C.tables (j + i) [] ≡ get_or ts i []

  rest-next : (j : ℕ) (t : List Pair) (ts : List (List Pair)) → Rest j (t ∷ ts) → Rest (suc j) ts
  rest-next j t ts r i h = ap (λ (x : ℕ). get_or C.tables x []) (let e : suc j + i ≡ j + suc i = omega arith in e) ∙ r (suc i) (omega arith)

  rest-here : (j : ℕ) (t : List Pair) (ts : List (List Pair)) → Rest j (t ∷ ts) → get_or C.tables j [] ≡ t
  rest-here j t ts r = ap (λ (x : ℕ). get_or C.tables x []) (sym (add-zero j)) ∙ r 0 (omega arith)

  bytes_rest : (b j : ℕ) (ts : List (List Pair)) → k < j → length ts ≡ n - j → length ts ≤ b → Rest j ts → first_bytes T k d b j ≡ packed_in b (map whole_of ts)
  unfolding first_bytes packed_in
  bytes_rest zero j ts h l f r = refl
  bytes_rest (suc b) j [] h l f r = ap₂ (λ (x y : ℕ). x * 256 + y) (bytes_rest b (suc j) [] (omega arith) (omega arith) (omega arith) (λ i z. absurd (omega arith))) (byte-absent j (omega arith))
  bytes_rest (suc b) j (t ∷ ts) h l f r =
      ap₂ (λ (x y : ℕ). x * 256 + y) (bytes_rest b (suc j) ts (omega arith) (omega arith) (omega arith) (rest-next j t ts r))
      (byte-other j (λ z. omega arith) (omega arith) ∙ ap (λ (p : List Pair). set_image (whole_of p)) (rest-here j t ts r))

  bytes-set : (b j i : ℕ) (ts : List (List Pair)) → k ≡ j + i → i < length ts → length ts ≡ n - j → length ts ≤ b → Rest j ts
      → first_bytes T k d b j ≡ packed_in b (set (map whole_of ts) i (d ∷ []))
  unfolding first_bytes packed_in
  bytes-set b j i [] e h l f r = absurd (omega arith)
  bytes-set zero j i (t ∷ ts) e h l f r = absurd (omega arith)
  bytes-set (suc b) j zero (t ∷ ts) e h l f r =
      ap₂ (λ (x y : ℕ). x * 256 + y) (bytes_rest b (suc j) ts (omega arith) (omega arith) (omega arith) (rest-next j t ts r))
      (ap (first_byte T k d) (let z : j ≡ k = omega arith in z) ∙ byte-own)
  bytes-set (suc b) j (suc i) (t ∷ ts) e h l f r =
      ap₂ (λ (x y : ℕ). x * 256 + y) (bytes-set b (suc j) i ts (omega arith) (omega arith) (omega arith) (omega arith) (rest-next j t ts r))
      (byte-other j (λ z. omega arith) (omega arith) ∙ ap (λ (p : List Pair). set_image (whole_of p)) (rest-here j t ts r))

  -- the first row is that of the first entry
  pub first-row : first_row T k d ≡ row_of (entry (waits C k d) (set (whole C) k (d ∷ [])))
  unfolding first_row row_of waits state_of whole
  first-row =
      ap₂ (λ (s c : ℕ). row s c)
      (omega (arith, table-first C k train (omega (arith, sound.few_trains)), table-delay C k d (omega (arith, sound.few_trains)) small))
      (bytes-set 8 0 k C.tables (omega arith) (omega (arith, sound.tabled)) (omega (arith, sound.tabled)) (omega (arith, sound.tabled, sound.few_trains))
      (λ i h. ap (λ (x : ℕ). get_or C.tables x []) (let e : 0 + i ≡ i = omega arith in e)))

-- ---- the first list

module _ (C : Case) (sound : Sound C) where
  train-rows : (k : ℕ) → k < length C.trains
      → map (first_row (tables C) k) (below (get_or (tables C) (40 + k) 0)) ≡ map row_of (map (λ d. entry (waits C k d) (set (whole C) k (d ∷ []))) (below (length (get_or C.tables k []))))
  train-rows k h =
      ap (λ (m : ℕ). map (first_row (tables C) k) (below m)) (table-delays C k h (omega (arith, sound.few_trains)))
      ∙ map-span (λ d. d < length (get_or C.tables k [])) (first_row (tables C) k) (λ d. row_of (entry (waits C k d) (set (whole C) k (d ∷ []))))
      (λ d l. first-row C sound k d h l) (below (length (get_or C.tables k []))) (every_below (length (get_or C.tables k [])))
      ∙ map_join row_of (λ d. entry (waits C k d) (set (whole C) k (d ∷ []))) (below (length (get_or C.tables k [])))

  first_rows_lem : first_rows (tables C) ≡ map row_of (first_list C)
  unfolding first_rows first_list
  first_rows_lem =
      ap (λ (m : ℕ). each (λ k. map (first_row (tables C) k) (below (get_or (tables C) (40 + k) 0))) (below m)) (table-trains C)
      ∙ go (below (length C.trains)) (every_below (length C.trains))
    where
      go : (l : List ℕ) → Every (λ k. k < length C.trains) l
          → each (λ k. map (first_row (tables C) k) (below (get_or (tables C) (40 + k) 0))) l
          ≡ map row_of (each (λ k. map (λ d. entry (waits C k d) (set (whole C) k (d ∷ []))) (below (length (get_or C.tables k [])))) l)
      go [] h = refl
      go (k ∷ l) h =
          ap₂ ◌++◌ (train-rows k h.0) (go l h.1)
          ∙ sym (map-append row_of (map (λ d. entry (waits C k d) (set (whole C) k (d ∷ []))) (below (length (get_or C.tables k []))))
          (each (λ k. map (λ d. entry (waits C k d) (set (whole C) k (d ∷ []))) (below (length (get_or C.tables k [])))) l))

  -- ---- the start

  abbrev start : State Entry
  start = state (first_list C) [] (check_list C (first_list C))

  nothing-weighs : Weighs C (replicate {A = ℕ} 5760 0) []
  unfolding weight_at
  nothing-weighs = record {
    size = length-replicate {A = ℕ} 5760 0;
    each = λ k t h l. get_or-replicate {A = ℕ} 5760 (k * 720 + t) 0 0 (omega arith);
  }

  pub start-kind : ByteDelays C → Kind C start
  start-kind bytes = (first_lawful C sound, first_list-bounded C sound bytes)

  pub start_agrees : Agrees C start (guard (get_or (tables C) 3 0) (first_rows (tables C)) (replicate {A = ℕ} 5760 0))
  start_agrees =
      subst (Agrees C start) (sym (ap₂ (λ (r : ℕ) (l : List Row). guard r l (replicate {A = ℕ} 5760 0)) (table-room C) first_rows_lem)) (go (ltb C.head.room (length (first_list C))) refl)
    where
      met : check_list C (first_list C) ≡ cond (ltb C.head.room (length (first_list C))) 12 0
      met = check_list-room C (first_list C)

      go : (b : Bool) → ltb C.head.room (length (first_list C)) ≡ b → Agrees C start (guard C.head.room (map row_of (first_list C)) (replicate {A = ℕ} 5760 0))
      go true q =
          let more : C.head.room < length (first_list C) = ltb-true C.head.room (length (first_list C)) q in
          let twelve : check_list C (first_list C) ≡ 12 = met ∙ ap (λ (y : Bool). cond y 12 0) q in
          subst (Agrees C start) (sym (guard_out C.head.room (map row_of (first_list C)) (replicate {A = ℕ} 5760 0) (omega (arith, length-map (first_list C) row_of)))) (over (omega arith))
      go false q =
          let less : length (first_list C) ≤ C.head.room = ltb-false C.head.room (length (first_list C)) q in
          subst (Agrees C start) (sym (guard_in C.head.room (map row_of (first_list C)) (replicate {A = ℕ} 5760 0) (omega (arith, length-map (first_list C) row_of))))
          (agree (met ∙ ap (λ (y : Bool). cond y 12 0) q) nothing-weighs)
