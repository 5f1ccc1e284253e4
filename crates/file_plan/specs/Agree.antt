-- What is filled from the bytes of accepted files is the tables of their case: `parts-tables`.
-- The rows of the ways are compared place by place; the parts then follow each other in the same order. Assumes nothing.
use Rattle.std.specs.Prelude.{◌≡◌, Bool, cond, ℕ, ◌-◌, ◌≤◌, ◌<◌, length}
use Rattle.std.proofs.Math.Path.{refl, ap, ap₂, sym}
use Rattle.std.proofs.Common.{◌∙◌, zero-add, arith, ext_get_or}
use Rattle.std.proofs.Math.Bool.{true, false}
use mathlib.Core.List.{List, [], ◌∷◌, ◌++◌, map, append_assoc}
use Rattle.std.proofs.Math.ListN.{get_or, replicate}
use Rattle.std.proofs.lemmas.List.{get_or-replicate}
use Rattle.std.proofs.Math.Dec.{leb}
use borrow.Author.Tests.{leb-true, leb-false}
use Rattle.rules.specs.Refusals.Result.{answer}
use Rattle.rules.specs.Lists.{each, below}
use Rattle.rules.specs.Files.{Track, Stop, Train, Case, byte, word, files}
use Rattle.rules.specs.Turns.{same, legs, train_at, way, after, ahead, planned_on}
use Rattle.rules.specs.Turns.Place.{outside}
use Rattle.theory_codes.specs.Codes.{code_of, place_of}
use Rattle.theory_codes.specs.Places.{Coded, code_place, outside_code, known-coded}
use Rattle.theory_codes.specs.Tables.{head_code, next_code, stay_on, head_table, tables}
use Rattle.theory_lists.specs.Every.{Every, every_more}
use Rattle.theory_sound.specs.Facts.{Sound}
use Rattle.theory_sound.specs.Ways.{same_true, same_self}
use Rattle.theory_sound.specs.Trains.{way-known, way_apart}
use Rattle.theory_sound.specs.Accepted.{accepted-couples}
use Rattle.theory_sound.proofs.Accepted.{accepted-sound}
use Rattle.file_fields.specs.Fields.{past}
use Rattle.file_lookup.specs.declared.Sizes.{Sizes}
use Rattle.file_lookup.specs.Answers.{sizes_of}
use Rattle.theory_lists.specs.Below.{get_d_below, length-span-map}
use Rattle.file_tables.specs.Model.{tracks_from, walk_next, walk_stay, first_station, next_row_of, stay_row, order_by, priority_of, head_part, train_row, train_part, pair_part, capacity_part, next_part, stay_part, partner_part, track_place, train_place, all_parts}
use Rattle.file_tables.specs.Walks.{walk_next-length, walk_stay-length}
use Rattle.file_plan.specs.Ways.{next-at, next-outside, stay-at, stay-outside, start-low, start-high}
use Rattle.file_plan.specs.Decoded.{Decoded, decoded}
use Rattle.file_plan.specs.Parts.{count, few, train-at, train-none, rows_of, one_value, order-part, last-part, plan-part, first_part, number-part, delays-part, weights-part, capacities_part, partners-part}

-- up to the way out no code is the outside's
inside_code : (p : ℕ) → p ≤ 64 → same (place_of p) outside ≡ false
inside_code p h = go (same (place_of p) outside) refl
  where
    go : (b : Bool) → same (place_of p) outside ≡ b → b ≡ false
    go true e = let z = sym (code_place p (omega arith)) ∙ ap code_of (same_true (place_of p) outside e) in absurd (omega arith)
    go false e = refl

-- ---- the way of one train

module _ (C : Case) (y : Sound C) (k : ℕ) where
  pub coded : Every (λ l. Coded l.place) (way C k)
  coded = every_more _ _ (λ l h. known-coded C y l.place h) (way C k) (way-known C y k)

  abbrev stops : List Stop
  stops = (train_at C k).stops

  abbrev begin : List ℕ
  begin = replicate 65 127 ++ replicate 63 (first_station (train_at C k).stops)

  next_word : (p : ℕ) → p < 128 → next_code C k p ≡ get_or (walk_next C.tracks stops begin) p 0
  unfolding next_code ahead way
  next_word p h = go (leb p 64) refl
    where
      go : (b : Bool) → leb p 64 ≡ b → head_code (cond (same (place_of p) outside) (way C k) (after (place_of p) (way C k))) ≡ get_or (walk_next C.tracks stops begin) p 0
      go true e =
          let z = leb-true p 64 e in
          rw (inside_code p z) (sym (next-at C.tracks stops (way_apart C y k) coded begin p refl z (start-low (first_station stops) p z)))
      go false e =
          let z = leb-false p 64 e in
          rw (outside_code p z, same_self outside) (sym (next-outside C.tracks stops (way_apart C y k) coded begin p z (start-high (first_station stops) p z h)))

  pub next-row-same : map (next_code C k) (below 128) ≡ walk_next C.tracks stops begin
  next-row-same =
      ext_get_or 0 (map (next_code C k) (below 128)) (walk_next C.tracks stops begin) (length-span-map (next_code C k) 128 0 ∙ sym (walk_next-length C.tracks stops begin))
      (λ p h. let z : p < 128 = omega (arith, length-span-map (next_code C k) 128 0) in get_d_below (next_code C k) 128 p 0 z ∙ next_word p z)

  stay-word : (p : ℕ) → p < 128 → stay_on C k p ≡ get_or (walk_stay C.tracks stops (replicate 128 0)) p 0
  unfolding stay_on way
  stay-word p h = go (leb p 64) refl
    where
      go : (b : Bool) → leb p 64 ≡ b → planned_on (place_of p) (way C k) ≡ get_or (walk_stay C.tracks stops (replicate 128 0)) p 0
      go true e = let z = leb-true p 64 e in sym (stay-at C.tracks stops (way_apart C y k) coded (replicate 128 0) p refl z (get_or-replicate 128 p 0 0 h))
      go false e = let z = leb-false p 64 e in sym (stay-outside C.tracks stops (way_apart C y k) coded (replicate 128 0) p z (get_or-replicate 128 p 0 0 h))

  pub stay-row-same : map (stay_on C k) (below 128) ≡ walk_stay C.tracks stops (replicate 128 0)
  stay-row-same =
      ext_get_or 0 (map (stay_on C k) (below 128)) (walk_stay C.tracks stops (replicate 128 0)) (length-span-map (stay_on C k) 128 0 ∙ sym (walk_stay-length C.tracks stops (replicate 128 0)))
      (λ p h. let z : p < 128 = omega (arith, length-span-map (stay_on C k) 128 0) in get_d_below (stay_on C k) 128 p 0 z ∙ stay-word p z)

-- a train that is not there has no way
module _ (C : Case) (k : ℕ) (e : (train_at C k).stops ≡ []) where
  no_way : way C k ≡ []
  unfolding way
  no_way = ap (legs C.tracks) e

  pub next-row-none : map (next_code C k) (below 128) ≡ replicate 128 127
  unfolding next_code ahead
  next-row-none = one_value (next_code C k) 127 128 0 (λ p. rw no_way (go (same (place_of p) outside)))
    where
      go : (b : Bool) → head_code (cond b [] []) ≡ 127
      go true = refl
      go false = refl

  pub stay-row-none : map (stay_on C k) (below 128) ≡ replicate 128 0
  unfolding stay_on
  stay-row-none = one_value (stay_on C k) 0 128 0 (λ p. rw no_way refl)

-- ---- all trains

module _ (cs bk : List ℕ) (C : Case) (s r n : ℕ) (D : Decoded cs bk C s r n) where
  abbrev ts : List Track
  ts = tracks_from cs r (track_place s)

  abbrev o : ℕ
  o = train_place s r

  pub nexts-part : each (λ k. map (next_code C k) (below 128)) (below 8) ≡ next_part cs ts n o
  unfolding next_part next_row_of
  nexts-part =
      rows_of (λ k. map (next_code C k) (below 128)) (next_row_of cs ts) (past cs) 128 127 n 8 0 o (few cs bk C s r n D)
      (λ k h.
      ap (λ (j : ℕ). map (next_code C j) (below 128)) (zero-add k)
      ∙ next-row-same C D.sound k
      ∙ ap₂ (λ (l : List Track) (t : Train). walk_next l t.stops (replicate 65 127 ++ replicate 63 (first_station t.stops))) D.tracks (train-at cs bk C s r n D k h))
      (λ k h.
      ap (λ (j : ℕ). map (next_code C j) (below 128)) (zero-add k)
      ∙ next-row-none C k (ap (λ (t : Train). t.stops) (train-none cs bk C s r n D k h)))

  pub stays-part : each (λ k. map (stay_on C k) (below 128)) (below 8) ≡ stay_part cs ts n o
  unfolding stay_part stay_row
  stays-part =
      rows_of (λ k. map (stay_on C k) (below 128)) (stay_row cs ts) (past cs) 128 0 n 8 0 o (few cs bk C s r n D)
      (λ k h.
      ap (λ (j : ℕ). map (stay_on C j) (below 128)) (zero-add k)
      ∙ stay-row-same C D.sound k
      ∙ ap₂ (λ (l : List Track) (t : Train). walk_stay l t.stops (replicate 128 0)) D.tracks (train-at cs bk C s r n D k h))
      (λ k h.
      ap (λ (j : ℕ). map (stay_on C j) (below 128)) (zero-add k)
      ∙ stay-row-none C k (ap (λ (t : Train). t.stops) (train-none cs bk C s r n D k h)))

  heads-part : head_table C ≡ n ∷ word cs 3 ∷ byte cs 5 ∷ word cs 6 ∷ 0 ∷ 0 ∷ 0 ∷ 0 ∷ []
  heads-part = cc (count cs bk C s r n D, D.head.last_minute, D.head.safety, D.head.room)

  regroup : (h o l p f m d w c x y z : List ℕ)
      → ((((((h ++ ((((o ++ l) ++ p) ++ f) ++ m)) ++ (d ++ w)) ++ c) ++ x) ++ y) ++ z)
      ≡ ((h ++ o) ++ ((l ++ (p ++ (f ++ m))) ++ (d ++ w))) ++ (c ++ ((x ++ y) ++ z))
  regroup h o l p f m d w c x y z = simp append_assoc

  pub decoded_tables : tables C ≡ all_parts cs bk s r n (length C.couples)
  unfolding tables head_part train_part
  decoded_tables =
      ap₂ ◌++◌
      (ap₂ ◌++◌
      (ap₂ ◌++◌
      (ap₂ ◌++◌
      (ap₂ ◌++◌
      (ap₂ ◌++◌ heads-part
      (ap₂ ◌++◌ (ap₂ ◌++◌ (ap₂ ◌++◌ (ap₂ ◌++◌ (order-part cs bk C s r n D) (last-part cs bk C s r n D)) (plan-part cs bk C s r n D)) (first_part cs bk C s r n D)) (number-part cs bk C s r n D)))
      (ap₂ ◌++◌ (delays-part cs bk C s r n D) (weights-part cs bk C s r n D)))
      (capacities_part cs bk C s r n D))
      nexts-part)
      stays-part)
      (partners-part cs bk C s r n D)
      ∙ regroup (n ∷ word cs 3 ∷ byte cs 5 ∷ word cs 6 ∷ 0 ∷ 0 ∷ 0 ∷ 0 ∷ []) (order_by (priority_of cs o n) n ++ replicate (8 - n) 0)
      (train_row cs bk n o 0) (train_row cs bk n o 1) (train_row cs bk n o 2) (train_row cs bk n o 3)
      (pair_part cs bk n o 1) (pair_part cs bk n o 2) (capacity_part cs s r) (next_part cs ts n o) (stay_part cs ts n o) (partner_part cs (length C.couples))

-- from the files alone
pub parts-tables : (cs bk : List ℕ) (C : Case) → files cs bk ≡ answer C
    → all_parts cs bk (length C.stations) (length C.tracks) (length C.trains) (length C.couples) ≡ tables C
parts-tables cs bk C h =
    sym (decoded_tables cs bk C (length C.stations) (length C.tracks) (length C.trains) (decoded cs bk C h))

-- by the sizes that the reading hands on
module _ (cs bk : List ℕ) (C : Case) (h : files cs bk ≡ answer C) (z : Sizes) (e : z ≡ sizes_of C) where
  pub sizes-tables : all_parts cs bk z.stations z.tracks z.trains z.couples ≡ tables C
  sizes-tables = ap (λ (y : Sizes). all_parts cs bk y.stations y.tracks y.trains y.couples) e ∙ parts-tables cs bk C h

  pub sizes-few : (z.stations ≤ 24) × (z.tracks ≤ 40) × (z.trains ≤ 8) × (z.couples ≤ 20)
  sizes-few =
      let y = accepted-sound cs bk C h in
      let a = ap (λ (x : Sizes). x.stations) e in
      let b = ap (λ (x : Sizes). x.tracks) e in
      let d = ap (λ (x : Sizes). x.trains) e in
      let f = ap (λ (x : Sizes). x.couples) e in
      (omega (arith, y.few_stations), omega (arith, y.few_tracks), omega (arith, y.few_trains), omega (arith, accepted-couples cs bk C h))
