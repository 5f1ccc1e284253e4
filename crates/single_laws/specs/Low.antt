-- Every word of a case's tables is below 2,048, so that no sum of the run passes 64 bits. Each table is bounded by what is sound of the case;
-- that a delay is a byte is taken as given, as the reading of bytes makes it. Assumes nothing else.
use Rattle.std.specs.Prelude.{◌≡◌, Bool, true, false, cond, length, get_or, ltb}
use Rattle.std.proofs.Math.Path.{refl}
use Rattle.std.proofs.Common.{ap, ◌∙◌, ltb-true}
use mathlib.Core.List.{List, [], ◌∷◌, ◌++◌, map}
use Prim.Native.Nat.{ℕ, ◌≤◌, ◌<◌}
use native.Mathlib.Omega.{arith}
use Rattle.rules.specs.Lists.{each, below}
use Rattle.rules.specs.Files.{Case}
use Rattle.rules.specs.Turns.{Place, Leg, train_at, way, ahead, head_is, last_station, capacity}
use Rattle.rules.specs.Turns.Place.{outside, station, track, gone}
use Rattle.rules.specs.Single.{pair_at, first_arrival}
use Rattle.rules.specs.Figures.{plan}
use Rattle.theory_lists.specs.Every.{Every, every_all, every_append, every_anywhere, every_image, every_more}
use Rattle.theory_sound.specs.Facts.{SoundPairs, Sound}
use Rattle.theory_sound.specs.Trains.{way-planned, plan-most, planned-low}
use Rattle.theory_sound.specs.Ways.{same_self}
use Rattle.theory_codes.specs.Codes.{code_of, place_of}
use Rattle.theory_codes.specs.Tables.{order, head_code, next_code, stay_on, partner_code, per_train, per_pair, head_table, train_tables, pair_tables, tables}
use Rattle.theory_passes.specs.Order.{order-known}
use Rattle.theory_passes.specs.Elements.{ahead-known}
use Rattle.theory_passes.specs.Bounds.{ByteDelays, arrival-low, delay-low}
use Rattle.moving.specs.Words.{Small}
use Rattle.theory_codes.specs.Places.{known-few}
use Rattle.theory_codes.specs.Lookups.{table-minute}
use Rattle.theory_codes.specs.Partners.{partner-few}
use Rattle.single_laws.specs.Asking.{last-known}

abbrev pub Low : ℕ → Type 0
Low v = v < 2048

each-low : (f : ℕ → List ℕ) → ((k : ℕ) → Every Low (f k)) → (l : List ℕ) → Every Low (each f l)
each-low f h [] = tt
each-low f h (k ∷ l) = every_append Low (f k) (each f l) (h k) (each-low f h l)

map-low : (f : ℕ → ℕ) → ((k : ℕ) → Low (f k)) → (l : List ℕ) → Every Low (map f l)
map-low f h l = every_image Low f l (every_all (λ k. Low (f k)) h l)

rows-low : (f : ℕ → ℕ → ℕ) (m : ℕ) → ((k p : ℕ) → Low (f k p)) → (l : List ℕ) → Every Low (each (λ k. map (f k) (below m)) l)
rows-low f m h l = each-low (λ k. map (f k) (below m)) (λ k. map-low (f k) (h k) (below m)) l

module _ (C : Case) (sound : Sound C) (bytes : ByteDelays C) where
  trains-low : (f : ℕ → ℕ) → ((k : ℕ) → k < length C.trains → Low (f k)) → Every Low (per_train C f)
  trains-low f h = map-low (λ k. cond (ltb k (length C.trains)) (f k) 0) (λ k. go k (ltb k (length C.trains)) refl) (below 8)
    where
      go : (k : ℕ) (b : Bool) → ltb k (length C.trains) ≡ b → Low (cond b (f k) 0)
      go k true q = h k (ltb-true k (length C.trains) q)
      go k false q = omega arith

  order-low : (k : ℕ) → Low (get_or (order C) k 0)
  order-low k =
      every_anywhere Low (order C) 0 (omega arith) (listed (order C) (order-known C)) k
    where
      listed : (l : List ℕ) → Every (λ j. j < length C.trains) l → Every Low l
      listed [] h = tt
      listed (j ∷ l) h = (omega (arith, h.0, sound.few_trains), listed l h.1)

  weight-low : (k d : ℕ) → Low (pair_at C k d).weight
  weight-low k d =
      every_anywhere (λ p. Low p.weight) (get_or C.tables k []) (record { delay = 0; weight = 0 }) (omega arith)
      (every_anywhere (Every (λ p. Low p.weight)) C.tables [] tt
      (every_more SoundPairs (Every (λ p. Low p.weight)) (λ ps h. every_more (λ p. p.weight ≤ 100) (λ p. Low p.weight) (λ p l. omega arith) ps h.light) C.tables sound.tables_sound) k) d

  capacity-low : (p : Place) → Low (capacity C p)
  unfolding capacity
  capacity-low outside = omega arith
  capacity-low (station i) = every_anywhere Low C.stations 0 (omega arith) (every_more _ Low (λ n h. omega (arith, h.few)) C.stations sound.stations_sound) i
  capacity-low (track j) =
      every_anywhere Low (map (λ r. r.capacity) C.tracks) 0 (omega arith)
      (every_image Low (λ r. r.capacity) C.tracks (every_more _ (λ r. Low r.capacity) (λ r h. omega (arith, h.holds.few)) C.tracks sound.tracks_sound)) j
  capacity-low gone = omega arith

  next_low : (k p : ℕ) → Low (next_code C k p)
  unfolding next_code
  next_low k p = go (ahead C k (place_of p)) refl
    where
      go : (ls : List Leg) → ahead C k (place_of p) ≡ ls → Low (head_code ls)
      go [] q = omega arith
      go (l ∷ ls) q =
          omega (arith, known-few C sound l.place (ahead-known C sound k (place_of p) l.place (ap (head_is l.place) q ∙ same_self l.place)))

  stay-low : (k e : ℕ) → Low (stay_on C k e)
  unfolding stay_on
  stay-low k e =
      omega (arith, planned-low C.head.last_minute (place_of e) (way C k) (way-planned C sound k), sound.in_window)

  partner-low : (e : ℕ) → Low (partner_code C e)
  partner-low e = omega (arith, partner-few C sound e)

  pub tables-low : Every Low (tables C)
  unfolding tables
  tables-low =
      every_append Low (head_table C) (train_tables C ++ pair_tables C ++ capacities ++ nexts ++ stays ++ partners) head-low
      (every_append Low (train_tables C) (pair_tables C ++ capacities ++ nexts ++ stays ++ partners) train-low
      (every_append Low (pair_tables C) (capacities ++ nexts ++ stays ++ partners) pair-low
      (every_append Low capacities (nexts ++ stays ++ partners) (map-low (λ e. capacity C (place_of e)) (λ e. capacity-low (place_of e)) (below 64))
      (every_append Low nexts (stays ++ partners) (rows-low (next_code C) 128 next_low (below 8))
      (every_append Low stays partners (rows-low (stay_on C) 128 stay-low (below 8)) (map-low (partner_code C) partner-low (below 64)))))))
    where
      capacities : List ℕ
      capacities = map (λ e. capacity C (place_of e)) (below 64)

      nexts : List ℕ
      nexts = each (λ k. map (next_code C k) (below 128)) (below 8)

      stays : List ℕ
      stays = each (λ k. map (stay_on C k) (below 128)) (below 8)

      partners : List ℕ
      partners = map (partner_code C) (below 64)

      zero-low : Low 0
      zero-low = omega arith

      head-low : Every Low (head_table C)
      head-low =
          (omega (arith, sound.few_trains), (omega (arith, sound.in_window), (omega (arith, sound.head_sound.short_safety), (omega (arith, sound.in_room), (zero-low, (zero-low, (zero-low, (zero-low, tt))))))))

      train-low : Every Low (train_tables C)
      train-low =
          every_append Low (per_train C (λ k. get_or (order C) k 0)) (goals ++ plans ++ firsts ++ counts) (trains-low (λ k. get_or (order C) k 0) (λ k l. order-low k))
          (every_append Low goals (plans ++ firsts ++ counts)
          (trains-low (λ k. code_of (last_station C k)) (λ k l. omega (arith, known-few C sound (last_station C k) (last-known C sound k l))))
          (every_append Low plans (firsts ++ counts) (trains-low (plan C) (λ k l. omega (arith, plan-most C sound k l, sound.in_window)))
          (every_append Low firsts counts (trains-low (λ k. first_arrival (train_at C k).stops) (λ k l. omega (arith, arrival-low C sound k, sound.in_window)))
          (trains-low (λ k. length (get_or C.tables k [])) (λ k l. omega (arith, sound.few_pairs k l))))))
        where
          goals : List ℕ
          goals = per_train C (λ k. code_of (last_station C k))

          plans : List ℕ
          plans = per_train C (plan C)

          firsts : List ℕ
          firsts = per_train C (λ k. first_arrival (train_at C k).stops)

          counts : List ℕ
          counts = per_train C (λ k. length (get_or C.tables k []))

      pair-low : Every Low (pair_tables C)
      pair-low =
          every_append Low (per_pair C (λ k d. (pair_at C k d).delay)) (per_pair C (λ k d. (pair_at C k d).weight))
          (rows-low (λ k d. (pair_at C k d).delay) 8 (λ k d. omega (arith, delay-low C sound bytes k d)) (below 8))
          (rows-low (λ k d. (pair_at C k d).weight) 8 weight-low (below 8))

  -- what the run asks of its tables
  pub words_small : Small (tables C)
  words_small i = let h : Low (get_or (tables C) i 0) = every_anywhere Low (tables C) 0 (omega arith) tables-low i in omega arith

  pub tables-last : get_or (tables C) 1 0 < 65535
  tables-last = omega (arith, table-minute C, sound.in_window)
