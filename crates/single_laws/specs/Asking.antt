-- Two tests of the run on words are tests of 01: what a train asks for, and whether it comes to its last station.
-- The words show the marks, and the tables hold what the case says of them. Assumes nothing.
use Rattle.std.specs.Prelude.{◌≡◌, Bool, ◌&&◌, cond, List, ℕ, ◌+◌, ◌*◌, ◌≤◌, ◌<◌, leb}
use Rattle.std.proofs.Math.Path.{refl, sym, ap}
use Rattle.std.proofs.Common.{◌∙◌, arith}
use Rattle.std.proofs.Math.Bool.{true, false, and-false}
use Rattle.std.proofs.Math.ListN.{length, get_or}
use Rattle.std.proofs.Math.Dec.{eqb}
use borrow.Author.Tests.{ne_eqb, lt-ltb}
use Rattle.rules.specs.Files.{Case}
use Rattle.rules.specs.Turns.{same, Mark, absent, train_at, last_station, ahead, head_is, asks, State}
use Rattle.theory_sound.specs.Facts.{SoundTrain, Sound}
use Rattle.theory_lists.specs.Tests.{eqb-turn}
use Rattle.theory_lists.specs.Every.{every_at}
use Rattle.theory_sound.specs.Steps.{every_last}
use Rattle.theory_sound.specs.Trains.{Known}
use Rattle.theory_codes.specs.Codes.{code_of, nowhere, place_of}
use Rattle.theory_codes.specs.Tables.{next_code, tables}
use Rattle.theory_codes.specs.Places.{place_code, same-element, head_code_lem, known-coded, known-few}
use Rattle.theory_passes.specs.Elements.{ahead-known}
use Rattle.moving.specs.Words.{wanted}
use Rattle.theory_codes.specs.Lookups.{table-last}
use Rattle.single_laws.specs.Looks.{look_next}
use Rattle.single_laws.specs.Shows.{stands_in, Shows}

module _ (C : Case) (sound : Sound C) where
  pub few : {k : ℕ} → k < length C.trains → k < 8
  few l = omega (arith, sound.few_trains)

  -- ---- the last station

  pub last-known : (k : ℕ) → k < length C.trains → Known C (last_station C k)
  unfolding last_station
  last-known k l =
      let t : SoundTrain (length C.stations) C.tracks C.head.last_minute (train_at C k) =
      every_at (SoundTrain (length C.stations) C.tracks C.head.last_minute) C.trains absent sound.trains_sound k l
      in
      every_last (λ s. s.station < length C.stations) (train_at C k).stops (omega (arith, t.some_stops)) t.known_stations

  -- train k at a place goes on to the element with the code of its next one
  next_code_lem : (k p e : ℕ) → e ≤ 64 → head_is (place_of e) (ahead C k (place_of p)) ≡ eqb (next_code C k p) e
  unfolding next_code
  next_code_lem k p e low = sym (head_code_lem e (ahead C k (place_of p)) low (λ l h. known-coded C sound l (ahead-known C sound k (place_of p) l h)))

  -- whether e is the last station of train k
  pub goal_last : (k e : ℕ) → k < length C.trains → e ≤ 64 → eqb (get_or (tables C) (16 + k) 0) e ≡ same (place_of e) (last_station C k)
  goal_last k e l m =
      let known = last-known k l in
      ap (λ (c : ℕ). eqb c e) (table-last C k l (few l))
      ∙ eqb-turn (code_of (last_station C k)) e
      ∙ sym (same-element e (code_of (last_station C k)) (known-few C sound (last_station C k) known))
      ∙ ap (same (place_of e)) (place_code (last_station C k) (known-coded C sound (last_station C k) known))

  module _ (t : ℕ) (w : List ℕ) (s : State Mark) (h : Shows C t w s) where
    -- ---- who asks

    pub wanted-asks : (k e : ℕ) → k < length C.trains → e ≤ 64 → eqb (wanted (tables C) t w k) e ≡ asks C t (place_of e) (stands_in w k)
    unfolding wanted asks
    wanted-asks k e l m =
        ap (λ (b : Bool). eqb (cond b (cond (leb (get_or w (8 + k) 0) t) (get_or (tables C) (240 + k * 128 + get_or w k 0) 0) nowhere) nowhere) e) (lt-ltb (get_or w k 0) 128 (omega (arith, h.placed k l)))
        ∙ ap (λ (q : ℕ). eqb (cond (leb (get_or w (8 + k) 0) t) q nowhere) e) (look_next C k (few l) (get_or w k 0) (omega (arith, h.placed k l)))
        ∙ go (leb (get_or w (8 + k) 0) t)
      where
        go : (b : Bool) → eqb (cond b (next_code C k (get_or w k 0)) nowhere) e ≡ (head_is (place_of e) (ahead C k (place_of (get_or w k 0))) && b)
        go true = sym (next_code_lem k (get_or w k 0) e m) ∙ sym (whole (head_is (place_of e) (ahead C k (place_of (get_or w k 0)))))
          where
            whole : (b : Bool) → (b && true) ≡ b
            whole true = refl
            whole false = refl
        go false = ne_eqb nowhere e (λ q. omega arith) ∙ sym (and-false (head_is (place_of e) (ahead C k (place_of (get_or w k 0)))))
