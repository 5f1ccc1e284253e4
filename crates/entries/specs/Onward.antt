-- The tables of a sound case: planned minutes and codes fit their places, an element is next from one place of a train alone, each train has a delay, and partners
-- are each other's.
-- All askers of a train for an element stand at the place before it on the train's way. Assumes nothing.
use Rattle.std.specs.Prelude.{◌≡◌, Bool, ◌&&◌, ℕ, ◌+◌, ◌*◌, ◌/◌, ◌%◌, ◌≤◌, ◌<◌, length}
use Rattle.std.proofs.Math.Path.{ap, sym}
use Rattle.std.proofs.Common.{◌∙◌}
use Rattle.std.proofs.Math.Bool.{true}
use mathlib.Core.List.{List, [], ◌∷◌}
use native.Mathlib.Omega.{arith}
use borrow.Author.Tests.{le-leb}
use Rattle.std.proofs.Math.ListN.{get_or}
use Rattle.std.proofs.Math.Dec.{leb}
use Rattle.rules.specs.Lists.{sum}
use Rattle.rules.specs.Files.{Pair, Case}
use Rattle.rules.specs.Turns.{Place, same, stands, Leg, way, ahead, head_is, asks}
use Rattle.theory_sound.specs.Facts.{Sound}
use Rattle.theory_sound.specs.Trains.{Known, way-planned, planned-low}
use Rattle.theory_sound.specs.Ways.{same_self}
use Rattle.theory_codes.specs.Codes.{code_of, place_of}
use Rattle.theory_codes.specs.Tables.{head_code, next_code, stay_on, tables}
use Rattle.theory_passes.specs.Elements.{ahead-known}
use Rattle.theory_passes.specs.Before.{place_before, asker_place}
use Rattle.visiting.specs.Visit.{Ways}
use Rattle.theory_codes.specs.Places.{known-coded, place_code, code_place, next_small}
use Rattle.theory_codes.specs.Partners.{partner-low, first_alone, partner-back}
use Rattle.theory_codes.specs.Lookups.{table-next, table-stay, table-trains, table-delays}

module _ (C : Case) (sound : Sound C) where
  -- the next element of a place, where there is one
  next-is : (k p e : ℕ) → e ≤ 64 → next_code C k p ≡ e → head_is (place_of e) (ahead C k (place_of p)) ≡ true
  unfolding next_code
  next-is k p e low h = go (ahead C k (place_of p)) (λ x q. ahead-known C sound k (place_of p) x q) h
    where
      go : (ls : List Leg) → ((x : Place) → head_is x ls ≡ true → Known C x) → head_code ls ≡ e → head_is (place_of e) ls ≡ true
      go [] known q = absurd (omega arith)
      go (l ∷ ls) known q =
          let is : l.place ≡ place_of e = sym (place_code l.place (known-coded C sound l.place (known l.place (same_self l.place)))) ∙ ap place_of q in
          ap (λ (x : Place). same x (place_of e)) is ∙ same_self (place_of e)

  -- a train that stands there and is due asks for it
  stands-before : (k p e : ℕ) → e ≤ 64 → next_code C k p ≡ e → place_of p ≡ place_before C k (place_of e)
  unfolding asks
  stands-before k p e low h =
      asker_place C sound 0 (place_of e) (stands k (place_of p) 0)
      (ap (λ (b : Bool). b && leb 0 0) (next-is k p e low h) ∙ le-leb 0 0 (omega arith))

  same-before : (k p q e : ℕ) → p ≤ 65 → q ≤ 65 → e ≤ 64 → next_code C k p ≡ e → next_code C k q ≡ e → p ≡ q
  same-before k p q e a b low h j =
      sym (code_place p a) ∙ ap code_of (stands-before k p e low h ∙ sym (stands-before k q e low j)) ∙ code_place q b

  -- word i is of train i / 128 and place i % 128
  next-at : (i : ℕ) → i < 1024 → get_or (tables C) (240 + i) 0 ≡ next_code C (i / 128) (i % 128)
  next-at i h =
      let e : 240 + i ≡ 240 + (i / 128 * 128 + i % 128) = omega arith in
      ap (λ (y : ℕ). get_or (tables C) y 0) e ∙ table-next C (i / 128) (i % 128) (omega arith) (omega arith)

  stay-at : (i : ℕ) → i < 1024 → get_or (tables C) (1264 + i) 0 < 1024
  unfolding stay_on
  stay-at i h =
      let e : 1264 + i ≡ 1264 + (i / 128 * 128 + i % 128) = omega arith in
      let is : get_or (tables C) (1264 + i) 0 ≡ stay_on C (i / 128) (i % 128) = ap (λ (y : ℕ). get_or (tables C) y 0) e ∙ table-stay C (i / 128) (i % 128) (omega arith) (omega arith) in
      omega (arith, planned-low C.head.last_minute (place_of (i % 128)) (way C (i / 128)) (way-planned C sound (i / 128)), sound.in_window, is)

  some-delay : (ps : List Pair) → sum (λ p. p.weight) ps ≡ 100 → 1 ≤ length ps
  some-delay [] h = absurd (omega arith)
  some-delay (p ∷ ps) h = omega arith

  pub tables_ways : Ways (tables C)
  tables_ways = record {
    stays = stay-at;
    nexts = λ i h. omega (arith, next-at i h, next_small C sound (i / 128) (i % 128));
    one_place = λ i j h l a b k low same.
        (let train : next_code C (i / 128) (j % 128) ≡ get_or (tables C) (240 + i) 0 = ap (λ (y : ℕ). next_code C y (j % 128)) k ∙ sym (next-at j l) ∙ sym same in
        let p : i % 128 ≡ j % 128 = same-before (i / 128) (i % 128) (j % 128) (get_or (tables C) (240 + i) 0) a b low (sym (next-at i h)) train in
        omega arith);
    delays = λ k h. (let few : k < length C.trains = omega (arith, table-trains C) in
        omega (arith, table-delays C k few (omega (arith, sound.few_trains)), some-delay (get_or C.tables k []) (sound.hundred k few)));
    pairs = record { alone = first_alone C sound; low = λ e h. partner-low C sound e; back = λ e h some. partner-back C sound e some };
  }
