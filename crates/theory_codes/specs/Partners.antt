-- Partners and their codes: two places are the two tracks of a pair where the tables name the code of the one as the partner of the other.
-- A track stands in one couple at most, so the first couple that has it settles the search. Takes `Sound` as given, and assumes nothing else.
use Rattle.std.specs.Prelude.{◌≡◌, Bool, ◌&&◌, ◌||◌, ℕ, ◌+◌, ◌-◌, ◌≤◌, ◌<◌, ltb}
use Rattle.std.proofs.Math.Path.{refl, sym, ap₂}
use Rattle.std.proofs.Common.{ap, ◌∙◌, eqb-true, eq-eqb, ne_eqb, ltb-true, ltb-false}
use Rattle.std.proofs.Math.Bool.{true, false, cond, and-false, or-false}
use Rattle.std.proofs.lemmas.Bool.{false≢true}
use mathlib.Core.List.{List, [], ◌∷◌}
use Rattle.std.proofs.Math.Decide.{dec_lt}
use native.Mathlib.Omega.{arith}
use Rattle.std.proofs.Math.ListN.{get_or}
use Rattle.std.proofs.Math.Dec.{eqb}
use Rattle.rules.specs.Lists.{any, has}
use Rattle.rules.specs.Files.{Couple, Case, repeats, coupled}
use Rattle.rules.specs.Turns.{Place, same, names, paired}
use Rattle.rules.specs.Turns.Place.{outside, station, track, gone}
use Rattle.theory_lists.specs.Every.{Every, every_more}
use Rattle.theory_lists.specs.Tests.{or_false-first, or_false-second}
use Rattle.theory_sound.specs.Facts.{Sound}
use Rattle.theory_sound.specs.Couples.{paired-turn}
use Rattle.theory_codes.specs.Codes.{code_of, place_of}
use Rattle.theory_codes.specs.Tables.{partner_in, partner_code, tables}
use Rattle.theory_codes.specs.Places.{Coded, code_test, place_code, code_place, place-coded}
use Rattle.theory_codes.specs.Lookups.{table-partner, table-past}

-- the element whose partner has the code w, 0 for none, is the partner of the place with the code c
abbrev pub is_partner : ℕ → ℕ → Bool
is_partner w c = cond (eqb w 0) false (eqb c w)

-- both tracks have codes
record Small (c : Couple) : Type 0 where
  first : c.first < 40
  second : c.second < 40

-- ---- a place that is no track has no partner

-- the couple has e and p, in either order
abbrev has_both : Place → Place → Couple → Bool
has_both e p c = names e p c || names p e c

alone-one : (e p : Place) → ((i : ℕ) → same e (track i) ≡ false) → (c : Couple) → has_both e p c ≡ false
unfolding names
alone-one e p h c =
    ap₂ (λ (a b : Bool). (a && same p (track c.second)) || (same p (track c.first) && b)) (h c.first) (h c.second)
    ∙ and-false (same p (track c.first))

alone-all : (e p : Place) → ((i : ℕ) → same e (track i) ≡ false) → (cs : List Couple) → any (has_both e p) cs ≡ false
alone-all e p h [] = refl
alone-all e p h (c ∷ cs) = ap₂ (λ (a b : Bool). a || b) (alone-one e p h c) (alone-all e p h cs)

-- ---- a track

module _ (j : ℕ) (p : Place) (coded : Coded p) where
  -- what stands in the couple beside track j is its partner
  beside : (i : ℕ) → i < 40 → same p (track i) ≡ is_partner (24 + i) (code_of p)
  beside i h =
      ap (same p) (sym (place_code (track i) h))
      ∙ sym (code_test p (24 + i) coded (omega arith))
      ∙ sym (ap (λ (b : Bool). cond b false (eqb (code_of p) (24 + i))) (ne_eqb (24 + i) 0 (λ e. omega arith)))

  both_is : (c : Couple) → has_both (track j) p c ≡ ((eqb j c.first && same p (track c.second)) || (same p (track c.first) && eqb j c.second))
  unfolding names same
  both_is c = refl

  -- a track that stands in none of the couples
  none_has : (cs : List Couple) → has (coupled cs) j ≡ false → any (has_both (track j) p) cs ≡ false
  unfolding coupled
  none_has [] h = refl
  none_has (c ∷ cs) h =
      let here : eqb j c.first ≡ false = or_false-first (eqb j c.first) (eqb j c.second || has (coupled cs) j) h in
      let more = or_false-second (eqb j c.first) (eqb j c.second || has (coupled cs) j) h in
      let there : eqb j c.second ≡ false = or_false-first (eqb j c.second) (has (coupled cs) j) more in
      ap₂ (λ (a b : Bool). a || b)
      (both_is c ∙ ap₂ (λ (a b : Bool). (a && same p (track c.second)) || (same p (track c.first) && b)) here there ∙ and-false (same p (track c.first)))
      (none_has cs (or_false-second (eqb j c.second) (has (coupled cs) j) more))

  found : (cs : List Couple) → Every Small cs → repeats (coupled cs) ≡ false → any (has_both (track j) p) cs ≡ is_partner (partner_in j cs) (code_of p)
  unfolding coupled
  found [] s h = refl
  found (c ∷ cs) s h = go (eqb j c.first) (eqb j c.second) refl refl (found cs s.1)
    where
      -- neither track of the couple stands in it again, nor in another one
      twice : (eqb c.first c.second || has (coupled cs) c.first) ≡ false
      twice = or_false-first (eqb c.first c.second || has (coupled cs) c.first) (has (coupled cs) c.second || repeats (coupled cs)) h

      others : (has (coupled cs) c.second || repeats (coupled cs)) ≡ false
      others = or_false-second (eqb c.first c.second || has (coupled cs) c.first) (has (coupled cs) c.second || repeats (coupled cs)) h

      rest : repeats (coupled cs) ≡ false
      rest = or_false-second (has (coupled cs) c.second) (repeats (coupled cs)) others

      apart : j ≡ c.first → eqb j c.second ≡ false
      apart e = ap (λ (i : ℕ). eqb i c.second) e ∙ or_false-first (eqb c.first c.second) (has (coupled cs) c.first) twice

      go : (a b : Bool) → eqb j c.first ≡ a → eqb j c.second ≡ b
          → (repeats (coupled cs) ≡ false → any (has_both (track j) p) cs ≡ is_partner (partner_in j cs) (code_of p))
          → (has_both (track j) p c || any (has_both (track j) p) cs) ≡ is_partner (cond a (24 + c.second) (cond b (24 + c.first) (partner_in j cs))) (code_of p)
      go true b f g ih =
          let is : j ≡ c.first = eqb-true j c.first f in
          let no = none_has cs (ap (has (coupled cs)) is ∙ or_false-second (eqb c.first c.second) (has (coupled cs) c.first) twice) in
          ap₂ (λ (x y : Bool). x || y) (both_is c) no
          ∙ or-false ((eqb j c.first && same p (track c.second)) || (same p (track c.first) && eqb j c.second))
          ∙ ap₂ (λ (x y : Bool). (x && same p (track c.second)) || (same p (track c.first) && y)) f (apart is)
          ∙ ap (λ (x : Bool). same p (track c.second) || x) (and-false (same p (track c.first)))
          ∙ or-false (same p (track c.second))
          ∙ beside c.second s.0.second
      go false true f g ih =
          let no = none_has cs (ap (has (coupled cs)) (eqb-true j c.second g) ∙ or_false-first (has (coupled cs) c.second) (repeats (coupled cs)) others) in
          ap₂ (λ (x y : Bool). x || y) (both_is c) no
          ∙ or-false ((eqb j c.first && same p (track c.second)) || (same p (track c.first) && eqb j c.second))
          ∙ ap₂ (λ (x y : Bool). (x && same p (track c.second)) || (same p (track c.first) && y)) f g
          ∙ first_only (same p (track c.first))
          ∙ beside c.first s.0.first
        where
          first_only : (x : Bool) → (x && true) ≡ x
          first_only true = refl
          first_only false = refl
      go false false f g ih =
          ap₂ (λ (x y : Bool). x || y)
          (both_is c ∙ ap₂ (λ (x y : Bool). (x && same p (track c.second)) || (same p (track c.first) && y)) f g ∙ and-false (same p (track c.first)))
          (ih rest)

-- ---- of a case

module _ (C : Case) (sound : Sound C) where
  couples-small : Every Small C.couples
  couples-small = every_more _ Small (λ c s. record { first = omega (arith, s.known_first, sound.few_tracks); second = omega (arith, s.known_second, sound.few_tracks) }) C.couples sound.couples_sound

  partner_in_lem : (j : ℕ) (cs : List Couple) → Every Small cs → partner_in j cs < 64
  partner_in_lem j [] s = omega arith
  partner_in_lem j (c ∷ cs) s = go (eqb j c.first) (eqb j c.second) (partner_in_lem j cs s.1)
    where
      go : (a b : Bool) → partner_in j cs < 64 → cond a (24 + c.second) (cond b (24 + c.first) (partner_in j cs)) < 64
      go true b h = omega (arith, s.0.second)
      go false true h = omega (arith, s.0.first)
      go false false h = h

  -- a partner is a track
  pub partner-few : (e : ℕ) → partner_code C e < 64
  unfolding partner_code
  partner-few e = go (ltb e 24)
    where
      go : (b : Bool) → cond b 0 (partner_in (e - 24) C.couples) < 64
      go true = omega arith
      go false = partner_in_lem (e - 24) C.couples couples-small

  -- an element's partners are the places whose code the tables name
  pub paired_code : (e : ℕ) (p : Place) → e ≤ 64 → Coded p → paired C (place_of e) p ≡ is_partner (get_or (tables C) (2288 + e) 0) (code_of p)
  unfolding paired place_of partner_code same
  paired_code e p h coded = go (ltb e 24) (ltb e 64) refl refl
    where
      no_track_lem : (q : Place) → ((i : ℕ) → same q (track i) ≡ false) → get_or (tables C) (2288 + e) 0 ≡ 0 → any (has_both q p) C.couples ≡ is_partner (get_or (tables C) (2288 + e) 0) (code_of p)
      no_track_lem q a z = alone-all q p a C.couples ∙ sym (ap (λ (w : ℕ). is_partner w (code_of p)) z)

      go : (a b : Bool) → ltb e 24 ≡ a → ltb e 64 ≡ b
          → any (has_both (cond a (station e) (cond b (track (e - 24)) (cond (eqb e 64) gone outside))) p) C.couples ≡ is_partner (get_or (tables C) (2288 + e) 0) (code_of p)
      go true b f g =
          no_track_lem (station e) (λ i. no_station i)
          (table-partner C e (omega (arith, ltb-true e 24 f)) ∙ ap (λ (x : Bool). cond x 0 (partner_in (e - 24) C.couples)) f)
        where
          no_station : (i : ℕ) → same (station e) (track i) ≡ false
          no_station i = refl
      go false true f g =
          found (e - 24) p coded C.couples couples-small sound.coupled_once
          ∙ ap (λ (w : ℕ). is_partner w (code_of p)) (sym (table-partner C e (ltb-true e 64 g) ∙ ap (λ (x : Bool). cond x 0 (partner_in (e - 24) C.couples)) f))
      go false false f g =
          let out : e ≡ 64 = omega (arith, ltb-false e 64 g) in
          ap (λ (b : Bool). any (has_both (cond b gone outside) p) C.couples) (eq-eqb e 64 out)
          ∙ no_track_lem gone (λ i. no_way-out i) (table-past C e (omega arith))
        where
          no_way-out : (i : ℕ) → same gone (track i) ≡ false
          no_way-out i = refl

  abbrev partner : ℕ → ℕ
  partner e = get_or (tables C) (2288 + e) 0

  -- as the tables name it
  pub partner-low : (e : ℕ) → partner e < 64
  partner-low e = by (dec_lt e 64)
    where
      by : Dec (e < 64) → partner e < 64
      by (yes h) = omega (arith, table-partner C e h, partner-few e)
      by (no h) = omega (arith, table-past C e (omega arith))

  -- element 0, a station, has none
  pub first_alone : partner 0 ≡ 0
  unfolding partner_code
  first_alone = table-partner C 0 (omega arith)

  -- each is the other's
  pub partner-back : (e : ℕ) → (partner e ≡ 0 → ⊥) → partner (partner e) ≡ e
  partner-back e some = by (dec_lt e 64)
    where
      w : ℕ
      w = partner e

      is-partner : (x c : ℕ) → is_partner x c ≡ true → c ≡ x
      is-partner x c = go (eqb x 0)
        where
          go : (b : Bool) → cond b false (eqb c x) ≡ true → c ≡ x
          go true h = absurd (false≢true h)
          go false h = eqb-true c x h

      by : Dec (e < 64) → partner w ≡ e
      by (no h) = absurd (some (table-past C e (omega arith)))
      by (yes h) =
          let low : w ≤ 64 = omega (arith, partner-low e) in
          let there : is_partner w (code_of (place_of w)) ≡ true =
          ap (is_partner w) (code_place w (omega arith)) ∙ ap (λ (b : Bool). cond b false (eqb w w)) (ne_eqb w 0 some) ∙ eq-eqb w w refl in
          let pair : paired C (place_of e) (place_of w) ≡ true = paired_code e (place_of w) (omega arith) (place-coded w) ∙ there in
          let turned : is_partner (partner w) (code_of (place_of e)) ≡ true =
          sym (paired_code w (place_of e) low (place-coded e)) ∙ paired-turn C (place_of w) (place_of e) ∙ pair in
          sym (sym (code_place e (omega arith)) ∙ is-partner (partner w) (code_of (place_of e)) turned)
