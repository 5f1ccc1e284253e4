-- Whether an element lets a train in is tested on the words as 01 and request 1 of 02 test it: how many trains are on it, and how many on its partner.
-- Marks are on places that have codes, so sums over them are told by codes. The rule asks for another train on the partner; the asker's own is never there,
-- since no way has both tracks of a pair. Assumes nothing.
use Rattle.std.specs.Prelude.{◌≡◌, true, false, ◌&&◌, ◌||◌, cond, List, [], ◌∷◌, length, get_or}
use Rattle.std.proofs.Math.Path.{refl, sym, ap, ap₂}
use Rattle.std.proofs.Common.{◌∙◌, mul-zero, arith, lt-ltb, eq-eqb, ne_eqb}
use Rattle.std.proofs.Math.Bool.{Bool, not, and-false}
use Prim.Native.Nat.{ℕ, ◌+◌, ◌*◌, ◌≤◌, ◌<◌}
use Rattle.std.proofs.Math.Nat.{mul-one}
use Rattle.std.proofs.Math.Dec.{ltb, eqb}
use Rattle.std.proofs.lemmas.Bool.{eqb-false}
use Rattle.rules.specs.Lists.{any, tick, sum, count, below}
use Rattle.rules.specs.Files.{Case}
use Rattle.rules.specs.Turns.{Place, same, Mark, ahead, head_is, capacity, paired, asks, State}
use Rattle.rules.specs.Turns.Place.{gone}
use Rattle.rules.specs.Single.{partner_held}
use Rattle.rules.specs.Demands.{is_at}
use Rattle.theory_lists.specs.Sums.{sum_plus, sum_same, sum-zero}
use Rattle.theory_lists.specs.Below.{sum-below_in}
use Rattle.theory_sound.specs.Facts.{Sound}
use Rattle.theory_sound.specs.Ways.{same_self}
use Rattle.theory_sound.specs.Couples.{partner_off}
use Rattle.theory_simulation.specs.Places.{asked}
use Rattle.theory_simulation.specs.Orderly.{is_on, to_go, is_before, reach}
use Rattle.theory_codes.specs.Codes.{place_of}
use Rattle.theory_codes.specs.Tables.{tables}
use Rattle.theory_codes.specs.Places.{Coded, place-coded, code_test, same-element}
use Rattle.theory_codes.specs.Lookups.{table-trains, table-capacity}
use Rattle.theory_codes.specs.Partners.{paired_code, partner-low}
use Rattle.theory_passes.specs.Passes.{admits}
use Rattle.theory_passes.specs.Single.{InOrder}
use Rattle.moving.specs.Words.{holding, crowd, partner_of, across, lets}
use Rattle.single_laws.specs.Sums.{sum_below_lem, sum_term}
use Rattle.single_laws.specs.Shows.{stands_in, end_in, block_in, block_term, stands_sum, blocks_sum, Shows}

-- of two parts that are at most 1 together, the second has a term of 1
nothing_else : (all first second stand block term : ℕ) → all ≤ 1 → all ≡ first + second → second ≡ stand + block → term ≤ stand → term ≡ 1 → first ≡ 0
nothing_else all first second stand block term a b c d e = omega arith

-- none passes the test where as many as 0 do
none-counted : (test : Mark → Bool) (ms : List Mark) → eqb (count test ms) 0 ≡ not (any test ms)
none-counted test [] = refl
none-counted test (m ∷ ms) = go (test m) (none-counted test ms)
  where
    go : (b : Bool) → eqb (count test ms) 0 ≡ not (any test ms) → eqb (tick b + count test ms) 0 ≡ not (b || any test ms)
    go true ih = ne_eqb (1 + count test ms) 0 (λ q. omega arith)
    go false ih = let e : 0 + count test ms ≡ count test ms = omega arith in ap (λ (n : ℕ). eqb n 0) e ∙ ih

-- the marks that pass a test are those of train k and those of the others
by_train : (k : ℕ) (test : Mark → Bool) (ms : List Mark)
    → count test ms ≡ count (λ m. eqb m.train k && test m) ms + count (λ m. not (eqb m.train k) && test m) ms
by_train k test ms =
    sum_same (λ m. tick (test m)) (λ m. tick (eqb m.train k && test m) + tick (not (eqb m.train k) && test m)) (λ m. go (eqb m.train k) (test m)) ms
    ∙ sum_plus (λ m. tick (eqb m.train k && test m)) (λ m. tick (not (eqb m.train k) && test m)) ms
  where
    go : (a b : Bool) → tick b ≡ tick (a && b) + tick (not a && b)
    go true true = refl
    go true false = refl
    go false true = refl
    go false false = refl

module _ (C : Case) (sound : Sound C) (t : ℕ) (w : List ℕ) (s : State Mark) (h : Shows C t w s) where
  abbrev n : ℕ
  n = length C.trains

  -- ---- sums by codes

  -- what is equal of marks on places that have codes gives equal sums
  by_codes : (f g : Mark → ℕ) → ((m : Mark) → Coded m.place → f m ≡ g m) → sum f s.list ≡ sum g s.list
  by_codes f g e =
      h.sums f
      ∙ ap₂ ◌+◌
      (sum_below_lem (λ k. f (stands_in w k)) (λ k. g (stands_in w k)) n (λ k l. e (stands_in w k) (place-coded (get_or w k 0))))
      (sum_below_lem (λ i. sum (block_term t w f i) (below n)) (λ i. sum (block_term t w g i) (below n)) 65
      (λ i l. sum_below_lem (block_term t w f i) (block_term t w g i) n (λ k m. ap (λ (x : ℕ). tick (ltb t (end_in w i k)) * x) (e (block_in w i k) (place-coded i)))))
      ∙ sym (h.sums g)

  -- ---- the crowd

  -- the marks on an element
  crowd-count : (e : ℕ) → e ≤ 64 → crowd (tables C) t e w ≡ count (is_on (place_of e)) s.list
  unfolding crowd holding
  crowd-count e few =
      ap (λ (m : ℕ). sum (λ k. tick (eqb (get_or w k 0) e) + tick (ltb t (end_in w e k))) (below m)) (table-trains C)
      ∙ sum_plus (λ k. tick (eqb (get_or w k 0) e)) (λ k. tick (ltb t (end_in w e k))) (below n)
      ∙ sym (
      h.sums on
      ∙ ap₂ ◌+◌
      (sum_below_lem (λ k. on (stands_in w k)) (λ k. tick (eqb (get_or w k 0) e)) n (λ k l. ap tick (same-element (get_or w k 0) e few)))
      (sum-below_in (λ i. sum (block_term t w on i) (below n)) e other 65 (omega arith)
      ∙ sum_below_lem (block_term t w on e) (λ k. tick (ltb t (end_in w e k))) n
      (λ k l. ap (λ (b : Bool). tick (ltb t (end_in w e k)) * tick b) (same_self (place_of e)) ∙ mul-one (tick (ltb t (end_in w e k)))))
      )
    where
      on : Mark → ℕ
      on m = tick (is_on (place_of e) m)

      other : (i : ℕ) → (i ≡ e → ⊥) → sum (block_term t w on i) (below n) ≡ 0
      other i d =
          sum_below_lem (block_term t w on i) (λ k. 0) n
          (λ k l. ap (λ (b : Bool). tick (ltb t (end_in w i k)) * tick b) (same-element i e few ∙ ne_eqb i e d) ∙ mul-zero (tick (ltb t (end_in w i k))))
          ∙ sum-zero (below n)

  module _ (e : ℕ) (few : e ≤ 64) where
    -- ---- the partner

    abbrev partner : ℕ
    partner = partner_of (tables C) e

    partner-most : partner ≤ 64
    partner-most = omega (arith, partner-low C sound e)

    -- a place that has a code is the partner of e where the tables name it
    partner-is : (p : Place) → Coded p → paired C (place_of e) p ≡ cond (eqb partner 0) false (same p (place_of partner))
    partner-is p coded = paired_code C sound e p few coded ∙ ap (cond (eqb partner 0) false) (code_test p partner coded (omega (arith, partner-most)))

    -- of some marks, those on the partner of e
    abbrev across_of : (Mark → Bool) → Mark → Bool
    across_of test m = test m && paired C (place_of e) m.place

    across-marks : (test : Mark → Bool) → count (across_of test) s.list ≡ cond (eqb partner 0) 0 (count (λ m. test m && is_on (place_of partner) m) s.list)
    across-marks test = go (eqb partner 0) refl
      where
        at : (b : Bool) → eqb partner 0 ≡ b → (m : Mark) → Coded m.place → tick (across_of test m) ≡ tick (test m && cond b false (is_on (place_of partner) m))
        at b q m coded = ap (λ (z : Bool). tick (test m && z)) (partner-is m.place coded ∙ ap (λ (y : Bool). cond y false (is_on (place_of partner) m)) q)

        go : (b : Bool) → eqb partner 0 ≡ b → count (across_of test) s.list ≡ cond b 0 (count (λ m. test m && is_on (place_of partner) m) s.list)
        go true q =
            by_codes (λ m. tick (across_of test m)) (λ m. 0) (λ m coded. at true q m coded ∙ ap tick (and-false (test m))) ∙ sum-zero s.list
        go false q = by_codes (λ m. tick (across_of test m)) (λ m. tick (test m && is_on (place_of partner) m)) (at false q)

    across-count : across (tables C) t e w ≡ count (across_of (λ m. true)) s.list
    unfolding across
    across-count = ap (cond (eqb partner 0) 0) (crowd-count partner partner-most) ∙ sym (across-marks (λ m. true))

    way_out : same (place_of e) gone ≡ eqb e 64
    unfolding place_of
    way_out = same-element e 64 (omega arith)

    -- ---- train k asks for e

    module _ (k : ℕ) (low : k < n) (o : InOrder C s) (ask : asks C t (place_of e) (stands_in w k) ≡ true) where
      -- it is not on a partner of e, which has less of its way ahead: a train is not on what it has yet to come to
      asker_off : (p : Place) → paired C (place_of e) p ≡ true → count (is_at k p) s.list ≡ 0
      asker_off p pair =
          nothing_else (sum (reach C k p) s.list) (count (is_at k p) s.list) (count (is_before C k p) s.list)
          (stands_sum n w before) (blocks_sum n t w before) (before (stands_in w k))
          (o.reach_once k p)
          (sum_plus (λ m. tick (is_at k p m)) before s.list)
          (h.sums before)
          (sum_term (λ j. before (stands_in w j)) n k low)
          (ap₂ (λ (y z : Bool). tick ((y && true) && z)) (eq-eqb k k refl) (lt-ltb (to_go C k p) (to_go C k here) less))
        where
          before : Mark → ℕ
          before m = tick (is_before C k p m)

          here : Place
          here = place_of (get_or w k 0)

          goes : head_is (place_of e) (ahead C k here) ≡ true
          goes = (asked C t (place_of e) (stands_in w k) ask).goes

          less : to_go C k p < to_go C k here
          less = omega (arith, ap length (partner_off C sound k here (place_of e) p goes pair), sound.onward k here (place_of e) goes)

      asker_none : count (across_of (λ m. eqb m.train k)) s.list ≡ 0
      asker_none = across-marks (λ m. eqb m.train k) ∙ go (eqb partner 0) refl
        where
          go : (b : Bool) → eqb partner 0 ≡ b → cond b 0 (count (is_at k (place_of partner)) s.list) ≡ 0
          go true q = refl
          go false q =
              asker_off (place_of partner)
              (partner-is (place_of partner) (place-coded partner) ∙ ap₂ (λ (y z : Bool). cond y false z) q (same_self (place_of partner)))

      -- so the partner holds nobody where it holds no other train
      free-across : eqb (across (tables C) t e w) 0 ≡ not (partner_held C (place_of e) k s.list)
      unfolding partner_held
      free-across =
          let others = count (across_of (λ m. not (eqb m.train k))) s.list in
          let all : across (tables C) t e w ≡ others = omega (arith, across-count, by_train k (across_of (λ m. true)) s.list, asker_none) in
          ap (λ (x : ℕ). eqb x 0) all ∙ none-counted (across_of (λ m. not (eqb m.train k))) s.list

      -- it is let in where the rule lets it in
      pub lets-admits : lets (tables C) t e w ≡ admits C (place_of e) k s.list
      unfolding lets admits
      lets-admits = go (eqb e 64) refl ∙ ap (λ (b : Bool). b || meant) (sym way_out)
        where
          -- as the words test it
          shown : Bool
          shown = ltb (crowd (tables C) t e w) (get_or (tables C) (176 + e) 0) && eqb (across (tables C) t e w) 0

          -- as the marks do
          meant : Bool
          meant = ltb (count (is_on (place_of e)) s.list) (capacity C (place_of e)) && not (partner_held C (place_of e) k s.list)

          go : (b : Bool) → eqb e 64 ≡ b → (b || shown) ≡ (b || meant)
          go true q = refl
          go false q =
              let other : e ≡ 64 → ⊥ = eqb-false e 64 q in
              ap₂ ◌&&◌ (ap₂ ltb (crowd-count e few) (table-capacity C e (omega arith))) free-across
