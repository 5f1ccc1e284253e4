-- What the joint run asks of the tables of a sound case: words in range, and weights of which those of any set of delays are at most 100.
-- A part of a train's weights is at most their sum. Assumes nothing.
use Rattle.std.specs.Prelude.{◌≡◌, refl, Bool, true, false, cond, List, [], ◌∷◌, ℕ, zero, suc, ◌+◌, ◌*◌, ◌/◌, ◌%◌, ◌≤◌, ◌<◌, length, get_or, ltb, eqb}
use Rattle.std.proofs.Common.{ap, ◌∙◌, arith, ltb-true}
use Rattle.std.proofs.Math.Decide.{dec_lt}
use Rattle.std.proofs.Math.ListN.{get_or-eq_default}
use Rattle.rules.specs.Lists.{sum, span, below}
use Rattle.rules.specs.Files.{Pair, Case}
use Rattle.rules.specs.Single.{pair_at}
use Rattle.theory_sound.specs.Facts.{Sound}
use Rattle.theory_lists.specs.Every.{Every, every_anywhere}
use Rattle.theory_lists.specs.Sums.{sum-zero}
use Rattle.theory_lists.specs.Below.{sum-span-suc}
use Rattle.theory_codes.specs.Tables.{order, tables}
use Rattle.theory_passes.specs.Bounds.{ByteDelays}
use Rattle.theory_passes.specs.Order.{order-known}
use Rattle.single_laws.specs.Low.{Low, tables-low}
use Rattle.weigh.specs.Weigh.{set_weight, Small}
use Rattle.theory_codes.specs.Lookups.{word_for, words-order, words-delays, table-trains, table-safety, table-weight}

-- ---- weights of a set

-- a part of n words is at most their sum
set-most : (T : List ℕ) (g : ℕ → ℕ) (n i k x : ℕ) → ((d : ℕ) → d < n → get_or T (i + d) 0 ≡ g (k + d)) → set_weight T i n x ≤ sum g (span n k)
unfolding set_weight
set-most T g zero i k x h = omega arith
set-most T g (suc n) i k x h =
    let here : get_or T i 0 ≡ g k =
    (let p : i ≡ i + 0 = omega arith in let q : k + 0 ≡ k = omega arith in ap (λ (j : ℕ). get_or T j 0) p ∙ h 0 (omega arith) ∙ ap g q) in
    let rest : set_weight T (suc i) n (x / 2) ≤ sum g (span n (suc k)) =
    set-most T g n (suc i) (suc k) (x / 2)
    (λ d l. let p : suc i + d ≡ i + suc d = omega arith in let q : k + suc d ≡ suc k + d = omega arith in
    ap (λ (j : ℕ). get_or T j 0) p ∙ h (suc d) (omega arith) ∙ ap g q) in
    go (eqb (x % 2) 1) here rest
  where
    go : (b : Bool) → get_or T i 0 ≡ g k → set_weight T (suc i) n (x / 2) ≤ sum g (span n (suc k)) → cond b (get_or T i 0) 0 + set_weight T (suc i) n (x / 2) ≤ g k + sum g (span n (suc k))
    go true e r = omega arith
    go false e r = omega arith

abbrev no_pair : Pair
no_pair = record { delay = 0; weight = 0 }

-- the first n places of a table weigh at most what it weighs
places-most : (ps : List Pair) (n : ℕ) → sum (λ d. (get_or ps d no_pair).weight) (below n) ≤ sum (λ p. p.weight) ps
places-most [] n = omega (arith, sum-zero (below n))
places-most (p ∷ ps) zero = omega arith
places-most (p ∷ ps) (suc n) = omega (arith, sum-span-suc (λ d. (get_or (p ∷ ps) d no_pair).weight) n 0, places-most ps n)

module _ (C : Case) (sound : Sound C) (bytes : ByteDelays C) where
  word-few : (f : ℕ → ℕ) (n k : ℕ) → (k < length C.trains → f k ≤ n) → word_for C f k ≤ n
  word-few f n k h = go (ltb k (length C.trains)) refl
    where
      go : (b : Bool) → ltb k (length C.trains) ≡ b → cond b (f k) 0 ≤ n
      go true q = h (ltb-true k (length C.trains) q)
      go false q = omega arith

  pairs_weigh : (k : ℕ) → sum (λ p. p.weight) (get_or C.tables k []) ≤ 100
  pairs_weigh k = go (dec_lt k (length C.trains))
    where
      go : Dec (k < length C.trains) → sum (λ p. p.weight) (get_or C.tables k []) ≤ 100
      go (yes l) = omega (arith, sound.hundred k l)
      go (no l) =
          let none : get_or C.tables k [] ≡ [] = get_or-eq_default C.tables [] {n = k} (omega (arith, sound.tabled)) in
          omega (arith, ap (λ (ps : List Pair). sum (λ p. p.weight) ps) none)

  order-few : (k : ℕ) → get_or (order C) k 0 ≤ 6
  order-few k = known_at (order C) (order-known C) k
    where
      known_at : (l : List ℕ) → Every (λ j. j < length C.trains) l → (i : ℕ) → get_or l i 0 ≤ 6
      known_at [] h i = omega arith
      known_at (j ∷ l) h zero = omega (arith, h.0, sound.few_trains)
      known_at (j ∷ l) h (suc i) = known_at l h.1 i

  pub tables-small : Small (tables C)
  tables-small = record {
    words = λ i. every_anywhere Low (tables C) 0 (omega arith) (tables-low C sound bytes) i;
    trains = omega (arith, table-trains C, sound.few_trains);
    safety = omega (arith, table-safety C, sound.head_sound.short_safety);
    order = λ i l. omega (arith, words-order C i l, word-few (λ j. get_or (order C) j 0) 6 i (λ h. order-few i));
    delays = λ k l. omega (arith, words-delays C k l, word-few (λ j. length (get_or C.tables j [])) 8 k (λ h. sound.few_pairs k h));
    weights =
        λ j x l. omega (
          arith,
          set-most (tables C) (λ d. (pair_at C j d).weight) 8 (112 + j * 8) 0 x
              (λ d m. let p : 112 + j * 8 + d ≡ 112 + (j * 8 + d) = omega arith in let q : d ≡ 0 + d = omega arith in
              ap (λ (i : ℕ). get_or (tables C) i 0) p ∙ table-weight C j d l m ∙ ap (λ (i : ℕ). (pair_at C j i).weight) q),
          places-most (get_or C.tables j []) 8,
          pairs_weigh j,
        );
  }
