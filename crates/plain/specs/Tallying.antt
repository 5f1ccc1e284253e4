-- What a choice's arrivals add to the words: to the word of each train that has arrived, in the minute of its arrival, the choice's weight; to every other word
-- nothing. So after the choices of a part the words are what the part adds, and none has wrapped. Assumes nothing.
use Rattle.std.specs.Prelude.{◌≡◌, ℕ, zero, suc, ◌+◌, ◌-◌, ◌*◌, ◌%◌, ◌^◌, ◌<◌, ◌≤◌, Bool, true, false, cond, ◌&&◌, List, length, ◌==◌, ◌≢◌, nat_eq, slice_index, slice_index_or, slice_set}
use Rattle.std.proofs.Math.Path.{refl, ap}
use Rattle.std.proofs.Common.{sym, ap₂, ◌∙◌, arith, length-set, get_or-set_same, get_or-set_other, eqb-true, ne_eqb}
use Rattle.std.proofs.Math.Bool.{and-false}
use Rattle.std.proofs.lemmas.Bool.{eqb-false}
use Rattle.rules.specs.Lists.{fold, span}
use Rattle.rules.specs.Demands.{is_in}
use Rattle.single_laws.specs.Shows.{minute_in}
use Rattle.plain.specs.Words.{Timely, arrived_in, tallied_in}

-- the word, raised if the test passes
abbrev raised : Bool → ℕ → ℕ → ℕ
raised b weight old = cond b ((old + weight) % 2 ^ 64) old

arrived-length : (k after weight : ℕ) (ws : List ℕ) → length (arrived_in k after weight ws) ≡ length ws
unfolding arrived_in
arrived-length k after weight ws = go (after == 0)
  where
    go : (b : Bool) → length (cond b ws (slice_set ws (k * 720 + (after - 1)) ((slice_index ws (k * 720 + (after - 1)) + weight) % 2 ^ 64))) ≡ length ws
    go true = refl
    go false = length-set ws (k * 720 + (after - 1)) ((slice_index ws (k * 720 + (after - 1)) + weight) % 2 ^ 64)

-- what train k adds
abbrev step : List ℕ → ℕ → ℕ → List ℕ → List ℕ
step run weight k u = arrived_in k (slice_index run (16 + k)) weight u

tallied_length : (run : List ℕ) (weight n i : ℕ) (ws : List ℕ) → length (fold (step run weight) (span n i) ws) ≡ length ws
tallied_length run weight zero i ws = refl
tallied_length run weight (suc n) i ws = tallied_length run weight n (suc i) (step run weight i ws) ∙ arrived-length i (slice_index run (16 + i)) weight ws

pub tallied_size : (T run : List ℕ) (weight : ℕ) (ws : List ℕ) → length (tallied_in T run weight ws) ≡ length ws
unfolding tallied_in
tallied_size T run weight ws = tallied_length run weight (slice_index T 0) 0 ws

module _ (j t : ℕ) (train : j < 8) (minute : t < 720) where
  abbrev place : ℕ
  place = j * 720 + t

  -- one train
  arrived-word : (k after weight : ℕ) (ws : List ℕ) → length ws ≡ 5760 → k < 8 → after ≤ 720
      → slice_index (arrived_in k after weight ws) place ≡ raised (j == k && is_in t (minute_in after)) weight (slice_index ws place)
  unfolding arrived_in
  arrived-word k zero weight ws size l m = ap (λ (b : Bool). raised b weight (slice_index ws place)) (sym (and-false (j == k)))
  arrived-word k (suc u) weight ws size l m = ap (λ (b : Bool). slice_index (cond b ws (slice_set ws here value)) place) (ne_eqb (suc u) 0 (λ h. omega arith)) ∙ go (j == k) (u == t) refl refl
    where
      here : ℕ
      here = k * 720 + (suc u - 1)

      value : ℕ
      value = (slice_index ws here + weight) % 2 ^ 64

      go : (a b : Bool) → (j == k) ≡ a → (u == t) ≡ b → slice_index (slice_set ws here value) place ≡ raised (a && b) weight (slice_index ws place)
      go true true p q =
          let train_same : j ≡ k = eqb-true j k p in
          let minute_same : u ≡ t = eqb-true u t q in
          let same : place ≡ here = omega (arith, ap (λ (i : ℕ). i * 720) train_same) in
          ap (λ (i : ℕ). slice_index (slice_set ws here value) i) same
          ∙ get_or-set_same ws here value 0 (omega arith)
          ∙ ap (λ (i : ℕ). (slice_index ws i + weight) % 2 ^ 64) (sym same)
      go true false p q =
          let train_same : j ≡ k = eqb-true j k p in
          let other : u ≡ t → ⊥ = eqb-false u t q in
          get_or-set_other ws here place value 0 (λ e. other (omega (arith, ap (λ (i : ℕ). i * 720) train_same)))
      go false b p q =
          let other : j ≡ k → ⊥ = eqb-false j k p in
          get_or-set_other ws here place value 0 (λ e. other (omega arith))

  module _ (run : List ℕ) (weight all : ℕ) (few : all ≤ 8) (low : (k : ℕ) → k < all → slice_index run (16 + k) ≤ 720) where
    -- trains that are all others
    tallied_others : (n i : ℕ) (ws : List ℕ) → length ws ≡ 5760 → i + n ≤ all → ((k : ℕ) → i ≤ k → k < i + n → j ≢ k) → slice_index (fold (step run weight) (span n i) ws) place ≡ slice_index ws place
    tallied_others zero i ws size l other = refl
    tallied_others (suc n) i ws size l other =
        let none : nat_eq j i ≡ false = ne_eqb j i (other i (omega arith) (omega arith)) in
        tallied_others n (suc i) (step run weight i ws) (arrived-length i (slice_index run (16 + i)) weight ws ∙ size) (omega arith) (λ k f g. other k (omega arith) (omega arith))
        ∙ arrived-word i (slice_index run (16 + i)) weight ws size (omega arith) (low i (omega arith))
        ∙ ap (λ (b : Bool). raised (b && is_in t (minute_in (slice_index run (16 + i)))) weight (slice_index ws place)) none

    -- the train itself is among them
    tallied_own : (n i : ℕ) (ws : List ℕ) → length ws ≡ 5760 → i + n ≤ all → i ≤ j → j < i + n
        → slice_index (fold (step run weight) (span n i) ws) place ≡ raised (is_in t (minute_in (slice_index run (16 + j)))) weight (slice_index ws place)
    tallied_own zero i ws size l f g = absurd (omega arith)
    tallied_own (suc n) i ws size l f g = go (j == i) refl (tallied_own n (suc i) (step run weight i ws) (arrived-length i (slice_index run (16 + i)) weight ws ∙ size))
      where
        here : slice_index_or (step run weight i ws) place 0 ≡ raised (j == i && is_in t (minute_in (slice_index run (16 + i)))) weight (slice_index ws place)
        here = arrived-word i (slice_index run (16 + i)) weight ws size (omega arith) (low i (omega arith))

        go : (b : Bool) → (j == i) ≡ b
            → (suc i + n ≤ all → suc i ≤ j → j < suc i + n → slice_index (fold (step run weight) (span n (suc i)) (step run weight i ws)) place ≡ raised (is_in t (minute_in (slice_index run (16 + j)))) weight (slice_index (step run weight i ws) place))
            → slice_index (fold (step run weight) (span n (suc i)) (step run weight i ws)) place ≡ raised (is_in t (minute_in (slice_index run (16 + j)))) weight (slice_index ws place)
        go true q ih =
            let same : j ≡ i = eqb-true j i q in
            tallied_others n (suc i) (step run weight i ws) (arrived-length i (slice_index run (16 + i)) weight ws ∙ size) (omega arith) (λ k a b e. omega arith)
            ∙ here
            ∙ ap₂ (λ (b : Bool) (k : ℕ). raised (b && is_in t (minute_in (slice_index run (16 + k)))) weight (slice_index ws place)) q (sym same)
        go false q ih =
            let other : j ≡ i → ⊥ = eqb-false j i q in
            ih (omega arith) (omega arith) (omega arith)
            ∙ ap (raised (is_in t (minute_in (slice_index run (16 + j)))) weight)
            (here ∙ ap (λ (b : Bool). raised (b && is_in t (minute_in (slice_index run (16 + i)))) weight (slice_index ws place)) q)

  module _ (T run : List ℕ) (weight : ℕ) (ws : List ℕ) (size : length ws ≡ 5760) (few : slice_index_or T 0 0 ≤ 8) (low : Timely T run) where
    -- a train of the case
    pub tallied_train : j < slice_index T 0 → slice_index (tallied_in T run weight ws) place ≡ raised (is_in t (minute_in (slice_index run (16 + j)))) weight (slice_index ws place)
    unfolding tallied_in
    tallied_train l = tallied_own run weight (slice_index T 0) few low (slice_index T 0) 0 ws size (omega arith) (omega arith) (omega arith)

    -- and a number that no train has
    pub tallied_none : slice_index_or T 0 0 ≤ j → slice_index (tallied_in T run weight ws) place ≡ slice_index ws place
    unfolding tallied_in
    tallied_none l = tallied_others run weight (slice_index T 0) few low (slice_index T 0) 0 ws size (omega arith) (λ k f g e. omega arith)
