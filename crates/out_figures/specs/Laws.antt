-- The figures from the words are the figures of 01, and what a loop over the minutes adds up: the sum so far and the rest of the window are the whole.
-- Each figure is one sum over the minutes, and sums of equal terms are equal. Assumes nothing.
use Rattle.std.specs.Prelude.{◌≡◌, Bool, List}
use Rattle.std.proofs.Math.Path.{refl, sym, ap, ap₂}
use Rattle.std.proofs.Common.{◌∙◌, zero-mul, one-mul, leb-true, leb-false, le-leb, le-ltb, lt-ltb}
use Rattle.std.proofs.Math.Bool.{true, false}
use Rattle.std.proofs.Math.Option.{some}
use Prim.Native.Nat.{ℕ, zero, suc, ◌+◌, ◌-◌, ◌*◌, ◌≤◌, ◌<◌}
use Rattle.std.proofs.Math.Nat.{mul-le-mul_right}
use native.Mathlib.Omega.{arith}
use Rattle.std.proofs.Math.Dec.{leb, ltb}
use Rattle.std.proofs.lemmas.Bool.{lt-leb}
use Rattle.std.specs.Int.{from_bool}
use Rattle.rules.specs.Lists.{tick, sum, span, below}
use Rattle.rules.specs.Files.{Case}
use Rattle.rules.specs.Turns.{Arrival}
use Rattle.rules.specs.Joint.{Entry, weight_at}
use Rattle.rules.specs.Listing.{not_arrived_of}
use Rattle.rules.specs.Figures.{plan, weight_in, on_time_of, late, lateness_sum, lateness_weight, Punctuality, punctuality, shares, figures}
use Rattle.rules.specs.Figures.Punctuality.{never, always, share}
use Rattle.words.specs.Spans.{onward, onward-all, onward-next, onward-end}
use Rattle.theory_lists.specs.Sums.{sum-keep, sum_plus, sum_same, sum-times}
use Rattle.out_figures.specs.Sums.{word_of, arrived_weight, on_time_weight, late_weight, lateness, weight_times, judgement, shares_in, figures_in}
use Rattle.out_figures.specs.Answers.{case_of, punctuality_answer, Holds}

-- ---- punctuality

-- the enum that stands for a punctuality is of its case
pub case-of : (p : Punctuality) → case_of (punctuality_answer p) ≡ some p
case-of never = refl
case-of always = refl
case-of (share x) = refl

-- ---- the rest of the window

-- the terms of the minutes from t to the last
abbrev pub rest : (ℕ → ℕ) → ℕ → ℕ → ℕ
rest f last t = sum f (onward (suc last) t)

pub rest-whole : (f : ℕ → ℕ) (last : ℕ) → rest f last 0 ≡ sum f (below (suc last))
rest-whole f last = ap (sum f) (onward-all (suc last))

pub rest-next : (f : ℕ → ℕ) (last t : ℕ) → t ≤ last → rest f last t ≡ f t + rest f last (t + 1)
rest-next f last t h = ap (sum f) (onward-next (suc last) t (omega arith))

pub rest_end : (f : ℕ → ℕ) (last t : ℕ) → last < t → rest f last t ≡ 0
rest_end f last t h = ap (sum f) (onward-end (suc last) t h)

-- ---- sums over minutes

-- terms that are equal in each minute of the span
span_same : (f g : ℕ → ℕ) (n k : ℕ) → ((t : ℕ) → t < n + k → f t ≡ g t) → sum f (span n k) ≡ sum g (span n k)
span_same f g zero k h = refl
span_same f g (suc n) k h = ap₂ ◌+◌ (h k (omega arith)) (span_same f g n (suc k) (λ t l. h t (omega arith)))

span-most : (f g : ℕ → ℕ) (n k : ℕ) → ((t : ℕ) → t < n + k → f t ≤ g t) → sum f (span n k) ≤ sum g (span n k)
span-most f g zero k h = omega arith
span-most f g (suc n) k h = omega (arith, h k (omega arith), span-most f g n (suc k) (λ t l. h t (omega arith)))

-- ---- the sums of the words

-- what a minute adds to the weight on time, to the weight late, and to the lateness
abbrev pub on_time_at : List ℕ → ℕ → ℕ → ℕ → ℕ
on_time_at ws k end t = tick (leb t end) * word_of ws k t

abbrev pub late_at : List ℕ → ℕ → ℕ → ℕ → ℕ
late_at ws k end t = tick (ltb end t) * word_of ws k t

abbrev pub late_by_at : List ℕ → ℕ → ℕ → ℕ → ℕ
late_by_at ws k plan t = (t - plan) * word_of ws k t

module _ (ws : List ℕ) (k end t : ℕ) where
  pub on_time_at_in : t ≤ end → on_time_at ws k end t ≡ word_of ws k t
  on_time_at_in h = ap (λ (b : Bool). tick b * word_of ws k t) (le-leb t end h) ∙ one-mul (word_of ws k t)

  pub on_time_at-out : end < t → on_time_at ws k end t ≡ 0
  on_time_at-out h = ap (λ (b : Bool). tick b * word_of ws k t) (lt-leb t end h) ∙ zero-mul (word_of ws k t)

  pub late_at_in : end < t → late_at ws k end t ≡ word_of ws k t
  late_at_in h = ap (λ (b : Bool). tick b * word_of ws k t) (lt-ltb end t h) ∙ one-mul (word_of ws k t)

  pub late_at-out : t ≤ end → late_at ws k end t ≡ 0
  late_at-out h = ap (λ (b : Bool). tick b * word_of ws k t) (le-ltb end t h) ∙ zero-mul (word_of ws k t)

  pub late_by_at-out : t ≤ end → late_by_at ws k end t ≡ 0
  late_by_at-out h = let e : t - end ≡ 0 = omega arith in ap (λ (n : ℕ). n * word_of ws k t) e ∙ zero-mul (word_of ws k t)

-- 1 if it is so, 0 if not
once : (b : Bool) → from_bool b ≡ tick b
once true = refl
once false = refl

module _ (ws : List ℕ) (k last : ℕ) where
  pub on_time_weight-sum : (end : ℕ) → on_time_weight ws k last end ≡ sum (on_time_at ws k end) (below (suc last))
  unfolding on_time_weight
  on_time_weight-sum end = sum-keep (word_of ws k) (λ t. leb t end) (below (suc last))

  pub late_weight-sum : (end : ℕ) → late_weight ws k last end ≡ sum (late_at ws k end) (below (suc last))
  unfolding late_weight
  late_weight-sum end = sum-keep (word_of ws k) (λ t. ltb end t) (below (suc last))

  -- on time or late is arrived
  pub on_time-late : (end : ℕ) → on_time_weight ws k last end + late_weight ws k last end ≡ arrived_weight ws k last
  unfolding arrived_weight
  on_time-late end =
      ap₂ ◌+◌ (on_time_weight-sum end) (late_weight-sum end)
      ∙ sym (sum_plus (on_time_at ws k end) (late_at ws k end) (below (suc last)))
      ∙ sum_same (λ t. on_time_at ws k end t + late_at ws k end t) (word_of ws k) (λ t. either t (leb t end) refl) (below (suc last))
    where
      either : (t : ℕ) (b : Bool) → leb t end ≡ b → tick b * word_of ws k t + tick (ltb end t) * word_of ws k t ≡ word_of ws k t
      either t true e = ap (λ (b : Bool). 1 * word_of ws k t + tick b * word_of ws k t) (le-ltb end t (leb-true t end e)) ∙ omega arith
      either t false e = ap (λ (b : Bool). 0 * word_of ws k t + tick b * word_of ws k t) (lt-ltb end t (leb-false t end e)) ∙ omega arith

  pub lateness-sum : (plan : ℕ) → lateness ws k last plan ≡ sum (late_by_at ws k plan) (below (suc last))
  unfolding lateness
  lateness-sum plan = refl

  -- no minute of the window is more than 719 late
  pub lateness-most : (plan : ℕ) → last ≤ 719 → lateness ws k last plan ≤ 719 * arrived_weight ws k last
  unfolding lateness arrived_weight
  lateness-most plan h =
      omega (
        arith,
        sum-times 719 (word_of ws k) (below (suc last)),
        span-most (late_by_at ws k plan) (λ t. 719 * word_of ws k t) (suc last) 0 (λ t l. mul-le-mul_right (word_of ws k t) (omega arith)),
      )

  -- the three as weights that count so many times
  pub on_time-times : (end : ℕ) → weight_times ws k last (λ t. from_bool (leb t end)) ≡ on_time_weight ws k last end
  unfolding weight_times
  on_time-times end =
      sum_same (λ t. from_bool (leb t end) * word_of ws k t) (on_time_at ws k end) (λ t. ap (λ (n : ℕ). n * word_of ws k t) (once (leb t end))) (below (suc last))
      ∙ sym (on_time_weight-sum end)

  pub late-times : (end : ℕ) → weight_times ws k last (λ t. from_bool (ltb end t)) ≡ late_weight ws k last end
  unfolding weight_times
  late-times end =
      sum_same (λ t. from_bool (ltb end t) * word_of ws k t) (late_at ws k end) (λ t. ap (λ (n : ℕ). n * word_of ws k t) (once (ltb end t))) (below (suc last))
      ∙ sym (late_weight-sum end)

  pub lateness-times : (plan : ℕ) → weight_times ws k last (λ t. t - plan) ≡ lateness ws k last plan
  unfolding weight_times lateness
  lateness-times plan = refl

-- ---- the figures of a case

module _ (C : Case) (arrived : List (Arrival Entry)) (ws : List ℕ) (k p last whole : ℕ) (h : Holds C arrived ws k p last whole) where
  -- a sum over the words of the window is a sum over the weights that have arrived
  over : (g : ℕ → ℕ → ℕ) → sum (λ t. g t (word_of ws k t)) (below (suc last)) ≡ sum (λ t. g t (weight_at C arrived k t)) (below (suc C.head.last_minute))
  over g =
      ap (λ (n : ℕ). sum (λ t. g t (word_of ws k t)) (below (suc n))) h.window
      ∙ span_same (λ t. g t (word_of ws k t)) (λ t. g t (weight_at C arrived k t)) (suc C.head.last_minute) 0 (λ t l. ap (g t) (h.weights t (omega arith)))

  on_time-case : (L : ℕ) → on_time_weight ws k last (p + L) ≡ on_time_of C arrived k L
  unfolding on_time_of
  on_time-case L =
      on_time_weight-sum ws k last (p + L)
      ∙ over (λ t w. tick (leb t (p + L)) * w)
      ∙ sym (sum-keep (weight_at C arrived k) (λ t. leb t (p + L)) (below (suc C.head.last_minute)))
      ∙ ap (λ (q : ℕ). weight_in C arrived k (λ t. leb t (q + L))) h.planned

  late-case : (L : ℕ) → late_weight ws k last (p + L) ≡ late C arrived k L
  unfolding late
  late-case L =
      late_weight-sum ws k last (p + L)
      ∙ over (λ t w. tick (ltb (p + L) t) * w)
      ∙ sym (sum-keep (weight_at C arrived k) (λ t. ltb (p + L) t) (below (suc C.head.last_minute)))
      ∙ ap (λ (q : ℕ). weight_in C arrived k (λ t. ltb (q + L) t)) h.planned

  lateness-case : lateness ws k last p ≡ lateness_sum C arrived k
  unfolding lateness lateness_sum
  lateness-case =
      over (λ t w. (t - p) * w) ∙ ap (λ (q : ℕ). sum (λ t. (t - q) * weight_at C arrived k t) (below (suc C.head.last_minute))) h.planned

  pub arrived-case : arrived_weight ws k last ≡ lateness_weight C arrived k
  unfolding arrived_weight lateness_weight
  arrived-case = over (λ t w. w)

  -- the figures from the words are the figures of 01
  pub figures_in-figures : (L : ℕ) → figures_in ws k p last whole L ≡ figures C arrived k L
  unfolding figures_in figures punctuality judgement shares shares_in not_arrived_of lateness_weight
  figures_in-figures L =
      simp (on_time-late ws k last (p + L)) (simp (on_time-case L, late-case L, lateness-case, arrived-case, h.whole))
