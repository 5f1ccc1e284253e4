-- The figures as sums over choices: on time, late and the lateness are the weights of the choices by the minute in which their single run brings the
-- train in; with the weight not arrived they make up all. Each is one sum over the window. Takes `Seen` as given, and assumes nothing else.
use Rattle.std.specs.Prelude.{◌≡◌, Bool, List}
use Rattle.std.proofs.Math.Path.{refl, sym, ap, ap₂}
use Rattle.std.proofs.Common.{◌∙◌, leb-true, leb-false, le-ltb, lt-ltb}
use Rattle.std.proofs.Math.Bool.{true, false}
use Rattle.std.proofs.Math.Option.{Option, none, some}
use Prim.Native.Nat.{ℕ, ◌+◌, ◌-◌, ◌*◌}
use native.Mathlib.Omega.{arith}
use Rattle.std.proofs.Math.Dec.{leb, ltb}
use Rattle.rules.specs.Lists.{keep, tick, sum}
use Rattle.rules.specs.Files.{Case}
use Rattle.rules.specs.Single.{arrival}
use Rattle.rules.specs.Joint.{Entry, choices, weight_of, total, joint, weight_at}
use Rattle.rules.specs.Listing.{window, not_arrived_of}
use Rattle.rules.specs.Figures.{plan, weight_in, on_time_of, late, lateness_sum, lateness_weight}
use Rattle.rules.specs.Turns.{Arrival}
use Rattle.rules.specs.Promised.{for_minute, arrives_when, passes_in}
use Rattle.theory_sound.specs.Facts.{Sound}
use Rattle.theory_lists.specs.Sums.{sum_same, sum_plus, sum-keep}
use Rattle.theory_weights.specs.Arrivals.{Seen, window-choices, arrived-total}

module _ (C : Case) (S : Seen C C.head.last_minute) (k : ℕ) where
  -- the arrivals of the joint run
  abbrev pub arrivals : List (Arrival Entry)
  arrivals = (joint C C.head.last_minute).arrived

  -- the weight in the minutes that pass a test is that of the choices whose single run brings train k in in such a minute
  pub weight_in-weight : (test : ℕ → Bool) → weight_in C arrivals k test ≡ sum (weight_of C) (keep (arrives_when C k test) (choices C))
  unfolding arrives_when
  weight_in-weight test =
      sum-keep (weight_at C arrivals k) test (window C)
      ∙ window-choices C S k (λ t. tick (test t))
      ∙ sum_same _ (λ x. tick (passes_in test (arrival C x k)) * weight_of C x) (λ x. ap (λ (n : ℕ). n * weight_of C x) (ticked (arrival C x k))) (choices C)
      ∙ sym (sum-keep (weight_of C) (λ x. passes_in test (arrival C x k)) (choices C))
    where
      ticked : (o : Option ℕ) → for_minute (λ t. tick (test t)) o ≡ tick (passes_in test o)
      ticked none = refl
      ticked (some u) = refl

  -- on time: the weight of the choices whose single run brings train k in at most L after plan
  pub on_time-weight : (L : ℕ) → on_time_of C arrivals k L ≡ sum (weight_of C) (keep (arrives_when C k (λ t. leb t (plan C k + L))) (choices C))
  unfolding on_time_of
  on_time-weight L = weight_in-weight (λ t. leb t (plan C k + L))

  -- late: the weight of the choices whose single run brings train k in more than L after plan
  pub late-weight : (L : ℕ) → late C arrivals k L ≡ sum (weight_of C) (keep (arrives_when C k (λ t. ltb (plan C k + L) t)) (choices C))
  unfolding late
  late-weight L = weight_in-weight (λ t. ltb (plan C k + L) t)

  -- the sum of the lateness is that of the choices, each by its weight
  pub lateness_sum-weight : lateness_sum C arrivals k ≡ sum (λ x. for_minute (λ t. t - plan C k) (arrival C x k) * weight_of C x) (choices C)
  unfolding lateness_sum
  lateness_sum-weight = window-choices C S k (λ t. t - plan C k)

  -- on time or late is arrived
  pub on_time-late : (L : ℕ) → on_time_of C arrivals k L + late C arrivals k L ≡ lateness_weight C arrivals k
  unfolding on_time_of late lateness_weight
  on_time-late L =
      ap₂ ◌+◌ (sum-keep (weight_at C arrivals k) (λ t. leb t (plan C k + L)) (window C)) (sum-keep (weight_at C arrivals k) (λ t. ltb (plan C k + L) t) (window C))
      ∙ sym (sum_plus (λ t. tick (leb t (plan C k + L)) * weight_at C arrivals k t) (λ t. tick (ltb (plan C k + L) t) * weight_at C arrivals k t) (window C))
      ∙ sum_same _ (weight_at C arrivals k) (λ t. either t (leb t (plan C k + L)) refl) (window C)
    where
      either : (t : ℕ) (b : Bool) → leb t (plan C k + L) ≡ b → tick b * weight_at C arrivals k t + tick (ltb (plan C k + L) t) * weight_at C arrivals k t ≡ weight_at C arrivals k t
      either t true e =
          ap (λ (b : Bool). 1 * weight_at C arrivals k t + tick b * weight_at C arrivals k t) (le-ltb (plan C k + L) t (leb-true t (plan C k + L) e)) ∙ omega arith
      either t false e =
          ap (λ (b : Bool). 0 * weight_at C arrivals k t + tick b * weight_at C arrivals k t) (lt-ltb (plan C k + L) t (leb-false t (plan C k + L) e)) ∙ omega arith

  module _ (sound : Sound C) where
    -- on time, late and not arrived are all
    pub figures-total : (L : ℕ) → on_time_of C arrivals k L + late C arrivals k L + not_arrived_of C arrivals k ≡ total C
    unfolding lateness_weight
    figures-total L = ap (λ (n : ℕ). n + not_arrived_of C arrivals k) (on_time-late L) ∙ arrived-total C S k sound
