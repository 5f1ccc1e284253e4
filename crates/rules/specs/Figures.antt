-- 01, "Listing and figures", the figures: punctuality, the three shares and the lateness of a train. Assumes nothing: these are definitions.
use Rattle.std.specs.Prelude.{Bool, cond, List, ℕ, ◌+◌, ◌-◌, ◌*◌, leb, ltb, eqb, pos, Float}
use Rattle.std.specs.Float.Ieee.{div, of_int}
use Rattle.std.specs.Float.{binary64}
use Rattle.rules.specs.Lists.{keep, sum}
use Rattle.rules.specs.Files.{Case, last_of}
use Rattle.rules.specs.Turns.{train_at, Arrival}
use Rattle.rules.specs.Joint.{Entry, total, weight_at}
use Rattle.rules.specs.Listing.{window, not_arrived_of}

-- the planned arrival at the last stop
unfoldable pub plan : Case → ℕ → ℕ
plan C k = (last_of (train_at C k).stops).arrival

-- the weight of train k that arrives in the minutes that pass the test
abbrev pub weight_in : Case → List (Arrival Entry) → ℕ → (ℕ → Bool) → ℕ
weight_in C arrived k test = sum (weight_at C arrived k) (keep test (window C))

-- on time means at most L after plan
unfoldable pub on_time_of : Case → List (Arrival Entry) → ℕ → ℕ → ℕ
on_time_of C arrived k L = weight_in C arrived k (λ t. leb t (plan C k + L))

-- late means more than L after plan
unfoldable pub late : Case → List (Arrival Entry) → ℕ → ℕ → ℕ
late C arrived k L = weight_in C arrived k (λ t. ltb (plan C k + L) t)

-- one division of two whole numbers, both exact as doubles, rounded once
unfoldable pub double : ℕ → ℕ → Float
double part whole = div binary64 (of_int binary64 (pos part)) (of_int binary64 (pos whole))

-- never, always, or a share
pub data Punctuality : Type 0 where
  never : Punctuality
  always : Punctuality
  share : Float → Punctuality

-- never: no weight arrives at most L after plan; always: all weight does
unfoldable pub punctuality : Case → List (Arrival Entry) → ℕ → ℕ → Punctuality
punctuality C arrived k L =
    let w = on_time_of C arrived k L in
    cond (eqb w 0) never (cond (eqb w (total C)) always (share (double w (total C))))

pub record Shares : Type 0 where
  pub on_time_of : Float
  pub late : Float
  pub not_arrived_of : Float

-- each share is one such division
unfoldable pub shares : Case → List (Arrival Entry) → ℕ → ℕ → Shares
shares C arrived k L = record {
  on_time_of = double (on_time_of C arrived k L) (total C);
  late = double (late C arrived k L) (total C);
  not_arrived_of = double (not_arrived_of C arrived k) (total C);
}

-- The mean lateness of the arrived as two whole numbers, sum and weight. No arrival is before plan (`arrival-plan`, crate `theory_calls`), so the lateness is the
-- minute less plan.
unfoldable pub lateness_sum : Case → List (Arrival Entry) → ℕ → ℕ
lateness_sum C arrived k = sum (λ t. (t - plan C k) * weight_at C arrived k t) (window C)

unfoldable pub lateness_weight : Case → List (Arrival Entry) → ℕ → ℕ
lateness_weight C arrived k = sum (weight_at C arrived k) (window C)

pub record Figures : Type 0 where
  pub punctuality : Punctuality
  pub shares : Shares
  pub sum : ℕ
  pub weight : ℕ

unfoldable pub figures : Case → List (Arrival Entry) → ℕ → ℕ → Figures
figures C arrived k L = record {
  punctuality = punctuality C arrived k L;
  shares = shares C arrived k L;
  sum = lateness_sum C arrived k;
  weight = lateness_weight C arrived k;
}
