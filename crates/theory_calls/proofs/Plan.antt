-- No weight is added for a minute before plan, since no arrival is before it. Assumes nothing.
use Rattle.std.specs.Prelude.{◌≡◌, Bool, true, false, List, ℕ, ◌*◌, ◌≤◌, ◌<◌, leb}
use Rattle.std.proofs.Math.Path.{refl}
use Rattle.std.proofs.Common.{◌∙◌, arith, leb-true, leb-false}
use Rattle.rules.specs.Lists.{tick}
use Rattle.rules.specs.Refusals.Result.{answer}
use Rattle.rules.specs.Files.{Case, files}
use Rattle.rules.specs.Joint.{choices, weight_of, joint, weight_at}
use Rattle.rules.specs.Figures.{plan}
use Rattle.theory_lists.specs.Sums.{sum-keep, sum_same, sum-zero}
use Rattle.rules.specs.Demands.{arrives_in}
use Rattle.theory_weights.specs.Arrivals.{arrives_in-arrival}
use Rattle.theory_demands.specs.Demands.{demand_2, demand_2_later}
use Rattle.theory_calls.specs.Plan.{arrival-plan}

module _ (cs bk : List ℕ) (C : Case) (accepted : files cs bk ≡ answer C) where
  -- no weight is added for a minute before plan
  pub weight-plan : (m k t : ℕ) → m ≤ C.head.last_minute → t < plan C k → weight_at C (joint C m).arrived k t ≡ 0
  weight-plan m k t h l = go (leb t m) refl
    where
      never : (x : List ℕ) (b : Bool) → arrives_in C k t x ≡ b → tick b * weight_of C x ≡ 0
      never x true q = absurd (omega (arith, arrival-plan cs bk C accepted x k t ((arrives_in-arrival C k t x).0 q)))
      never x false q = omega arith

      go : (b : Bool) → leb t m ≡ b → weight_at C (joint C m).arrived k t ≡ 0
      go true q =
          demand_2 cs bk C accepted m h k t (leb-true t m q)
          ∙ sum-keep (weight_of C) (arrives_in C k t) (choices C)
          ∙ sum_same _ (λ x. 0) (λ x. never x (arrives_in C k t x) refl) (choices C)
          ∙ sum-zero (choices C)
      go false q = demand_2_later cs bk C accepted m k t (leb-false t m q)
