-- The listing and the figures counted over choices: each weight in them is the sum of the weights of the choices that it is about.
-- What the joint run has added for a minute is such a sum, and every line and every figure is made of these. Assumes nothing.
use Rattle.std.specs.Prelude.{◌≡◌, ℕ, suc, length}
use Rattle.std.proofs.Math.Path.{sym, ap, ap₂}
use Rattle.std.proofs.Common.{◌∙◌, arith}
use Rattle.std.proofs.Math.Bool.{not}
use mathlib.Core.List.{List, [], ◌∷◌, ◌++◌}
use Rattle.rules.specs.Refusals.Result.{answer}
use Rattle.rules.specs.Files.{Case, files}
use Rattle.rules.specs.Joint.{choices, weight_of, total, joint}
use Rattle.rules.specs.Listing.{decimal, line, total_word, minute_line, train_lines, listing}
use Rattle.rules.specs.Figures.{lateness_weight}
use Rattle.theory_lists.specs.Below.{each-below-same}
use Rattle.theory_lists.specs.Sums.{sum-keep}
use Rattle.rules.specs.Demands.{arrives_never}
use Rattle.rules.specs.Promised.{brought, counted_lines, counted_listing, weight_where}
use Rattle.theory_weights.specs.Arrivals.{arrived-sum}
use Rattle.theory_demands.specs.Demands.{seen, demand_2, demand_2_not-arrived}

-- ---- the laws

module _ (cs bk : List ℕ) (C : Case) (accepted : files cs bk ≡ answer C) where
  lines_counted : (k : ℕ) → train_lines C (joint C C.head.last_minute).arrived k ≡ counted_lines C k
  unfolding train_lines counted_lines
  lines_counted k =
      ap₂ (λ (a : List ℕ) (n : ℕ). a ++ line (decimal k ∷ (45 ∷ []) ∷ decimal n ∷ []))
      (each-below-same _ (λ t. minute_line k t (brought C k t)) (suc C.head.last_minute)
      (λ t l. ap (minute_line k t) (demand_2 cs bk C accepted C.head.last_minute (omega arith) k t (omega arith))))
      (demand_2_not-arrived cs bk C accepted k)

  -- the listing of an accepted case is the counted one
  pub listing-counted : listing C (joint C C.head.last_minute).arrived ≡ counted_listing C
  unfolding listing counted_listing
  listing-counted =
      ap (λ (z : List ℕ). line (total_word ∷ decimal (total C) ∷ []) ++ z)
      (each-below-same _ (counted_lines C) (length C.trains) (λ k l. lines_counted k))

  -- the weight that has arrived is that of the choices that arrive
  pub arrived-counted : (k : ℕ) → lateness_weight C (joint C C.head.last_minute).arrived k ≡ weight_where C (λ x. not (arrives_never C k x))
  unfolding lateness_weight
  arrived-counted k = arrived-sum C (seen cs bk C accepted C.head.last_minute) k ∙ sym (sum-keep (weight_of C) (λ x. not (arrives_never C k x)) (choices C))
