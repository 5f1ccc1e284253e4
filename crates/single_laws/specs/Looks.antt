-- What stands in the tables of a case at the places where the single run looks. Assumes nothing.
use Rattle.std.specs.Prelude.{◌≡◌, ℕ, ◌+◌, ◌*◌, ◌<◌, get_or}
use Rattle.std.proofs.Common.{ap, ◌∙◌, arith}
use Rattle.rules.specs.Files.{Case}
use Rattle.rules.specs.Single.{pair_at}
use Rattle.theory_codes.specs.Tables.{next_code, stay_on, tables}
use Rattle.theory_codes.specs.Lookups.{table-delay, table-next, table-stay}

module _ (C : Case) (k : ℕ) (few : k < 8) where
  -- the words of train k, m to a train, from the place a on
  regroup : (a m d : ℕ) → get_or (tables C) (a + k * m + d) 0 ≡ get_or (tables C) (a + (k * m + d)) 0
  regroup a m d = let e : a + k * m + d ≡ a + (k * m + d) = omega arith in ap (λ (i : ℕ). get_or (tables C) i 0) e

  pub look_delay : (d : ℕ) → d < 8 → get_or (tables C) (48 + k * 8 + d) 0 ≡ (pair_at C k d).delay
  look_delay d l = regroup 48 8 d ∙ table-delay C k d few l

  pub look_next : (p : ℕ) → p < 128 → get_or (tables C) (240 + k * 128 + p) 0 ≡ next_code C k p
  look_next p l = regroup 240 128 p ∙ table-next C k p few l

  pub look_stay : (e : ℕ) → e < 128 → get_or (tables C) (1264 + k * 128 + e) 0 ≡ stay_on C k e
  look_stay e l = regroup 1264 128 e ∙ table-stay C k e few l
