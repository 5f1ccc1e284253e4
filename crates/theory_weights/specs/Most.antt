-- What an entry weighs at most: its cover is a part of the whole, so it weighs at most all choices together, which is 100^n for n trains and so at most 10^14.
-- So there is nothing for refusal 13, which 01 had for a heavier entry, and which is retired (request 10 of 02). Takes `Sound` as given, and assumes nothing else.
use Rattle.std.specs.Prelude.{◌≡◌, false, List, ◌*◌, ◌^◌, ◌≤◌, ltb}
use Rattle.std.proofs.Math.Nat.{pow-le-pow_right}
use Rattle.std.proofs.Common.{arith, le-ltb}
use Rattle.rules.specs.Lists.{any, tick}
use Rattle.rules.specs.Files.{Case}
use Rattle.rules.specs.Joint.{Cover, whole, covers, choices, weight_of, weight, total, Entry}
use Rattle.theory_sound.specs.Facts.{Sound}
use Rattle.theory_lists.specs.Every.{Every, every_more, any_none}
use Rattle.theory_lists.specs.Sums.{tick-times, sum_less}
use Rattle.theory_simulation.specs.Parts.{Parts}
use Rattle.theory_simulation.specs.Serving.{Proper}
use Rattle.theory_weights.specs.Choices.{weight-covers, weight-all}

-- the entry weighs at most 10^14
abbrev pub Light : Case → Entry → Type 0
Light C r = weight C r.cover ≤ 10 ^ 14

-- a part of the whole weighs at most all choices
weight-most : (C : Case) → Sound C → (p : Cover) → Parts (whole C) p → weight C p ≤ total C
weight-most C sound p h =
    omega (
      arith,
      weight-covers C p h,
      weight-all C sound,
      sum_less (λ x. tick (covers p x) * weight_of C x) (weight_of C) (λ x. tick-times (covers p x) (weight_of C x)) (choices C),
    )

-- all choices together weigh at most 10^14
pub total-most : (C : Case) → Sound C → total C ≤ 10 ^ 14
unfolding total
total-most C sound = pow-le-pow_right {n = 100} (omega arith) sound.few_trains

-- and so does an entry whose cover is a part of the whole
pub proper-light : (C : Case) → Sound C → (r : Entry) → Proper C r → Light C r
proper-light C sound r h = omega (arith, weight-most C sound r.cover h, total-most C sound)

-- of entries that weigh at most 10^14 none weighs more
pub none_heavy : (C : Case) (rs : List Entry) → Every (Light C) rs → any (λ r. ltb (10 ^ 14) (weight C r.cover)) rs ≡ false
none_heavy C rs h =
    any_none (λ r. ltb (10 ^ 14) (weight C r.cover)) rs
    (every_more (Light C) (λ r. ltb (10 ^ 14) (weight C r.cover) ≡ false) (λ r p. le-ltb (10 ^ 14) (weight C r.cover) p) rs h)
