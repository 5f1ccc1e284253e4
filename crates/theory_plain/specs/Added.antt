-- What the plain engine adds: for a train and a minute the weight of the choices whose single run brings the train in then, so of all choices the weight that the
-- joint run has there, whatever the room; of parts that follow each other, the sum; and never more than 100^n. Assumes nothing.
use Rattle.std.specs.Prelude.{◌≡◌, Bool, true, false, cond, get_or, take, drop}
use Rattle.std.proofs.Common.{sym, ◌∙◌, take-suc, take-add, drop-drop, get_or-drop}
use Rattle.std.proofs.Math.Path.{ap}
use mathlib.Core.List.{List, [], ◌∷◌, ◌++◌}
use Prim.Native.Nat.{ℕ, zero, suc, ◌+◌, ◌*◌, ◌≤◌, ◌<◌}
use native.Mathlib.Omega.{arith}
use Rattle.std.proofs.Math.ListN.{length}
use Rattle.rules.specs.Lists.{tick, sum}
use Rattle.rules.specs.Files.{Case}
use Rattle.rules.specs.Single.{single, minute_of}
use Rattle.rules.specs.Joint.{choices, weight_of, total, joint, weight_at}
use Rattle.rules.specs.Demands.{is_in, arrives_in}
use Rattle.rules.specs.Plain.{arrival_by, adds, added_by}
use Rattle.rules.specs.Promised.{brought_of}
use Rattle.theory_sound.specs.Facts.{Sound}
use Rattle.theory_lists.specs.Sums.{sum-append, sum_same, sum_less, sum-zero, sum-keep}
use Rattle.theory_weights.specs.Choices.{weight-all}
use Rattle.theory_weights.specs.Arrivals.{joint-seen, arrived-at, single_in, single-not_in}

-- a weight, or nothing
cond-tick : (b : Bool) (n : ℕ) → cond b n 0 ≡ tick b * n
cond-tick true n = omega arith
cond-tick false n = omega arith

tick-most : (b : Bool) (n : ℕ) → tick b * n ≤ n
tick-most true n = omega arith
tick-most false n = omega arith

module _ (C : Case) (m k t : ℕ) where
  -- ---- one part after another

  pub added-append : (xs ys : List (List ℕ)) → added_by C m (xs ++ ys) k t ≡ added_by C m xs k t + added_by C m ys k t
  unfolding added_by
  added-append xs ys = sum-append (adds C m k t) xs ys

  -- two parts that follow each other
  pub added-parts : (first a b : ℕ) (xs : List (List ℕ))
      → added_by C m (take (a + b) (drop first xs)) k t ≡ added_by C m (take a (drop first xs)) k t + added_by C m (take b (drop (first + a) xs)) k t
  added-parts first a b xs =
      ap (λ (l : List (List ℕ)). added_by C m l k t) (take-add a b (drop first xs) ∙ ap (λ (l : List (List ℕ)). take a (drop first xs) ++ take b l) (drop-drop a first xs))
      ∙ added-append (take a (drop first xs)) (take b (drop (first + a) xs))

  -- one choice more
  pub added_more : (first n : ℕ) (xs : List (List ℕ)) → first + n < length xs
      → added_by C m (take (suc n) (drop first xs)) k t ≡ added_by C m (take n (drop first xs)) k t + adds C m k t (get_or xs (first + n) [])
  unfolding added_by
  added_more first n xs l = one_more (drop first xs) n (longer first xs n l) ∙ ap (λ (x : List ℕ). sum (adds C m k t) (take n (drop first xs)) + adds C m k t x) (get_or-drop first xs n [])
    where
      longer : (f : ℕ) (l : List (List ℕ)) (n : ℕ) → f + n < length l → n < length (drop f l)
      longer zero l n h = omega arith
      longer (suc f) [] n h = absurd (omega arith)
      longer (suc f) (x ∷ l) n h = longer f l n (omega arith)

      one_more : (l : List (List ℕ)) (n : ℕ) → n < length l → sum (adds C m k t) (take (suc n) l) ≡ sum (adds C m k t) (take n l) + adds C m k t (get_or l n [])
      one_more l n h =
          let alone : sum (adds C m k t) (get_or l n [] ∷ []) ≡ adds C m k t (get_or l n []) = omega arith in
          ap (sum (adds C m k t)) (take-suc l n [] h)
          ∙ sum-append (adds C m k t) (take n l) (get_or l n [] ∷ [])
          ∙ ap (λ (z : ℕ). sum (adds C m k t) (take n l) + z) alone

  -- ---- by the minutes of the single runs

  -- the run of the choice x to minute m brings the train in then
  abbrev brings : List ℕ → Bool
  brings x = is_in t (minute_of k (single C x m).arrived)

  -- and so it weighs
  abbrev weighs : List ℕ → ℕ
  weighs x = tick (brings x) * weight_of C x

  added_ticks : (xs : List (List ℕ)) → added_by C m xs k t ≡ sum weighs xs
  unfolding added_by adds arrival_by
  added_ticks xs = sum_same _ weighs (λ x. cond-tick (brings x) (weight_of C x)) xs

  -- up to the stop minute, the weight of the choices whose single run brings the train in then
  pub added-brought : m ≤ C.head.last_minute → t ≤ m → (xs : List (List ℕ)) → added_by C m xs k t ≡ brought_of C xs k t
  added-brought h l xs =
      added_ticks xs
      ∙ sum_same _ (λ x. tick (arrives_in C k t x) * weight_of C x) (λ x. ap (λ (b : Bool). tick b * weight_of C x) (sym (single_in C m h k t l x))) xs
      ∙ sym (sum-keep (weight_of C) (arrives_in C k t) xs)

  -- after it, nothing
  pub added-later : m < t → (xs : List (List ℕ)) → added_by C m xs k t ≡ 0
  added-later h xs =
      added_ticks xs
      ∙ sum_same _ (λ x. 0) (λ x. sym (cond-tick (brings x) (weight_of C x)) ∙ ap (λ (b : Bool). cond b (weight_of C x) 0) (single-not_in C m k t h x)) xs
      ∙ sum-zero xs

  module _ (sound : Sound C) where
    -- of all choices, the weight that the joint run has there
    pub added-joint : added_by C m (choices C) k t ≡ weight_at C (joint C m).arrived k t
    added-joint = added_ticks (choices C) ∙ sym (arrived-at C m (joint-seen C sound m) k t)

    -- what some choices add and what the others add is at most 100^n together
    pub added-most : added_by C m (choices C) k t ≤ total C
    added-most = omega (arith, added_ticks (choices C), weight-all C sound, sum_less weighs (weight_of C) (λ x. tick-most (brings x) (weight_of C x)) (choices C))

    -- a part adds at most that
    pub part-most : (first n : ℕ) → added_by C m (take n (drop first (choices C))) k t ≤ total C
    part-most first n = omega (arith, added-most, added_ticks (choices C), added_ticks (take n (drop first (choices C))), part-less first n (choices C))
      where
        taken-less : (n : ℕ) (l : List (List ℕ)) → sum weighs (take n l) ≤ sum weighs l
        taken-less zero l = omega arith
        taken-less (suc n) [] = omega arith
        taken-less (suc n) (x ∷ l) = omega (arith, taken-less n l)

        part-less : (f n : ℕ) (l : List (List ℕ)) → sum weighs (take n (drop f l)) ≤ sum weighs l
        part-less zero n l = taken-less n l
        part-less (suc f) n [] = taken-less n []
        part-less (suc f) n (x ∷ l) = omega (arith, part-less f n l)
