-- A sum over arrivals is a sum over choices: each adds the weight of its cover, and each choice adds its own weight for each arrival that covers it.
-- Each cover's weight is a sum over all choices, and the two sums change places. Assumes nothing.
use Rattle.std.specs.Prelude.{◌≡◌, Bool, true, false, ◌&&◌, List, [], ◌∷◌, ◌++◌, ℕ, ◌+◌, ◌*◌, eqb}
use Rattle.std.proofs.Common.{sym, ap, ap₂, ◌∙◌, mul_assoc, mul_comm, mul-add, mul-zero, arith}
use Rattle.rules.specs.Lists.{one, tick, sum, count}
use Rattle.rules.specs.Files.{Case}
use Rattle.rules.specs.Turns.{Mark, Arrival, arrives}
use Rattle.rules.specs.Joint.{Entry, covers, choices, weight_of, weight, weight_at}
use Rattle.rules.specs.Demands.{arrivals_seen}
use Rattle.theory_lists.specs.Sums.{sum_same, sum-times, sum_plus, sum-zero, sum-keep}
use Rattle.theory_lists.specs.Every.{Every}
use Rattle.theory_simulation.specs.Serving.{Proper}
use Rattle.theory_weights.specs.Choices.{weight-covers}

-- an arrival of the joint run as a choice sees it
abbrev seen_as : Arrival Entry → Arrival Mark
seen_as v = arrives v.who.mark v.minute

count-one : (test : Arrival Mark → Bool) (b : Bool) (m : Arrival Mark) (ms : List (Arrival Mark)) → count test (one b m ++ ms) ≡ tick (test m) * tick b + count test ms
count-one test true m ms = omega arith
count-one test false m ms = omega arith

-- a sum over the arrivals that pass a test is a sum over the choices
pub arrivals-choices : (C : Case) (test : Arrival Mark → Bool) (rs : List (Arrival Entry)) → Every (λ v. Proper C v.who) rs
    → sum (λ r. tick (test (seen_as r)) * weight C r.who.cover) rs ≡ sum (λ x. weight_of C x * count test (arrivals_seen x rs)) (choices C)
unfolding arrivals_seen
arrivals-choices C test [] h = sym (sum_same (λ x. weight_of C x * 0) (λ x. 0) (λ x. mul-zero (weight_of C x)) (choices C) ∙ sum-zero (choices C))
arrivals-choices C test (r ∷ rs) h =
    ap₂ ◌+◌
    (ap (λ (z : ℕ). n * z) (weight-covers C r.who.cover h.0) ∙ sym (sum-times n (λ x. tick (covers r.who.cover x) * weight_of C x) (choices C)))
    (arrivals-choices C test rs h.1)
    ∙ sym (sum_plus (λ x. n * (tick (covers r.who.cover x) * weight_of C x)) (λ x. weight_of C x * count test (arrivals_seen x rs)) (choices C))
    ∙ sum_same _ (λ x. weight_of C x * count test (arrivals_seen x (r ∷ rs))) (λ x. sym (step x)) (choices C)
  where
    n : ℕ
    n = tick (test (seen_as r))

    step : (x : List ℕ) → weight_of C x * count test (arrivals_seen x (r ∷ rs)) ≡ n * (tick (covers r.who.cover x) * weight_of C x) + weight_of C x * count test (arrivals_seen x rs)
    step x =
        ap (λ (z : ℕ). weight_of C x * z) (count-one test (covers r.who.cover x) (seen_as r) (arrivals_seen x rs))
        ∙ mul-add (weight_of C x) (n * tick (covers r.who.cover x)) (count test (arrivals_seen x rs))
        ∙ ap (λ (z : ℕ). z + weight_of C x * count test (arrivals_seen x rs))
        (mul_comm (weight_of C x) (n * tick (covers r.who.cover x)) ∙ mul_assoc n (tick (covers r.who.cover x)) (weight_of C x))

-- the weight at a train and a minute, as a sum over the choices
pub weight_at-choices : (C : Case) (rs : List (Arrival Entry)) (k t : ℕ) → Every (λ v. Proper C v.who) rs
    → weight_at C rs k t ≡ sum (λ x. weight_of C x * count (λ v. eqb v.who.train k && eqb v.minute t) (arrivals_seen x rs)) (choices C)
unfolding weight_at
weight_at-choices C rs k t h =
    sum-keep (λ r. weight C r.who.cover) (λ r. eqb r.who.mark.train k && eqb r.minute t) rs
    ∙ arrivals-choices C (λ v. eqb v.who.train k && eqb v.minute t) rs h
