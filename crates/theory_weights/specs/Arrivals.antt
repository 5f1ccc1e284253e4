-- Demand 2: the weight that the joint run has added for a train in a minute is the weight of exactly those choices whose single run brings the train
-- to its last station in that minute, and the weight not arrived that of the choices whose single run brings it there in no minute up to T.
-- Each choice sees its own single run, in which a train arrives at most once and by T. Takes `Seen`, which a sound case's run has, as given, and assumes nothing else.
use Rattle.std.specs.Prelude.{◌≡◌, Bool, true, false, not, ◌&&◌, cond, List, [], ◌∷◌, ◌++◌, ◌↔◌, eqb}
use Rattle.std.proofs.Math.Path.{refl, sym, ap}
use Rattle.std.proofs.Common.{◌∙◌, mul_comm, mul_assoc, mul-zero, zero-mul, one-mul, arith, eqb-true, eq-eqb, ne_eqb}
use Rattle.std.proofs.lemmas.Bool.{false≢true}
use Rattle.std.proofs.Math.Option.{Option, none, some}
use Prim.Native.Nat.{ℕ, suc, ◌+◌, ◌*◌, ◌≤◌, ◌<◌}
use Rattle.rules.specs.Lists.{keep, tick, sum, count, below}
use Rattle.rules.specs.Files.{Case}
use Rattle.rules.specs.Turns.{Mark, Arrival}
use Rattle.rules.specs.Single.{single, minute_of, arrival}
use Rattle.rules.specs.Joint.{covers, choices, whole, weight_of, total, joint, weight_at}
use Rattle.rules.specs.Listing.{window, not_arrived_of}
use Rattle.rules.specs.Demands.{arrivals_seen, is_in, is_never, arrives_in, arrives_never}
use Rattle.rules.specs.Promised.{for_minute}
use Rattle.theory_sound.specs.Facts.{Sound}
use Rattle.theory_lists.specs.Tests.{eqb-turn}
use Rattle.theory_lists.specs.Every.{Every, every_more}
use Rattle.theory_lists.specs.Below.{sum-below_in}
use Rattle.theory_lists.specs.Sums.{tick-split, tick-times, sum_same, sum_every, sum_less, sum-times, sum_plus, sum-zero, sum-keep, sum_swap}
use Rattle.theory_weights.specs.Choices.{weight-all, choices-whole}
use Rattle.theory_simulation.specs.Serving.{Proper}
use Rattle.theory_simulation.specs.Simulation.{joint-proper, single-kept, simulation}
use Rattle.theory_weights.specs.Entries.{weight_at-choices}
use Rattle.theory_weights.specs.Log.{single_logged, single-later}

is_in_lem : (t : ℕ) (o : Option ℕ) → is_in t o ≡ true → o ≡ some t
is_in_lem t none h = absurd (false≢true h)
is_in_lem t (some u) h = ap (λ (n : ℕ). some n) (eqb-true u t h)

is_never_lem : (o : Option ℕ) → is_never o ≡ true → o ≡ none
is_never_lem none h = refl
is_never_lem (some u) h = absurd (false≢true h)

-- the test says that the minute of arrival is t
pub arrives_in-arrival : (C : Case) (k t : ℕ) (x : List ℕ) → (arrives_in C k t x ≡ true) ↔ (arrival C x k ≡ some t)
unfolding arrives_in
arrives_in-arrival C k t x = (is_in_lem t (arrival C x k), λ h. ap (is_in t) h ∙ eq-eqb t t refl)

-- the test says that there is no minute of arrival
pub arrives_never-arrival : (C : Case) (k : ℕ) (x : List ℕ) → (arrives_never C k x ≡ true) ↔ (arrival C x k ≡ none)
unfolding arrives_never
arrives_never-arrival C k x = (is_never_lem (arrival C x k), λ h. ap is_never h)

-- what each choice sees of the arrivals that the joint run has logged after minute m: those of its single run, each train at most once;
-- and their covers are parts of the whole
pub record Seen (C : Case) (m : ℕ) : Type 0 where
  pub parts : Every (λ v. Proper C v.who) (joint C m).arrived
  pub seen : (x : List ℕ) → covers (whole C) x ≡ true → arrivals_seen x (joint C m).arrived ≡ (single C x m).arrived
  pub once : (x : List ℕ) → covers (whole C) x ≡ true → (k : ℕ) → count (λ v. eqb v.who.train k) (single C x m).arrived ≤ 1

pub joint-seen : (C : Case) → Sound C → (m : ℕ) → Seen C m
joint-seen C sound m = record {
  parts = (joint-proper C sound m).1;
  seen = λ x choice. (simulation C sound x choice m).arrived;
  once = λ x choice k. (single-kept C sound x choice m).arrives_once k;
}

-- ---- the minute of a train that arrives at most once

-- those that pass two tests are no more than those that pass the first
count-both : {A : Type 0} (f g : A → Bool) (l : List A) → count (λ a. f a && g a) l ≤ count f l
count-both f g l = sum_less (λ a. tick (f a && g a)) (λ a. tick (f a)) (λ a. go (f a) (g a)) l
  where
    go : (a b : Bool) → tick (a && b) ≤ tick a
    go true true = omega arith
    go true false = omega arith
    go false b = omega arith

-- the arrivals of train k in minute t: one if that is its minute, and otherwise none
count-minute : (k t : ℕ) (vs : List (Arrival Mark)) → count (λ v. eqb v.who.train k) vs ≤ 1
    → count (λ v. eqb v.who.train k && eqb v.minute t) vs ≡ tick (is_in t (minute_of k vs))
count-minute k t [] h = refl
count-minute k t (v ∷ vs) h = go (eqb v.who.train k) h (count-minute k t vs)
  where
    go : (b : Bool) → tick b + count (λ v. eqb v.who.train k) vs ≤ 1
        → (count (λ v. eqb v.who.train k) vs ≤ 1 → count (λ v. eqb v.who.train k && eqb v.minute t) vs ≡ tick (is_in t (minute_of k vs)))
        → tick (b && eqb v.minute t) + count (λ v. eqb v.who.train k && eqb v.minute t) vs ≡ tick (is_in t (cond b (some v.minute) (minute_of k vs)))
    go true l ih = omega (arith, count-both (λ v. eqb v.who.train k) (λ v. eqb v.minute t) vs)
    go false l ih = omega (arith, ih (omega arith))

-- the minute, if there is one, is at most m
abbrev pub By : ℕ → Option ℕ → Type 0
By m none = Unit
By m (some u) = u ≤ m

pub minute_by : (m k : ℕ) (vs : List (Arrival Mark)) → Every (λ v. v.minute ≤ m) vs → By m (minute_of k vs)
minute_by m k [] h = tt
minute_by m k (v ∷ vs) h = go (eqb v.who.train k) (minute_by m k vs h.1)
  where
    go : (b : Bool) → By m (minute_of k vs) → By m (cond b (some v.minute) (minute_of k vs))
    go true ih = h.0
    go false ih = ih

-- a sum over the window, of the train's minute alone
window-minute : (f : ℕ → ℕ) (n : ℕ) (o : Option ℕ) → By n o → sum (λ t. f t * tick (is_in t o)) (below (suc n)) ≡ for_minute f o
window-minute f n none h = sum_same _ (λ t. 0) (λ t. mul-zero (f t)) (below (suc n)) ∙ sum-zero (below (suc n))
window-minute f n (some u) h =
    sum_same _ (λ t. tick (eqb t u) * f t) (λ t. mul_comm (f t) (tick (eqb u t)) ∙ ap (λ (b : Bool). tick b * f t) (eqb-turn u t)) (below (suc n))
    ∙ sum-below_in (λ t. tick (eqb t u) * f t) u (λ t q. ap (λ (b : Bool). tick b * f t) (ne_eqb t u q) ∙ zero-mul (f t)) (suc n) (omega arith)
    ∙ ap (λ (b : Bool). tick b * f u) (eq-eqb u u refl)
    ∙ one-mul (f u)

-- arrivals logged later do not change whether a train arrives in an earlier minute
minute-grown : (k t : ℕ) (vs new : List (Arrival Mark)) → Every (λ v. t < v.minute) new → is_in t (minute_of k (vs ++ new)) ≡ is_in t (minute_of k vs)
minute-grown k t [] [] h = refl
minute-grown k t [] (v ∷ new) h = go (eqb v.who.train k) (minute-grown k t [] new h.1)
  where
    go : (b : Bool) → is_in t (minute_of k new) ≡ false → is_in t (cond b (some v.minute) (minute_of k new)) ≡ false
    go true ih = ne_eqb v.minute t (λ e. omega (arith, h.0))
    go false ih = ih
minute-grown k t (v ∷ vs) new h = go (eqb v.who.train k) (minute-grown k t vs new h)
  where
    go : (b : Bool) → is_in t (minute_of k (vs ++ new)) ≡ is_in t (minute_of k vs)
        → is_in t (cond b (some v.minute) (minute_of k (vs ++ new))) ≡ is_in t (cond b (some v.minute) (minute_of k vs))
    go true ih = refl
    go false ih = ih

-- ---- the weights

-- the weight added for train k in minute t, by the minutes of the single runs after minute m
pub arrived-at : (C : Case) (m : ℕ) → Seen C m → (k t : ℕ)
    → weight_at C (joint C m).arrived k t ≡ sum (λ x. tick (is_in t (minute_of k (single C x m).arrived)) * weight_of C x) (choices C)
arrived-at C m S k t =
    weight_at-choices C (joint C m).arrived k t S.parts
    ∙ sum_every (λ x. covers (whole C) x ≡ true) _ (λ x. tick (is_in t (minute_of k (single C x m).arrived)) * weight_of C x)
    (λ x c. ap (λ (n : ℕ). weight_of C x * n)
    (ap (λ (l : List (Arrival Mark)). count (λ v. eqb v.who.train k && eqb v.minute t) l) (S.seen x c) ∙ count-minute k t (single C x m).arrived (S.once x c k))
    ∙ mul_comm (weight_of C x) (tick (is_in t (minute_of k (single C x m).arrived))))
    (choices C) (choices-whole C)

-- a single run that goes on after minute m brings no train in earlier
pub single_in : (C : Case) (m : ℕ) → m ≤ C.head.last_minute → (k t : ℕ) → t ≤ m → (x : List ℕ) → arrives_in C k t x ≡ is_in t (minute_of k (single C x m).arrived)
unfolding arrives_in arrival
single_in C m h k t l x =
    let g = single-later C x m C.head.last_minute h in
    ap (λ (vs : List (Arrival Mark)). is_in t (minute_of k vs)) g.grown
    ∙ minute-grown k t (single C x m).arrived g.new (every_more (λ v. m < v.minute) (λ v. t < v.minute) (λ v q. omega arith) g.new g.kind)

-- and none after it
pub single-not_in : (C : Case) (m k t : ℕ) → m < t → (x : List ℕ) → is_in t (minute_of k (single C x m).arrived) ≡ false
single-not_in C m k t h x = go (minute_of k (single C x m).arrived) (minute_by m k (single C x m).arrived (single_logged C x m))
  where
    go : (o : Option ℕ) → By m o → is_in t o ≡ false
    go none b = refl
    go (some u) b = ne_eqb u t (λ e. omega arith)

-- the weight that the run stopped after minute m has added for train k in a minute t ≤ m is that of the choices whose single run brings it in in minute t
pub arrived-weight : (C : Case) (m : ℕ) → Seen C m → m ≤ C.head.last_minute → (k t : ℕ) → t ≤ m
    → weight_at C (joint C m).arrived k t ≡ sum (weight_of C) (keep (arrives_in C k t) (choices C))
arrived-weight C m S h k t l =
    arrived-at C m S k t
    ∙ sum_same _ (λ x. tick (arrives_in C k t x) * weight_of C x) (λ x. ap (λ (b : Bool). tick b * weight_of C x) (sym (single_in C m h k t l x))) (choices C)
    ∙ sym (sum-keep (weight_of C) (arrives_in C k t) (choices C))

-- a run stopped after minute m has added nothing in later minutes
pub arrived-later : (C : Case) (m : ℕ) → Seen C m → (k t : ℕ) → m < t → weight_at C (joint C m).arrived k t ≡ 0
arrived-later C m S k t h =
    arrived-at C m S k t
    ∙ sum_same _ (λ x. 0) (λ x. ap (λ (b : Bool). tick b * weight_of C x) (single-not_in C m k t h x) ∙ zero-mul (weight_of C x)) (choices C)
    ∙ sum-zero (choices C)

-- the weight of a train in a minute is at most that of all choices
pub weight_at-most : (C : Case) → Sound C → (m : ℕ) → Seen C m → (k t : ℕ) → weight_at C (joint C m).arrived k t ≤ total C
weight_at-most C sound m S k t =
    omega (
      arith,
      arrived-at C m S k t,
      weight-all C sound,
      sum_less (λ x. tick (arrives x) * weight_of C x) (weight_of C) (λ x. tick-times (arrives x) (weight_of C x)) (choices C),
    )
  where
    arrives : List ℕ → Bool
    arrives x = is_in t (minute_of k (single C x m).arrived)

module _ (C : Case) (S : Seen C C.head.last_minute) (k : ℕ) where
  -- the weights of the window, each taken as often as f says for its minute, are the weights of the choices, each as often as f says for its arrival
  pub window-choices : (f : ℕ → ℕ) → sum (λ t. f t * weight_at C (joint C C.head.last_minute).arrived k t) (window C)
      ≡ sum (λ x. for_minute f (arrival C x k) * weight_of C x) (choices C)
  unfolding arrival
  window-choices f =
      sum_same _ (λ t. sum (λ x. f t * (tick (is_in t (o x)) * weight_of C x)) (choices C))
      (λ t. ap (λ (n : ℕ). f t * n) (arrived-at C T S k t) ∙ sym (sum-times (f t) (λ x. tick (is_in t (o x)) * weight_of C x) (choices C))) (window C)
      ∙ sum_swap (λ t x. f t * (tick (is_in t (o x)) * weight_of C x)) (window C) (choices C)
      ∙ sum_same _ (λ x. for_minute f (o x) * weight_of C x) each-choice (choices C)
    where
      T : ℕ
      T = C.head.last_minute

      o : List ℕ → Option ℕ
      o x = minute_of k (single C x T).arrived

      each-choice : (x : List ℕ) → sum (λ t. f t * (tick (is_in t (o x)) * weight_of C x)) (window C) ≡ for_minute f (o x) * weight_of C x
      each-choice x =
          sum_same _ (λ t. weight_of C x * (f t * tick (is_in t (o x))))
          (λ t. sym (mul_assoc (f t) (tick (is_in t (o x))) (weight_of C x)) ∙ mul_comm (f t * tick (is_in t (o x))) (weight_of C x)) (window C)
          ∙ sum-times (weight_of C x) (λ t. f t * tick (is_in t (o x))) (window C)
          ∙ ap (λ (n : ℕ). weight_of C x * n) (window-minute f T (o x) (minute_by T k (single C x T).arrived (single_logged C x T)))
          ∙ mul_comm (weight_of C x) (for_minute f (o x))

  -- the weight that has arrived by T is that of the choices whose single run brings train k in by T
  pub arrived-sum : sum (weight_at C (joint C C.head.last_minute).arrived k) (window C) ≡ sum (λ x. tick (not (arrives_never C k x)) * weight_of C x) (choices C)
  unfolding arrives_never
  arrived-sum =
      sum_same _ (λ t. 1 * weight_at C (joint C C.head.last_minute).arrived k t)
      (λ t. sym (one-mul (weight_at C (joint C C.head.last_minute).arrived k t))) (window C)
      ∙ window-choices (λ t. 1)
      ∙ sum_same _ (λ x. tick (not (is_never (arrival C x k))) * weight_of C x) (λ x. ap (λ (n : ℕ). n * weight_of C x) (brought (arrival C x k))) (choices C)
    where
      brought : (o : Option ℕ) → for_minute (λ t. 1) o ≡ tick (not (is_never o))
      brought none = refl
      brought (some u) = refl

  -- the choices that bring train k in and those that do not are all choices
  arrived_or_not : sum (λ x. tick (arrives_never C k x) * weight_of C x) (choices C) + sum (λ x. tick (not (arrives_never C k x)) * weight_of C x) (choices C)
      ≡ sum (weight_of C) (choices C)
  arrived_or_not =
      sym (sum_plus (λ x. tick (arrives_never C k x) * weight_of C x) (λ x. tick (not (arrives_never C k x)) * weight_of C x) (choices C))
      ∙ sum_same _ (weight_of C) (λ x. tick-split (arrives_never C k x) (weight_of C x)) (choices C)

  -- the weight not arrived is that of the choices whose single run brings train k in in no minute up to T
  pub not_arrived-weight : Sound C → not_arrived_of C (joint C C.head.last_minute).arrived k ≡ sum (weight_of C) (keep (arrives_never C k) (choices C))
  unfolding not_arrived_of
  not_arrived-weight sound = omega (arith, weight-all C sound, arrived-sum, arrived_or_not, sum-keep (weight_of C) (arrives_never C k) (choices C))

  -- what has arrived and what has not are all
  pub arrived-total : Sound C → sum (weight_at C (joint C C.head.last_minute).arrived k) (window C) + not_arrived_of C (joint C C.head.last_minute).arrived k ≡ total C
  unfolding not_arrived_of
  arrived-total sound = omega (arith, weight-all C sound, arrived-sum, arrived_or_not)
