-- A pass of a train, seen in the words: all marks but the train's standing one stay, and that one goes if it asks and is let in.
-- The sum over the list after the pass is a sum over the list before it, and that the words show. Assumes nothing.
use Rattle.std.specs.Prelude.{◌≡◌, Bool, ◌&&◌, List, length, eqb}
use Rattle.std.proofs.Math.Path.{refl, sym, ap, ap₂}
use Rattle.std.proofs.Common.{◌∙◌, one-mul, arith, eq-eqb, ne_eqb}
use Rattle.std.proofs.Math.Bool.{true, false, not, cond, and-false}
use Rattle.std.proofs.Math.Option.{none, some}
use Prim.Native.Nat.{ℕ, ◌+◌, ◌*◌, ◌<◌}
use Rattle.std.proofs.Math.Nat.{zero-mul}
use Rattle.std.proofs.Math.Dec.{ltb}
use Rattle.rules.specs.Lists.{one, each, tick, sum, keep, below}
use Rattle.rules.specs.Files.{Case}
use Rattle.rules.specs.Turns.{Place, same, Mark, stands, last_station, asks, entered, arriving, State, due_again, Arrival, arrives}
use Rattle.rules.specs.Single.{minute_of}
use Rattle.theory_lists.specs.Tests.{and_true-first}
use Rattle.theory_lists.specs.Sums.{sum-keep, sum-append, sum-each, sum_plus, sum-zero, sum_ones}
use Rattle.theory_lists.specs.Every.{Every, every_each, every_one}
use Rattle.theory_lists.specs.Below.{sum-below_in}
use Rattle.theory_lists.specs.Kept.{keep-passes}
use Rattle.theory_passes.specs.Passes.{asks_for, admits, goes, pass_train}
use Rattle.theory_passes.specs.Walk.{asks_for-train}
use Rattle.single_laws.specs.Sums.{sum_below_lem, sum_change, or_else, minute_of-append, minute_of-same}
use Rattle.single_laws.specs.Shows.{stands_in, block_in, end_in, block_term, stands_sum, blocks_sum, Shows}

-- a sum of two parts, of which the first changes in one term
regroup : (x s' b' s b o q q' : ℕ) → x ≡ s' + b' → s' + o ≡ s + q' → q' ≡ q → b' ≡ b → x + o ≡ s + b + q
regroup x s' b' s b o q q' d e f g = omega arith

module _ (C : Case) (t : ℕ) (p : Place) (k : ℕ) (low : k < length C.trains) (w : List ℕ) (s : State Mark) (h : Shows C t w s) where
  abbrev n : ℕ
  n = length C.trains

  -- the train's standing mark asks for the element and is let in
  abbrev pub going : Bool
  going = asks C t p (stands_in w k) && admits C p k s.list

  goes_other : (j : ℕ) → (j ≡ k → ⊥) → goes C t p k s.list (stands_in w j) ≡ false
  unfolding goes asks_for
  goes_other j d = ap (λ (z : Bool). (z && asks C t p (stands_in w j)) && admits C p k s.list) (ne_eqb j k d)

  goes-own : goes C t p k s.list (stands_in w k) ≡ going
  unfolding goes asks_for
  goes-own = ap (λ (z : Bool). (z && asks C t p (stands_in w k)) && admits C p k s.list) (eq-eqb k k refl)

  goes-block : (e j : ℕ) → goes C t p k s.list (block_in w e j) ≡ false
  unfolding goes asks_for asks
  goes-block e j = ap (λ (z : Bool). z && admits C p k s.list) (and-false (eqb j k))

  -- ---- the list after the pass

  -- what comes of a mark
  abbrev turn : (Mark → ℕ) → Mark → ℕ
  turn f m = tick (not (goes C t p k s.list m)) * f m + tick (goes C t p k s.list m) * sum f (entered C t p m)

  abbrev turned : (Mark → ℕ) → Bool → Mark → ℕ
  turned f b m = tick (not b) * f m + tick b * sum f (entered C t p m)

  turned-stays : (f : Mark → ℕ) (m : Mark) → turned f false m ≡ f m
  turned-stays f m = omega (arith, one-mul (f m), zero-mul (sum f (entered C t p m)))

  pass-list : (f : Mark → ℕ) → sum f (pass_train C t p k s).list ≡ sum (turn f) s.list
  unfolding pass_train
  pass-list f =
      sum-append f (keep (λ m. not (goes C t p k s.list m)) s.list) (each (entered C t p) (keep (goes C t p k s.list) s.list))
      ∙ ap₂ ◌+◌ (sum-keep f (λ m. not (goes C t p k s.list m)) s.list)
      (sum-each f (entered C t p) (keep (goes C t p k s.list) s.list) ∙ sum-keep (λ m. sum f (entered C t p m)) (goes C t p k s.list) s.list)
      ∙ sym (sum_plus (λ m. tick (not (goes C t p k s.list m)) * f m) (λ m. tick (goes C t p k s.list m) * sum f (entered C t p m)) s.list)

  -- the train's standing mark stays or is taken for what it enters as
  pub pass-sums : (f : Mark → ℕ)
      → sum f (pass_train C t p k s).list + f (stands_in w k) ≡ stands_sum n w f + blocks_sum n t w f + (tick (not going) * f (stands_in w k) + tick going * sum f (entered C t p (stands_in w k)))
  pass-sums f =
      regroup (sum f (pass_train C t p k s).list) (stands_sum n w (turn f)) (blocks_sum n t w (turn f)) (stands_sum n w f) (blocks_sum n t w f) (f (stands_in w k))
      (turned f going (stands_in w k)) (turn f (stands_in w k))
      (pass-list f ∙ h.sums (turn f))
      (sum_change (λ j. turn f (stands_in w j)) (λ j. f (stands_in w j)) n k low (λ j l d. ap (λ (z : Bool). turned f z (stands_in w j)) (goes_other j d) ∙ turned-stays f (stands_in w j)))
      (ap (λ (z : Bool). turned f z (stands_in w k)) goes-own)
      (sum_below_lem (λ e. sum (block_term t w (turn f) e) (below n)) (λ e. sum (block_term t w f e) (below n)) 65
      (λ e l. sum_below_lem (block_term t w (turn f) e) (block_term t w f e) n
      (λ j m. ap (λ (x : ℕ). tick (ltb t (end_in w e j)) * x) (ap (λ (z : Bool). turned f z (block_in w e j)) (goes-block e j) ∙ turned-stays f (block_in w e j)))))

  -- ---- who arrives

  -- the arrival of train k
  abbrev home : Arrival Mark
  home = arrives (stands k p (due_again C t k p)) t

  abbrev arrivals : List (Arrival Mark)
  arrivals = each (arriving C t p) (keep (goes C t p k s.list) s.list)

  arrivals-same : Every (λ v. v ≡ home) arrivals
  unfolding arriving goes
  arrivals-same =
      every_each (λ m. goes C t p k s.list m ≡ true) (λ v. v ≡ home) (arriving C t p)
      (λ m q. every_one (λ v. v ≡ home) (same p (last_station C m.train)) (arrives (stands m.train p (due_again C t m.train p)) t)
      (λ r. ap (λ (j : ℕ). arrives (stands j p (due_again C t j p)) t) (asks_for-train C t p k m (and_true-first (asks_for C t p k m) (admits C p k s.list) q))))
      (keep (goes C t p k s.list) s.list) (keep-passes (goes C t p k s.list) s.list)

  abbrev arrived_term : Mark → ℕ
  arrived_term m = tick (goes C t p k s.list m) * sum (λ a. 1) (arriving C t p m)

  arrivals-length : length arrivals ≡ tick going * tick (same p (last_station C k))
  unfolding arriving
  arrivals-length =
      sym (sum_ones arrivals)
      ∙ sum-each (λ a. 1) (arriving C t p) (keep (goes C t p k s.list) s.list)
      ∙ sum-keep (λ m. sum (λ a. 1) (arriving C t p m)) (goes C t p k s.list) s.list
      ∙ h.sums arrived_term
      ∙ ap₂ ◌+◌
      (sum-below_in (λ j. arrived_term (stands_in w j)) k (λ j d. still (stands_in w j) (goes_other j d)) n low)
      (sum_below_lem (λ e. sum (block_term t w arrived_term e) (below n)) (λ e. 0) 65
      (λ e l. sum_below_lem (block_term t w arrived_term e) (λ j. 0) n
      (λ j m. ap (λ (x : ℕ). tick (ltb t (end_in w e j)) * x) (still (block_in w e j) (goes-block e j)) ∙ mul_none (tick (ltb t (end_in w e j)))) ∙ sum-zero (below n)) ∙ sum-zero (below 65))
      ∙ last
    where
      still : (m : Mark) → goes C t p k s.list m ≡ false → arrived_term m ≡ 0
      still m q = ap (λ (z : Bool). tick z * sum (λ a. 1) (arriving C t p m)) q ∙ zero-mul (sum (λ a. 1) (arriving C t p m))

      mul_none : (x : ℕ) → x * 0 ≡ 0
      mul_none x = omega arith

      ones : (b : Bool) (v : Arrival Mark) → sum (λ a. 1) (one b v) ≡ tick b
      ones true v = refl
      ones false v = refl

      last : arrived_term (stands_in w k) + 0 ≡ tick going * tick (same p (last_station C k))
      last =
          let e : arrived_term (stands_in w k) ≡ tick going * tick (same p (last_station C k)) =
          ap₂ (λ (z : Bool) (x : ℕ). tick z * x) goes-own (ones (same p (last_station C k)) home)
          in
          omega arith

  -- the train arrives, if it goes to its last station
  pub pass-arrived : (j : ℕ)
      → minute_of j (pass_train C t p k s).arrived ≡ or_else (minute_of j s.arrived) (cond (eqb k j && (going && same p (last_station C k))) (some t) none)
  unfolding pass_train
  pass-arrived j =
      minute_of-append j s.arrived arrivals
      ∙ ap (or_else (minute_of j s.arrived))
      (minute_of-same j home arrivals arrivals-same
      ∙ ap (λ (z : Bool). cond (eqb k j && z) (some t) none) (ap (ltb 0) arrivals-length ∙ both going (same p (last_station C k))))
    where
      both : (a b : Bool) → ltb 0 (tick a * tick b) ≡ (a && b)
      both true true = refl
      both true false = refl
      both false true = refl
      both false false = refl
