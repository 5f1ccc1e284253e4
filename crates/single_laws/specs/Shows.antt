-- What the words of a run show: the marks of the single run, in no order, and who has arrived when. Two lists of marks are the same to a run where each
-- sum over them is: a run only counts marks, takes some out and adds others. Assumes nothing.
use Rattle.std.specs.Prelude.{◌≡◌, refl, Bool, true, false, not, List, ℕ, zero, suc, ◌+◌, ◌*◌, ◌≤◌, ◌<◌, length, get_or, leb, ltb}
use Rattle.std.proofs.Common.{ap, ap₂, ◌∙◌, zero-mul, one-mul, arith, ltb-true, ltb-false, le-leb}
use Rattle.std.proofs.Math.Option.{Option, none, some}
use Rattle.std.proofs.lemmas.Bool.{lt-leb}
use Rattle.rules.specs.Lists.{tick, sum, below}
use Rattle.rules.specs.Files.{Case}
use Rattle.rules.specs.Turns.{Mark, stands, block, ended, State}
use Rattle.rules.specs.Single.{minute_of}
use Rattle.theory_lists.specs.Sums.{sum-keep}
use Rattle.theory_codes.specs.Codes.{place_of}
use Rattle.theory_passes.specs.Passes.{cleared}
use Rattle.moving.specs.Words.{run_size}
use Rattle.single_laws.specs.Sums.{sum_below_lem}

-- the mark of train k, standing
abbrev pub stands_in : List ℕ → ℕ → Mark
stands_in w k = stands k (place_of (get_or w k 0)) (get_or w (8 + k) 0)

-- the end of train k's block on the element with code e
abbrev pub end_in : List ℕ → ℕ → ℕ → ℕ
end_in w e k = get_or w (24 + e * 8 + k) 0

abbrev pub block_in : List ℕ → ℕ → ℕ → Mark
block_in w e k = block k (place_of e) (end_in w e k)

-- what is summed for train k's block on e, if it has not ended by minute t
abbrev pub block_term : ℕ → List ℕ → (Mark → ℕ) → ℕ → ℕ → ℕ
block_term t w f e k = tick (ltb t (end_in w e k)) * f (block_in w e k)

abbrev pub blocks_sum : ℕ → ℕ → List ℕ → (Mark → ℕ) → ℕ
blocks_sum n t w f = sum (λ e. sum (block_term t w f e) (below n)) (below 65)

abbrev pub stands_sum : ℕ → List ℕ → (Mark → ℕ) → ℕ
stands_sum n w f = sum (λ k. f (stands_in w k)) (below n)

-- a word that is one more than a minute, 0 for none
abbrev pub minute_in : ℕ → Option ℕ
minute_in zero = none
minute_in (suc t) = some t

-- the words show the state in minute t
pub record Shows (C : Case) (t : ℕ) (w : List ℕ) (s : State Mark) : Type 0 where
  pub size : length w ≡ run_size
  pub placed : (k : ℕ) → k < length C.trains → get_or w k 0 ≤ 65
  pub sums : (f : Mark → ℕ) → sum f s.list ≡ stands_sum (length C.trains) w f + blocks_sum (length C.trains) t w f
  pub arrivals : (k : ℕ) → k < length C.trains → minute_of k s.arrived ≡ minute_in (get_or w (16 + k) 0)

-- ---- ended blocks

-- a block that has not ended by t, and not by the later u
ended_term : (t u v x : ℕ) → t ≤ u → tick (ltb t v) * (tick (not (leb v u)) * x) ≡ tick (ltb u v) * x
ended_term t u v x h = go (ltb t v) (ltb u v) refl refl
  where
    go : (a b : Bool) → ltb t v ≡ a → ltb u v ≡ b → tick a * (tick (not (leb v u)) * x) ≡ tick b * x
    go true true q r =
        ap (λ (z : Bool). 1 * (tick (not z) * x)) (lt-leb v u (ltb-true u v r)) ∙ omega (arith, one-mul x)
    go true false q r =
        ap (λ (z : Bool). 1 * (tick (not z) * x)) (le-leb v u (ltb-false u v r)) ∙ omega (arith, zero-mul x)
    go false true q r = let l : u < v = ltb-true u v r in absurd (omega (arith, ltb-false t v q))
    go false false q r = omega (arith, zero-mul (tick (not (leb v u)) * x), zero-mul x)

-- the blocks that have ended by minute u are gone
pub shows_cleared : (C : Case) (t u : ℕ) (w : List ℕ) (s : State Mark) → t ≤ u → Shows C t w s → Shows C u w (cleared (λ m. m) u s)
unfolding ended
shows_cleared C t u w s l h = record {
  size = h.size;
  placed = h.placed;
  sums = λ f.
      sum-keep f (λ m. not (ended u m)) s.list
      ∙ h.sums (λ m. tick (not (ended u m)) * f m)
      ∙ ap₂ ◌+◌
      (sum_below_lem (λ k. 1 * f (stands_in w k)) (λ k. f (stands_in w k)) n (λ k m. one-mul (f (stands_in w k))))
      (sum_below_lem (λ e. sum (λ k. tick (ltb t (end_in w e k)) * (tick (not (leb (end_in w e k) u)) * f (block_in w e k))) (below n)) (λ e. sum (block_term u w f e) (below n)) 65
      (λ e m. sum_below_lem (λ k. tick (ltb t (end_in w e k)) * (tick (not (leb (end_in w e k) u)) * f (block_in w e k))) (block_term u w f e) n
      (λ k q. ended_term t u (end_in w e k) (f (block_in w e k)) l)));
  arrivals = h.arrivals;
}
  where
    n : ℕ
    n = length C.trains
