-- What a loop over the numbers below n has still to go through, from k on: the number k and what is left from k + 1 on, and nothing at the end.
-- A loop's invariant speaks of that rest, so that each turn uses one clause of the definition. Assumes nothing.
use Rattle.std.specs.Prelude.{◌≡◌, List, [], ◌∷◌, ℕ, suc, ◌+◌, ◌-◌, ◌≤◌, ◌<◌}
use Rattle.std.proofs.Common.{ap, ◌∙◌, arith}
use Rattle.rules.specs.Lists.{fold, span, below}

-- the numbers from k up to n
abbrev pub onward : ℕ → ℕ → List ℕ
onward n k = span (n - k) k

pub onward-all : (n : ℕ) → onward n 0 ≡ below n
onward-all n = let e : n - 0 ≡ n = omega arith in ap (λ (m : ℕ). span m 0) e

pub onward-next : (n k : ℕ) → k < n → onward n k ≡ k ∷ onward n (k + 1)
onward-next n k h =
    let e : n - k ≡ suc (n - (k + 1)) = omega arith in
    let s : suc k ≡ k + 1 = omega arith in
    ap (λ (m : ℕ). span m k) e ∙ ap (λ (j : ℕ). k ∷ span (n - (k + 1)) j) s

pub onward-end : (n k : ℕ) → n ≤ k → onward n k ≡ []
onward-end n k h = let e : n - k ≡ 0 = omega arith in ap (λ (m : ℕ). span m k) e

-- ---- a fold over the rest

module _ {ℓ} {S : Type ℓ} (f : ℕ → S → S) (n k : ℕ) (s : S) where
  pub fold_next : k < n → fold f (onward n k) s ≡ fold f (onward n (k + 1)) (f k s)
  fold_next h = ap (λ (l : List ℕ). fold f l s) (onward-next n k h)

  pub fold_end : n ≤ k → fold f (onward n k) s ≡ s
  fold_end h = ap (λ (l : List ℕ). fold f l s) (onward-end n k h)

pub fold-all {ℓ} : {S : Type ℓ} (f : ℕ → S → S) (n : ℕ) (s : S) → fold f (onward n 0) s ≡ fold f (below n) s
fold-all f n s = ap (λ (l : List ℕ). fold f l s) (onward-all n)
