-- Laws of `fold`: of two lists together, of a list made by `map`, and what each step keeps. Each is an induction on the list. Assumes nothing.
use Rattle.std.specs.Prelude.{◌≡◌, refl, List, [], ◌∷◌, ◌++◌, map, ℕ, zero, suc, ◌+◌, ◌≤◌}
use Rattle.std.proofs.Common.{ap, ◌∙◌, arith}
use Rattle.rules.specs.Lists.{fold, span, below}

pub fold-append {ℓ κ} : {A : Type ℓ} {S : Type κ} (f : A → S → S) (l m : List A) (s : S) → fold f (l ++ m) s ≡ fold f m (fold f l s)
fold-append f [] m s = refl
fold-append f (a ∷ l) m s = fold-append f l m (f a s)

pub fold-map {ℓ κ μ} : {A : Type ℓ} {B : Type μ} {S : Type κ} (f : B → S → S) (g : A → B) (l : List A) (s : S) → fold f (map g l) s ≡ fold (λ a. f (g a)) l s
fold-map f g [] s = refl
fold-map f g (a ∷ l) s = fold-map f g l (f (g a) s)

-- what each step keeps, a fold keeps
pub fold_keeps {ℓ κ μ} : {A : Type ℓ} {S : Type κ} (P : S → Type μ) (f : A → S → S) → ((a : A) (s : S) → P s → P (f a s)) → (l : List A) (s : S) → P s → P (fold f l s)
fold_keeps P f h [] s p = p
fold_keeps P f h (a ∷ l) s p = fold_keeps P f h l (f a s) (h a s p)

-- two folds that agree where an invariant holds, which the second keeps
pub fold-agree {ℓ κ μ} : {A : Type ℓ} {S : Type κ} (P : S → Type μ) (f g : A → S → S) → ((a : A) (s : S) → P s → f a s ≡ g a s) → ((a : A) (s : S) → P s → P (g a s))
    → (l : List A) (s : S) → P s → fold f l s ≡ fold g l s
fold-agree P f g h k [] s p = refl
fold-agree P f g h k (a ∷ l) s p = ap (fold f l) (h a s p) ∙ fold-agree P f g h k l (g a s) (k a s p)

fold-span {κ} : {S : Type κ} (f : ℕ → S → S) (m n i : ℕ) → n ≤ m → ((j : ℕ) (s : S) → n + i ≤ j → f j s ≡ s) → (s : S) → fold f (span m i) s ≡ fold f (span n i) s
fold-span f zero zero i h same s = refl
fold-span f zero (suc n) i h same s = absurd (omega arith)
fold-span f (suc m) zero i h same s =
    ap (fold f (span m (suc i))) (same i s (omega arith)) ∙ fold-span f m 0 (suc i) (omega arith) (λ j u l. same j u (omega arith)) s
fold-span f (suc m) (suc n) i h same s = fold-span f m n (suc i) (omega arith) (λ j u l. same j u (omega arith)) (f i s)

-- numbers from n on that change nothing may be left out
pub fold-below {κ} : {S : Type κ} (f : ℕ → S → S) (m n : ℕ) → n ≤ m → ((j : ℕ) (s : S) → n ≤ j → f j s ≡ s) → (s : S) → fold f (below m) s ≡ fold f (below n) s
fold-below f m n h same s = fold-span f m n 0 h (λ j u l. same j u (omega arith)) s
