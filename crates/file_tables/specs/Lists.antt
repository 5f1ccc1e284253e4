-- The laws of a list that is filled from its front: each word, or each row of words, in its turn.
-- Each cuts the list where the next word stands. Assumes nothing.
use Rattle.std.specs.Prelude.{◌≡◌, refl, List, [], ◌∷◌, ◌++◌, ℕ, zero, suc, ◌+◌, ◌-◌, ◌<◌, length, get_or, drop, set, replicate}
use Rattle.std.proofs.Common.{ap, sym, append_assoc, add-one, arith, drop-cons}
use Rattle.std.proofs.lemmas.List.{set_at}

-- ---- filled from the front

module _ {ℓ} {A : Type ℓ} where
  -- the next word
  pub put_next : (p l : List A) (i : ℕ) (v : A) → length p ≡ i → i < length l → set (p ++ drop i l) i v ≡ (p ++ (v ∷ [])) ++ drop (i + 1) l
  put_next p l i v e h =
      rw (add-one i, drop-cons l i v h, set_at p (get_or l i v) (drop (suc i) l) v i e)
      (sym (append_assoc p (v ∷ []) (drop (suc i) l)))

  pub replicate_more : (n : ℕ) (v : A) → replicate (suc n) v ≡ replicate n v ++ (v ∷ [])
  replicate_more zero v = refl
  replicate_more (suc n) v = ap (λ (l : List A). v ∷ l) (replicate_more n v)

  pub drop-replicate : (k n : ℕ) (v : A) → drop k (replicate n v) ≡ replicate (n - k) v
  drop-replicate zero n v = let e : n - 0 ≡ n = omega arith in rw e
  drop-replicate (suc k) zero v = let e : 0 - suc k ≡ 0 = omega arith in rw e
  drop-replicate (suc k) (suc n) v = let e : suc n - suc k ≡ n - k = omega arith in rw e (drop-replicate k n v)
