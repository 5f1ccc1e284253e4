-- Lists made number by number: a part of fixed width, that is written at its multiple, and the first items of a list by their places.
-- A part stands behind the parts before it; the items go by induction on the list. Assumes nothing.
use Rattle.std.specs.Prelude.{◌≡◌, refl, List, [], ◌∷◌, ◌++◌, ℕ, zero, suc, ◌+◌, ◌*◌, ◌≤◌, length, get_or, take}
use Rattle.std.proofs.Common.{sym, ap, ◌∙◌, arith}
use Rattle.std.proofs.lemmas.List.Edits.{sets}
use Rattle.rules.specs.Lists.{each, below}
use Rattle.theory_lists.specs.Below.{each-below-more, each-span-next, length-parts}
use Rattle.theory_lists.specs.Writes.{sets-append}

-- one part more, written behind the others
pub parts_more : (f : ℕ → List ℕ) (w : ℕ) → ((i : ℕ) → length (f i) ≡ w) → (l : List ℕ) (i : ℕ)
    → sets (sets l 0 (each f (below i))) (i * w) (f i) ≡ sets l 0 (each f (below (i + 1)))
parts_more f w h l i =
    let at : i * w ≡ 0 + length (each f (below i)) = omega (arith, length-parts f w h i) in
    ap (λ (k : ℕ). sets (sets l 0 (each f (below i))) k (f i)) at
    ∙ sets-append (each f (below i)) (f i) l 0
    ∙ ap (sets l 0) (sym (each-below-more f i))

-- the first items of a list, by their places
pub each_take : {A : Type 0} (f : ℕ → List A) (l : List ℕ) (n : ℕ) → n ≤ length l → each (λ i. f (get_or l i 0)) (below n) ≡ each f (take n l)
each_take f l zero h = refl
each_take f [] (suc n) h = absurd (omega arith)
each_take f (a ∷ l) (suc n) h =
    ap (λ z. f a ++ z) (each-span-next (λ i. f (get_or (a ∷ l) i 0)) n 0 ∙ each_take f l n (omega arith))
