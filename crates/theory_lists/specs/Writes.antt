-- Writing a list into lent memory from a place on: what does not fit is left out, and the next place is then the memory's length.
-- Two writings, one after the other, are one of both lists, so no law asks whether there is room. Assumes nothing.
use Rattle.std.specs.Prelude.{◌≡◌, refl, List, [], ◌∷◌, ◌++◌, ℕ, zero, suc, ◌+◌, ◌-◌, min, ◌≤◌, ◌<◌, length, take, drop, get_or, set, replicate}
use Rattle.std.proofs.Common.{sym, ap, ◌∙◌, subst, arith, length-append, length-take-le, take-suc}
use Rattle.std.proofs.Math.Decide.{dec_le}
use Rattle.std.proofs.lemmas.List.Edits.{sets, sets-eq}
use Rattle.std.proofs.Math.Seq.{length-sets, set_out, take-append_seam}

-- the numbers L are written into l from the place w on: it is then l', and r is the next place
pub record Put (l : List ℕ) (w : ℕ) (L : List ℕ) (r : ℕ) (l' : List ℕ) : Type 0 where
  pub place : r ≡ min (w + length L) (length l)
  pub list : l' ≡ sets l w L

-- ---- lists that are written

-- the first of two lists together are the first of the one, and of the other as many as are left
pub take-append : {A : Type 0} (n : ℕ) (a b : List A) → take n (a ++ b) ≡ take n a ++ take (n - length a) b
take-append zero [] b = refl
take-append zero (x ∷ a) b = let e : 0 ≡ 0 - suc (length a) = omega arith in ap (λ (k : ℕ). take k b) e
take-append (suc n) [] b = let e : suc n ≡ suc n - 0 = omega arith in ap (λ (k : ℕ). take k b) e
take-append (suc n) (x ∷ a) b =
    let e : n - length a ≡ suc n - suc (length a) = omega arith in
    ap (λ l. x ∷ l) (take-append n a b ∙ ap (λ (k : ℕ). take n a ++ take k b) e)

-- one number more
pub take_more : (i : ℕ) (l : List ℕ) → i < length l → take (i + 1) l ≡ take i l ++ (get_or l i 0 ∷ [])
take_more i l h = let e : i + 1 ≡ suc i = omega arith in ap (λ (z : ℕ). take z l) e ∙ take-suc l i 0 h

pub sets-out : (vs l : List ℕ) (i : ℕ) → length l ≤ i → sets l i vs ≡ l
sets-out [] l i h = refl
sets-out (v ∷ vs) l i h = rw (set_out l i v) (sets-out vs l (suc i) (omega arith))

-- what is written after a list is written with it
pub sets-append : (a b l : List ℕ) (i : ℕ) → sets (sets l i a) (i + length a) b ≡ sets l i (a ++ b)
sets-append [] b l i = ap (λ (k : ℕ). sets l k b) (omega arith)
sets-append (x ∷ a) b l i = ap (λ (k : ℕ). sets (sets (set l i x) (suc i) a) k b) (omega arith) ∙ sets-append a b (set l i x) (suc i)

-- where the first did not fit, nothing of the second is written
pub sets_join : (l a b : List ℕ) (w r : ℕ) → r ≡ min (w + length a) (length l) → sets (sets l w a) r b ≡ sets l w (a ++ b)
sets_join l a b w r h = go (dec_le (w + length a) (length l))
  where
    go : Dec (w + length a ≤ length l) → sets (sets l w a) r b ≡ sets l w (a ++ b)
    go (yes fits) = ap (λ (k : ℕ). sets (sets l w a) k b) (omega arith) ∙ sets-append a b l w
    go (no over) =
        sets-out b (sets l w a) r (omega (arith, length-sets l w a))
        ∙ sym (sets-out b (sets l w a) (w + length a) (omega (arith, length-sets l w a)))
        ∙ sets-append a b l w

-- ---- memory of zeros

pub zeros-at : (n i : ℕ) → get_or (replicate {A = ℕ} n 0) i 0 ≡ 0
zeros-at zero i = refl
zeros-at (suc n) zero = refl
zeros-at (suc n) (suc i) = zeros-at n i

-- ---- what was put

pub put_none : (l : List ℕ) (w : ℕ) → w ≤ length l → Put l w [] w l
put_none l w h = record { place = omega arith; list = refl }

pub put_one : (l : List ℕ) (w x : ℕ) → w < length l → Put l w (x ∷ []) (w + 1) (set l w x)
put_one l w x h = record { place = omega arith; list = refl }

pub put_full : (l : List ℕ) (w : ℕ) (L : List ℕ) (r : ℕ) → length l ≤ w → r ≡ length l → Put l w L r l
put_full l w L r h e = record { place = omega arith; list = sym (sets-out L l w h) }

pub put_length : {l : List ℕ} {w : ℕ} {L : List ℕ} {r : ℕ} {l' : List ℕ} → Put l w L r l' → length l' ≡ length l
put_length {l} {w} {L} h = ap length h.list ∙ length-sets l w L

pub put_fits : {l : List ℕ} {w : ℕ} {L : List ℕ} {r : ℕ} {l' : List ℕ} → Put l w L r l' → r ≤ length l'
put_fits {l} {w} {L} h = omega (arith, put_length h, h.place)

pub put_join : {l : List ℕ} {w : ℕ} {a : List ℕ} {r : ℕ} {k : List ℕ} {b : List ℕ} {z : ℕ} {m : List ℕ} → Put l w a r k → Put k r b z m → Put l w (a ++ b) z m
put_join {l} {w} {a} {r} {k} {b} {z} {m} f g = record {
  place = omega (arith, put_length f, length-append a b, g.place, f.place);
  list = g.list ∙ ap (λ (e : List ℕ). sets e r b) f.list ∙ sets_join l a b w r f.place;
}

-- the same list, by another name
pub put_as : {l : List ℕ} {w : ℕ} {L M : List ℕ} {r : ℕ} {l' : List ℕ} → Put l w L r l' → L ≡ M → Put l w M r l'
put_as {l} {w} {L} {M} {r} {l'} h e = subst (λ (K : List ℕ). Put l w K r l') e h

-- what is written and fits stands after what stood there
pub put_taken : {l : List ℕ} {w : ℕ} {L : List ℕ} {r : ℕ} {l' : List ℕ} → Put l w L r l' → w + length L ≤ length l → take r l' ≡ take w l ++ L
put_taken {l} {w} {L} {r} {l'} h fits =
    let e : r ≡ length (take w l ++ L) = omega (arith, h.place, length-append (take w l) L, length-take-le w l (omega arith)) in
    rw (h.list, sets-eq L l w fits, e) (take-append_seam (take w l ++ L) (drop (w + length L) l))

-- the first words are the list L where it is shorter than the lent memory; else r is its length
pub put_start : {l : List ℕ} {L : List ℕ} {r : ℕ} {l' : List ℕ} → Put l 0 L r l' → length L ≤ length l → take r l' ≡ L
put_start {l} {L} {r} {l'} h fits = put_taken h (omega arith)
