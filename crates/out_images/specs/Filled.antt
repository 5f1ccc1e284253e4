-- Memory that is cleared and then written from its start on is filled with what was written.
-- Both sides are the list, the zeros after it and the memory past the required part. Assumes nothing.
use Rattle.std.specs.Prelude.{◌≡◌, List, [], ◌++◌, ℕ, suc, ◌+◌, ◌-◌, ◌≤◌, ◌<◌, length, get_or, drop, set, replicate}
use Rattle.std.proofs.Common.{sym, ap, ap₂, ◌∙◌, append_assoc, append-nil, arith, add-one, length-append, length-drop, drop-cons, drop_at}
use Rattle.std.proofs.lemmas.List.{length-replicate, replicate-append-replicate, set_at, drop-append-le}
use Rattle.std.proofs.lemmas.List.Edits.{sets, sets-eq}
use Rattle.std.proofs.Math.Seq.{append_snoc}
use Rattle.rules.specs.Calls.{filled}

-- cleared up to i
abbrev pub cleared : ℕ → List ℕ → List ℕ
cleared i l = replicate i 0 ++ drop i l

pub cleared-length : (i : ℕ) (l : List ℕ) → i ≤ length l → length (cleared i l) ≡ length l
cleared-length i l h = omega (arith, length-append (replicate {A = ℕ} i 0) (drop i l), length-replicate {A = ℕ} i 0, length-drop i l)

-- one byte more
pub cleared_more : (i : ℕ) (l : List ℕ) → i < length l → set (cleared i l) i 0 ≡ cleared (i + 1) l
cleared_more i l h =
    ap (λ (z : List ℕ). set (replicate i 0 ++ z) i 0) (drop-cons l i 0 h)
    ∙ set_at (replicate {A = ℕ} i 0) (get_or l i 0) (drop (suc i) l) 0 i (length-replicate {A = ℕ} i 0)
    ∙ sym (append_snoc (replicate {A = ℕ} i 0) 0 (drop (suc i) l))
    ∙ ap₂ ◌++◌ (replicate-append-replicate {A = ℕ} i 1 0) (ap (λ (k : ℕ). drop k l) (sym (add-one i)))

pub cleared-filled : (n : ℕ) (l : List ℕ) → cleared n l ≡ filled n [] l
unfolding filled
cleared-filled n l =
    let all : n ≡ n - 0 = omega arith in
    ap (λ (k : ℕ). replicate {A = ℕ} k 0 ++ drop n l) all

drop-zeros : (n k : ℕ) → k ≤ n → drop k (replicate {A = ℕ} n 0) ≡ replicate (n - k) 0
drop-zeros n k h =
    let whole : k + (n - k) ≡ n = omega arith in
    ap (λ (m : ℕ). drop k (replicate {A = ℕ} m 0)) (sym whole)
    ∙ ap (drop k) (sym (replicate-append-replicate {A = ℕ} k (n - k) 0))
    ∙ drop_at (replicate {A = ℕ} k 0) (replicate {A = ℕ} (n - k) 0) k (length-replicate {A = ℕ} k 0)

-- what is written into cleared memory
pub filled-sets : (n : ℕ) (image l : List ℕ) → n ≤ length l → length image ≤ n → sets (filled n [] l) 0 image ≡ filled n image l
unfolding filled
filled-sets n image l h k =
    let long : 0 + length image ≤ length (cleared n l) = omega (arith, cleared-length n l h) in
    let past : 0 + length image ≡ length image = omega arith in
    ap (λ (m : List ℕ). sets m 0 image) (sym (cleared-filled n l))
    ∙ sets-eq image (cleared n l) 0 long
    ∙ ap (λ (i : ℕ). image ++ drop i (cleared n l)) past
    ∙ ap (λ (z : List ℕ). image ++ z) (drop-append-le (length image) (replicate {A = ℕ} n 0) (drop n l) (omega (arith, length-replicate {A = ℕ} n 0)))
    ∙ ap (λ (z : List ℕ). image ++ (z ++ drop n l)) (drop-zeros n (length image) k)
    ∙ sym (append_assoc image (replicate {A = ℕ} (n - length image) 0) (drop n l))

-- an image that fills the required part needs no clearing
pub filled-whole : (n : ℕ) (image l : List ℕ) → n ≤ length l → length image ≡ n → sets l 0 image ≡ filled n image l
unfolding filled
filled-whole n image l h k =
    let none : 0 ≡ n - length image = omega arith in
    let past : 0 + length image ≡ n = omega arith in
    sets-eq image l 0 (omega arith)
    ∙ ap (λ (i : ℕ). image ++ drop i l) past
    ∙ ap (λ (z : List ℕ). z ++ drop n l) (sym (append-nil image))
    ∙ ap (λ (i : ℕ). image ++ replicate {A = ℕ} i 0 ++ drop n l) none
