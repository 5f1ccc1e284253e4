-- What the functions' proofs cite: one digit more, the parts of each line, one minute or train more.
-- A line is its numbers and the bytes after them, one after the other. Assumes nothing.
use mathlib.Core.Path.{◌≡◌, refl, sym, ap, ◌∙◌}
use mathlib.Core.Bool.{Bool, true, false, cond}
use mathlib.Core.List.{List, [], ◌∷◌, ◌++◌, append_assoc}
use Prim.Native.Nat.{ℕ, zero, suc, ◌+◌, ◌-◌, ◌/◌, ◌%◌, ◌^◌, ◌≤◌, ◌<◌}
use native.Mathlib.Nat.{pow-succ', pow-le-pow_right}
use native.Mathlib.Numerals.{add-one}
use native.Mathlib.Omega.{arith}
use lib.ListN.{length, get_or, take}
use lib.Seq.{take-suc}
use lib.Dec.{ltb}
use borrow.Author.Tests.{ltb-false, lt-ltb, le-ltb}
use Rattle.rules.specs.Lists.{sum, below}
use Rattle.rules.specs.Listing.{digits, decimal, minute_line, refused_line}
use Rattle.theory_lists.specs.Sums.{sum-append}
use Rattle.theory_lists.specs.Below.{below_more, each-below-more}
use Rattle.out_listing.specs.Text.{held_at, minute_lines, left_of, last_line, lines_of, trains_lines, first_line, text_from}

-- ---- digits

-- a number below 10 to the n, n at least 1, has the same digits where more are allowed
digits_more : (n v : ℕ) → v < 10 ^ suc n → digits (suc n) v ≡ digits (suc (suc n)) v
digits_more zero v h = go (ltb v 10) refl
  where
    go : (b : Bool) → ltb v 10 ≡ b → cond b [] [] ++ ((48 + v % 10) ∷ []) ≡ cond b [] (digits 1 (v / 10)) ++ ((48 + v % 10) ∷ [])
    go true q = refl
    go false q = absurd (omega (arith, ltb-false v 10 q, pow-succ' 10 0))
digits_more (suc n) v h = go (ltb v 10) (digits_more n (v / 10) (omega (arith, pow-succ' 10 (suc n))))
  where
    go : (b : Bool) → digits (suc n) (v / 10) ≡ digits (suc (suc n)) (v / 10)
        → cond b [] (digits (suc n) (v / 10)) ++ ((48 + v % 10) ∷ []) ≡ cond b [] (digits (suc (suc n)) (v / 10)) ++ ((48 + v % 10) ∷ [])
    go true ih = refl
    go false ih = ap (λ (l : List ℕ). l ++ ((48 + v % 10) ∷ [])) ih

pub decimal-one : (v : ℕ) → v < 10 → (48 + v % 10) ∷ [] ≡ decimal v
unfolding decimal
decimal-one v h = simp (lt-ltb v 10 h)

pub decimal-more : (v : ℕ) → 10 ≤ v → v < 2 ^ 64 → decimal (v / 10) ++ ((48 + v % 10) ∷ []) ≡ decimal v
unfolding decimal
decimal-more v h l =
    ap (λ (d : List ℕ). d ++ ((48 + v % 10) ∷ [])) (sym (digits_more 18 (v / 10) (omega arith)))
    ∙ ap (λ (b : Bool). cond b [] (digits 19 (v / 10)) ++ ((48 + v % 10) ∷ [])) (sym (le-ltb v 10 h))

-- ---- lines

-- a number and the byte after it
abbrev pub number_then : ℕ → ℕ → List ℕ
number_then v end = decimal v ++ (end ∷ [])

pub minute-none : (k t w : ℕ) → w ≡ 0 → [] ≡ minute_line k t w
minute-none k t zero h = refl
minute-none k t (suc w) h = absurd (omega arith)

pub minute-some : (k t w : ℕ) → (w ≡ 0 → ⊥) → number_then k 32 ++ number_then t 32 ++ number_then w 10 ≡ minute_line k t w
minute-some k t zero h = absurd (h refl)
minute-some k t (suc w) h = simp append_assoc

pub last-parts : (k rest : ℕ) → number_then k 32 ++ (45 ∷ 32 ∷ []) ++ number_then rest 10 ≡ last_line k rest
unfolding last_line
last-parts k rest = simp append_assoc

pub first-parts : (whole : ℕ) → (116 ∷ 111 ∷ 116 ∷ 97 ∷ 108 ∷ 32 ∷ []) ++ number_then whole 10 ≡ first_line whole
unfolding first_line
first-parts whole = refl

pub refused-parts : (n f p : ℕ)
    → (114 ∷ 101 ∷ 102 ∷ 117 ∷ 115 ∷ 101 ∷ 100 ∷ 32 ∷ []) ++ number_then n 32 ++ number_then f 32 ++ number_then p 10 ≡ refused_line (record { number = n; file = f; place = p })
unfolding refused_line
refused-parts n f p = simp append_assoc

-- ---- one byte, one minute, one train more

pub word_more : (word : List ℕ) (i : ℕ) → i < length word → take i word ++ (get_or word i 0 ∷ []) ≡ take (i + 1) word
word_more word i h = sym (ap (λ (n : ℕ). take n word) (add-one i) ∙ take-suc word i 0 h)

pub minutes-more : (ws : List ℕ) (k t : ℕ) → minute_lines ws k t ++ minute_line k t (held_at ws k t) ≡ minute_lines ws k (t + 1)
unfolding minute_lines
minutes-more ws k t = sym (each-below-more (λ t. minute_line k t (held_at ws k t)) t)

pub minutes-none : (ws : List ℕ) (k : ℕ) → [] ≡ minute_lines ws k 0
unfolding minute_lines
minutes-none ws k = refl

pub left-more : (whole : ℕ) (ws : List ℕ) (k t : ℕ) → left_of whole ws k t - held_at ws k t ≡ left_of whole ws k (t + 1)
unfolding left_of
left-more whole ws k t =
    omega (arith, ap (sum (held_at ws k)) (below_more t), sum-append (held_at ws k) (below t) (t ∷ []))

pub left-none : (whole : ℕ) (ws : List ℕ) (k : ℕ) → whole ≡ left_of whole ws k 0
unfolding left_of
left-none whole ws k = omega arith

pub trains-more : (whole last : ℕ) (ws : List ℕ) (n : ℕ) → trains_lines whole last ws n ++ lines_of whole last ws n ≡ trains_lines whole last ws (n + 1)
unfolding trains_lines
trains-more whole last ws n = sym (each-below-more (lines_of whole last ws) n)

pub trains-none : (whole last : ℕ) (ws : List ℕ) → [] ≡ trains_lines whole last ws 0
unfolding trains_lines
trains-none whole last ws = refl

-- ---- the whole text

pub lines_parts : (whole last : ℕ) (ws : List ℕ) (k rest : ℕ) → rest ≡ left_of whole ws k (last + 1) → minute_lines ws k (last + 1) ++ last_line k rest ≡ lines_of whole last ws k
unfolding lines_of
lines_parts whole last ws k rest h = ap (λ (n : ℕ). minute_lines ws k (last + 1) ++ last_line k n) h

pub text-parts : (whole trains last : ℕ) (ws : List ℕ) (k : ℕ) → whole ≡ 100 ^ trains → k ≡ trains → first_line whole ++ trains_lines whole last ws k ≡ text_from trains last ws
unfolding text_from
text-parts whole trains last ws k h e =
    ap (λ (n : ℕ). first_line whole ++ trains_lines whole last ws n) e ∙ ap (λ (w : ℕ). first_line w ++ trains_lines w last ws trains) h

-- ---- the whole weight

pub whole-few : (n : ℕ) → n ≤ 8 → 100 ^ n ≤ 100 ^ 8
whole-few n h = pow-le-pow_right {n = 100} (omega arith) {i = n} {j = 8} (omega arith)
