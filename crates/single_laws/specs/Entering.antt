-- What entering an element changes in the words: the train's place and due minute, its arrival, and the end of its block on what it leaves.
-- Each word is written at an index of its own, and all others stay. Assumes nothing.
use Rattle.std.specs.Prelude.{◌≡◌, Bool, ℕ, ◌+◌, ◌*◌, ◌≤◌, ◌<◌, set, ltb, eqb}
use Rattle.std.proofs.Math.Path.{refl, ap}
use Rattle.std.proofs.Common.{◌∙◌, lt-ltb, le-ltb}
use Rattle.std.proofs.Math.Bool.{true, false, cond}
use mathlib.Core.List.{List}
use native.Mathlib.Omega.{arith}
use Rattle.std.proofs.Math.ListN.{length, get_or, length-set}
use Rattle.std.proofs.Math.Seq.{get_or-set_same, get_or-set_other}
use Rattle.moving.specs.Words.{left_in, stood_in, arrived_in, entered_in}

module _ (T : List ℕ) (t k : ℕ) (w : List ℕ) where
  -- ---- leaving

  left-length : length (left_in T t k w) ≡ length w
  unfolding left_in
  left-length = go (ltb (get_or w k 0) 65)
    where
      go : (b : Bool) → length (cond b (set w (24 + get_or w k 0 * 8 + k) (t + get_or T 2 0)) w) ≡ length w
      go true = simp length-set
      go false = refl

  left_other : (i : ℕ) → (i ≡ 24 + get_or w k 0 * 8 + k → ⊥) → get_or (left_in T t k w) i 0 ≡ get_or w i 0
  unfolding left_in
  left_other i d = go (ltb (get_or w k 0) 65)
    where
      go : (b : Bool) → get_or (cond b (set w (24 + get_or w k 0 * 8 + k) (t + get_or T 2 0)) w) i 0 ≡ get_or w i 0
      go true = get_or-set_other w (24 + get_or w k 0 * 8 + k) i (t + get_or T 2 0) 0 d
      go false = refl

  left-own : get_or w k 0 < 65 → 24 + get_or w k 0 * 8 + k < length w → get_or (left_in T t k w) (24 + get_or w k 0 * 8 + k) 0 ≡ t + get_or T 2 0
  unfolding left_in
  left-own l m =
      ap (λ (b : Bool). get_or (cond b (set w (24 + get_or w k 0 * 8 + k) (t + get_or T 2 0)) w) (24 + get_or w k 0 * 8 + k) 0) (lt-ltb (get_or w k 0) 65 l)
      ∙ get_or-set_same w (24 + get_or w k 0 * 8 + k) (t + get_or T 2 0) 0 m

  left-outside : 65 ≤ get_or w k 0 → left_in T t k w ≡ w
  unfolding left_in
  left-outside l = ap (λ (b : Bool). cond b (set w (24 + get_or w k 0 * 8 + k) (t + get_or T 2 0)) w) (le-ltb (get_or w k 0) 65 l)

module _ (T : List ℕ) (t e k : ℕ) (w : List ℕ) where
  -- ---- standing

  stood-length : length (stood_in T t e k w) ≡ length w
  unfolding stood_in
  stood-length = simp (length-set, length-set)

  stood-other : (i : ℕ) → (i ≡ k → ⊥) → (i ≡ 8 + k → ⊥) → get_or (stood_in T t e k w) i 0 ≡ get_or w i 0
  unfolding stood_in
  stood-other i d f = get_or-set_other (set w k e) (8 + k) i (t + get_or T (1264 + k * 128 + e) 0) 0 f ∙ get_or-set_other w k i e 0 d

  stood-place : k < length w → get_or (stood_in T t e k w) k 0 ≡ e
  unfolding stood_in
  stood-place l = get_or-set_other (set w k e) (8 + k) k (t + get_or T (1264 + k * 128 + e) 0) 0 (λ q. omega arith) ∙ get_or-set_same w k e 0 l

  stood-due : 8 + k < length w → get_or (stood_in T t e k w) (8 + k) 0 ≡ t + get_or T (1264 + k * 128 + e) 0
  unfolding stood_in
  stood-due l = get_or-set_same (set w k e) (8 + k) (t + get_or T (1264 + k * 128 + e) 0) 0 (omega (arith, length-set w k e))

  -- ---- arriving

  abbrev pub written : ℕ → ℕ
  written a = cond (eqb (get_or T (16 + k) 0) e) (cond (eqb a 0) (t + 1) a) a

  arrived-length : length (arrived_in T t e k w) ≡ length w
  unfolding arrived_in
  arrived-length = go (eqb (get_or T (16 + k) 0) e) (eqb (get_or w (16 + k) 0) 0)
    where
      go : (a b : Bool) → length (cond a (cond b (set w (16 + k) (t + 1)) w) w) ≡ length w
      go true true = simp length-set
      go true false = refl
      go false b = refl

  arrived-other : (i : ℕ) → (i ≡ 16 + k → ⊥) → get_or (arrived_in T t e k w) i 0 ≡ get_or w i 0
  unfolding arrived_in
  arrived-other i d = go (eqb (get_or T (16 + k) 0) e) (eqb (get_or w (16 + k) 0) 0)
    where
      go : (a b : Bool) → get_or (cond a (cond b (set w (16 + k) (t + 1)) w) w) i 0 ≡ get_or w i 0
      go true true = get_or-set_other w (16 + k) i (t + 1) 0 d
      go true false = refl
      go false b = refl

  arrived-own : 16 + k < length w → get_or (arrived_in T t e k w) (16 + k) 0 ≡ written (get_or w (16 + k) 0)
  unfolding arrived_in
  arrived-own l = go (eqb (get_or T (16 + k) 0) e) (eqb (get_or w (16 + k) 0) 0)
    where
      go : (a b : Bool) → get_or (cond a (cond b (set w (16 + k) (t + 1)) w) w) (16 + k) 0 ≡ cond a (cond b (t + 1) (get_or w (16 + k) 0)) (get_or w (16 + k) 0)
      go true true = get_or-set_same w (16 + k) (t + 1) 0 l
      go true false = refl
      go false b = refl

-- ---- all of it

module _ (T : List ℕ) (t e k : ℕ) (w : List ℕ) (few : k < 8) (place : get_or w k 0 ≤ 65) (size : length w ≡ 544) where
  abbrev left : List ℕ
  left = left_in T t k w

  abbrev stood : List ℕ
  stood = stood_in T t e k left

  left-size : length left ≡ 544
  left-size = left-length T t k w ∙ size

  stood-size : length stood ≡ 544
  stood-size = stood-length T t e k left ∙ left-size

  pub entered-size : length (entered_in T t e k w) ≡ 544
  unfolding entered_in
  entered-size = arrived-length T t e k stood ∙ stood-size

  pub entered-place : get_or (entered_in T t e k w) k 0 ≡ e
  unfolding entered_in
  entered-place = arrived-other T t e k stood k (λ q. omega arith) ∙ stood-place T t e k left (omega (arith, left-size))

  pub entered-due : get_or (entered_in T t e k w) (8 + k) 0 ≡ t + get_or T (1264 + k * 128 + e) 0
  unfolding entered_in
  entered-due = arrived-other T t e k stood (8 + k) (λ q. omega arith) ∙ stood-due T t e k left (omega (arith, left-size))

  -- the words below 24 of the other trains
  pub entered-others : (i : ℕ) → i < 24 → (i ≡ k → ⊥) → (i ≡ 8 + k → ⊥) → (i ≡ 16 + k → ⊥) → get_or (entered_in T t e k w) i 0 ≡ get_or w i 0
  unfolding entered_in
  entered-others i l a b c =
      arrived-other T t e k stood i c ∙ stood-other T t e k left i a b ∙ left_other T t k w i (λ q. omega arith)

  pub entered-arrival : get_or (entered_in T t e k w) (16 + k) 0 ≡ written T t e k w (get_or w (16 + k) 0)
  unfolding entered_in
  entered-arrival =
      arrived-own T t e k stood (omega (arith, stood-size))
      ∙ ap (written T t e k w) (stood-other T t e k left (16 + k) (λ q. omega arith) (λ q. omega arith) ∙ left_other T t k w (16 + k) (λ q. omega arith))

  -- the blocks of other trains, and on other elements
  pub entered-blocks : (i j : ℕ) → j < 8 → ((i ≡ get_or w k 0) × (j ≡ k) → ⊥) → get_or (entered_in T t e k w) (24 + i * 8 + j) 0 ≡ get_or w (24 + i * 8 + j) 0
  unfolding entered_in
  entered-blocks i j l d =
      arrived-other T t e k stood (24 + i * 8 + j) (λ q. omega arith)
      ∙ stood-other T t e k left (24 + i * 8 + j) (λ q. omega arith) (λ q. omega arith)
      ∙ left_other T t k w (24 + i * 8 + j) (λ q. d (omega arith, omega arith))

  -- its block on what it leaves
  pub entered-block : get_or w k 0 < 65 → get_or (entered_in T t e k w) (24 + get_or w k 0 * 8 + k) 0 ≡ t + get_or T 2 0
  unfolding entered_in
  entered-block l =
      arrived-other T t e k stood (24 + get_or w k 0 * 8 + k) (λ q. omega arith)
      ∙ stood-other T t e k left (24 + get_or w k 0 * 8 + k) (λ q. omega arith) (λ q. omega arith)
      ∙ left-own T t k w l (omega arith)

  -- nothing outside is blocked
  pub entered-outside : 65 ≤ get_or w k 0 → (i j : ℕ) → get_or (entered_in T t e k w) (24 + i * 8 + j) 0 ≡ get_or w (24 + i * 8 + j) 0
  unfolding entered_in
  entered-outside l i j =
      arrived-other T t e k stood (24 + i * 8 + j) (λ q. omega arith)
      ∙ stood-other T t e k left (24 + i * 8 + j) (λ q. omega arith) (λ q. omega arith)
      ∙ ap (λ (u : List ℕ). get_or u (24 + i * 8 + j) 0) (left-outside T t k w l)
