-- The moves of one sweep: entries are read one after another, and what is kept is written to the next free place. Each law is an induction on the entries that
-- are still to be read; beside them stand those before the free place, those between it and the place that is read, and those behind. Assumes nothing.
use Rattle.std.specs.Prelude.{◌≡◌, Bool, ℕ, suc, ◌+◌, ◌≤◌, ◌<◌, set}
use Rattle.std.proofs.Math.Path.{refl, sym, ap, ap₂}
use Rattle.std.proofs.Common.{◌∙◌, subst, take-append-drop, length-take-le}
use Rattle.std.proofs.Math.Bool.{true, false, not, cond}
use mathlib.Core.List.{List, [], ◌∷◌, ◌++◌, map, append-nil, append_assoc}
use native.Mathlib.Omega.{arith}
use Rattle.std.proofs.Math.ListN.{length, take, drop, length-append}
use Rattle.std.proofs.Math.Seq.{append_snoc, set-append_seam, drop-append-add, drop-append_seam, drop-drop}
use Rattle.rules.specs.Lists.{one, keep, tick, count, fold}
use Rattle.rules.specs.Sweep.{Move, move, moved, after_moves, Rises, first_to_go, OneSweep}
use Rattle.theory_lists.specs.Each.{each_append}
use Rattle.theory_lists.specs.Every.{Every}
use Rattle.theory_lists.specs.Sums.{length-keep}
use Rattle.theory_lists.specs.Kept.{keep-others}

-- the moves of a loop that reads entries which stand from place i on, where j is the next free place: one turn an entry, and at most one move a turn
unfoldable pub moves_from : {A : Type 0} → (A → Bool) → ℕ → ℕ → List A → List Move
moves_from goes i j [] = []
moves_from goes i j (a ∷ l) = cond (goes a) (moves_from goes (suc i) j l) (move i j ∷ moves_from goes (suc i) (suc j) l)

-- the moves of the sweep of a list: it begins at the first that goes
unfoldable pub sweep_moves : {A : Type 0} → (A → Bool) → List A → List Move
sweep_moves goes l = moves_from goes (first_to_go goes l) (first_to_go goes l) (drop (first_to_go goes l) l)

-- ---- the first that goes

module _ {A : Type 0} (goes : A → Bool) where
  -- none before it goes
  pub first-before : (l : List A) → Every (λ a. goes a ≡ false) (take (first_to_go goes l) l)
  first-before [] = tt
  first-before (a ∷ l) = go (goes a) refl (first-before l)
    where
      go : (b : Bool) → goes a ≡ b → Every (λ a. goes a ≡ false) (take (first_to_go goes l) l) → Every (λ a. goes a ≡ false) (take (cond b 0 (suc (first_to_go goes l))) (a ∷ l))
      go true e h = tt
      go false e h = (e, h)

  pub first-le : (l : List A) → first_to_go goes l ≤ length l
  first-le [] = omega arith
  first-le (a ∷ l) = go (goes a) (first-le l)
    where
      go : (b : Bool) → first_to_go goes l ≤ length l → cond b 0 (suc (first_to_go goes l)) ≤ suc (length l)
      go true h = omega arith
      go false h = omega arith

  -- it is the one that goes after those that do not
  pub first_found : (l : List A) (a : A) (m : List A) → Every (λ a. goes a ≡ false) l → goes a ≡ true → first_to_go goes (l ++ (a ∷ m)) ≡ length l
  first_found [] a m h k = ap (λ (b : Bool). cond b 0 (suc (first_to_go goes m))) k
  first_found (x ∷ l) a m h k = ap₂ (λ (b : Bool) (n : ℕ). cond b 0 (suc n)) h.0 (first_found l a m h.1 k)

  pub first-none : (l : List A) → Every (λ a. goes a ≡ false) l → first_to_go goes l ≡ length l
  first-none [] h = refl
  first-none (x ∷ l) h = ap₂ (λ (b : Bool) (n : ℕ). cond b 0 (suc n)) h.0 (first-none l h.1)

-- ---- places rise

rises-less : (i i' j j' : ℕ) (ms : List Move) → i ≤ i' → j ≤ j' → Rises i' j' ms → Rises i j ms
rises-less i i' j j' [] h k r = tt
rises-less i i' j j' (m ∷ ms) h k r =
    let from : i ≤ m.from = omega (arith, r.0) in
    let to : j ≤ m.to = omega (arith, r.1) in
    (from, to, r.2, r.3)

module _ {A : Type 0} (goes : A → Bool) where
  pub moves_rise : (l : List A) (i j : ℕ) → j < i → Rises i j (moves_from goes i j l)
  unfolding moves_from
  moves_rise [] i j h = tt
  moves_rise (a ∷ l) i j h = go (goes a) (moves_rise l (suc i) j (omega arith)) (moves_rise l (suc i) (suc j) (omega arith))
    where
      go : (b : Bool) → Rises (suc i) j (moves_from goes (suc i) j l) → Rises (suc i) (suc j) (moves_from goes (suc i) (suc j) l)
          → Rises i j (cond b (moves_from goes (suc i) j l) (move i j ∷ moves_from goes (suc i) (suc j) l))
      go true gone stays = rises-less i (suc i) j j (moves_from goes (suc i) j l) (omega arith) (omega arith) gone
      go false gone stays = (omega arith, omega arith, h, stays)

  -- from the first that goes on, which is not moved itself
  sweep_rises : (l : List A) (i j : ℕ) → j ≡ i → Rises (suc i) j (moves_from goes i j (drop (first_to_go goes l) l))
  unfolding moves_from
  sweep_rises [] i j h = tt
  sweep_rises (a ∷ l) i j h = go (goes a) refl (sweep_rises l i j h)
    where
      go : (b : Bool) → goes a ≡ b → Rises (suc i) j (moves_from goes i j (drop (first_to_go goes l) l))
          → Rises (suc i) j (moves_from goes i j (drop (cond b 0 (suc (first_to_go goes l))) (a ∷ l)))
      go true e ih = rw e (moves_rise l (suc i) j (omega arith))
      go false e ih = ih

  -- ---- how many

  pub moves-few : (l : List A) (i j : ℕ) → length (moves_from goes i j l) ≡ count (λ a. not (goes a)) l
  unfolding moves_from
  moves-few [] i j = refl
  moves-few (a ∷ l) i j = go (goes a) (moves-few l (suc i) j) (moves-few l (suc i) (suc j))
    where
      go : (b : Bool) → length (moves_from goes (suc i) j l) ≡ count (λ a. not (goes a)) l → length (moves_from goes (suc i) (suc j) l) ≡ count (λ a. not (goes a)) l
          → length (cond b (moves_from goes (suc i) j l) (move i j ∷ moves_from goes (suc i) (suc j) l)) ≡ tick (not b) + count (λ a. not (goes a)) l
      go true gone stays = omega arith
      go false gone stays = omega arith

-- ---- the list afterwards

-- what stands between the free place and the one that is read, after a move of the entry a that is read: one place on, and a is behind them
abbrev on : {A : Type 0} → List A → A → List A
on [] a = []
on (b ∷ s) a = s ++ (a ∷ [])

module _ {A : Type 0} where
  on-length : (s : List A) (a : A) → length (on s a) ≡ length s
  on-length [] a = refl
  on-length (b ∷ s) a = length-append s (a ∷ []) ∙ omega arith

  on-drop : (n : ℕ) (s : List A) (a : A) (t : List A) → drop (suc n) (s ++ (a ∷ t)) ≡ drop n (on s a ++ t)
  on-drop n [] a t = refl
  on-drop n (b ∷ s) a t = ap (drop n) (sym (append_snoc s a t))

  -- a move of the entry that is read to the free place
  move-on : (p s : List A) (a : A) (t : List A) (i j : ℕ) → j ≡ length p → i ≡ length p + length s
      → moved (move i j) (p ++ (s ++ (a ∷ t))) ≡ p ++ (a ∷ []) ++ (on s a ++ t)
  move-on p s a t i j h k = read ∙ written s
    where
      places : List A → List A
      places s = p ++ (s ++ (a ∷ t))

      read : moved (move i j) (places s) ≡ set (places s) j a
      read = ap (λ (l : List A). fold (λ x l. set l j x) (take 1 l) (places s))
          (ap (λ (n : ℕ). drop n (places s)) k ∙ drop-append-add p (s ++ (a ∷ t)) (length s) ∙ drop-append_seam s (a ∷ t))

      written : (s : List A) → set (places s) j a ≡ p ++ (a ∷ []) ++ (on s a ++ t)
      written [] = ap (λ (n : ℕ). set (p ++ (a ∷ t)) n a) h ∙ set-append_seam p a t a ∙ sym (append_snoc p a t)
      written (b ∷ s) =
          ap (λ (n : ℕ). set (p ++ (b ∷ (s ++ (a ∷ t)))) n a) h
          ∙ set-append_seam p b (s ++ (a ∷ t)) a
          ∙ sym (append_snoc p a (s ++ (a ∷ t)))
          ∙ ap (λ (l : List A). p ++ (a ∷ []) ++ l) (sym (append_snoc s a t))

module _ {A : Type 0} (goes : A → Bool) where
  abbrev kept : List A → List A
  kept l = keep (λ a. not (goes a)) l

  abbrev many : List A → ℕ
  many l = count (λ a. not (goes a)) l

  -- After the turns that read q: what is kept of q stands behind p, and all further places are as they were. Before them p stands before the free place j, s between
  -- it and the place i that is read, and z is not read.
  pub moves-list : (q p s z : List A) (i j : ℕ) → j ≡ length p → i ≡ length p + length s
      → after_moves (moves_from goes i j q) (p ++ (s ++ (q ++ z))) ≡ p ++ (kept q ++ drop (many q) (s ++ (q ++ z)))
  unfolding moves_from
  moves-list [] p s z i j h k = refl
  moves-list (a ∷ q) p s z i j h k =
      go (goes a)
      (moves-list q p (s ++ (a ∷ [])) z (suc i) j h (omega (arith, length-append s (a ∷ []))))
      (moves-list q (p ++ (a ∷ [])) (on s a) z (suc i) (suc j) (omega (arith, length-append p (a ∷ []))) (omega (arith, length-append p (a ∷ []), on-length s a)))
    where
      t : List A
      t = q ++ z

      go : (b : Bool) → after_moves (moves_from goes (suc i) j q) (p ++ (s ++ (a ∷ []) ++ t)) ≡ p ++ (kept q ++ drop (many q) (s ++ (a ∷ []) ++ t))
          → after_moves (moves_from goes (suc i) (suc j) q) (p ++ (a ∷ []) ++ (on s a ++ t)) ≡ p ++ (a ∷ []) ++ (kept q ++ drop (many q) (on s a ++ t))
          → after_moves (cond b (moves_from goes (suc i) j q) (move i j ∷ moves_from goes (suc i) (suc j) q)) (p ++ (s ++ (a ∷ t)))
          ≡ p ++ (one (not b) a ++ kept q ++ drop (tick (not b) + many q) (s ++ (a ∷ t)))
      go true gone stays =
          let n : many q ≡ 0 + many q = omega arith in
          subst (λ (l : List A). after_moves (moves_from goes (suc i) j q) (p ++ l) ≡ p ++ (kept q ++ drop (many q) l)) (append_snoc s a t) gone
          ∙ ap (λ (m : ℕ). p ++ (kept q ++ drop m (s ++ (a ∷ t)))) n
      go false gone stays =
          let n : suc (many q) ≡ 1 + many q = omega arith in
          ap (after_moves (moves_from goes (suc i) (suc j) q)) (move-on p s a t i j h k)
          ∙ stays
          ∙ append_snoc p a (kept q ++ drop (many q) (on s a ++ t))
          ∙ ap (λ (l : List A). p ++ (a ∷ (kept q ++ l))) (sym (on-drop (many q) s a t) ∙ ap (λ (m : ℕ). drop m (s ++ (a ∷ t))) n)

  -- ---- one sweep

  module _ (l : List A) where
    abbrev first : ℕ
    first = first_to_go goes l

    abbrev rest : List A
    rest = drop (first_to_go goes l) l

    first-long : length (take first l) ≡ first
    first-long = length-take-le first l (first-le goes l)

    -- what is kept of the list is what stands before the first that goes, and what is kept from there on
    kept-split : kept l ≡ take first l ++ kept rest
    kept-split =
        ap kept (sym (take-append-drop first l))
        ∙ each_append (λ a. one (not (goes a)) a) (take first l) rest
        ∙ ap (λ (x : List A). x ++ kept rest) (keep-others goes (take first l) (first-before goes l))

    many-split : many l ≡ first + many rest
    many-split = omega (arith, length-keep (λ a. not (goes a)) l, ap length kept-split, length-append (take first l) (kept rest), length-keep (λ a. not (goes a)) rest, first-long)

    swept_list : after_moves (sweep_moves goes l) l ≡ kept l ++ drop (many l) l
    unfolding sweep_moves
    swept_list =
        ap (after_moves (moves_from goes first first rest)) (sym (take-append-drop first l) ∙ ap (λ (x : List A). take first l ++ x) (sym (append-nil rest)))
        ∙ moves-list rest (take first l) [] [] first first (sym first-long) (omega (arith, first-long))
        ∙ sym (append_assoc (take first l) (kept rest) (drop (many rest) (rest ++ [])))
        ∙ ap₂ (λ (x y : List A). x ++ y) (sym kept-split)
        (ap (drop (many rest)) (append-nil rest) ∙ drop-drop (many rest) first l ∙ ap (λ (n : ℕ). drop n l) (sym many-split))

    -- the moves that begin at the first that goes are one sweep
    pub one_sweep : OneSweep goes l (sweep_moves goes l)
    unfolding sweep_moves
    one_sweep = record {
      rises = sweep_rises goes l first first refl;
      few = omega (arith, moves-few goes rest first first);
      list = swept_list;
    }

-- ---- another list, item by item, of which the same go

module _ {A B : Type 0} (f : A → B) (goes : A → Bool) (test : B → Bool) where
  moves-map : (l : List A) → Every (λ a. test (f a) ≡ goes a) l → (i j : ℕ) → moves_from test i j (map f l) ≡ moves_from goes i j l
  unfolding moves_from
  moves-map [] h i j = refl
  moves-map (a ∷ l) h i j =
      ap (λ (b : Bool). cond b (moves_from test (suc i) j (map f l)) (move i j ∷ moves_from test (suc i) (suc j) (map f l))) h.0
      ∙ ap₂ (λ (x y : List Move). cond (goes a) x (move i j ∷ y)) (moves-map l h.1 (suc i) j) (moves-map l h.1 (suc i) (suc j))

  -- from the first that goes on
  rest-map : (l : List A) → Every (λ a. test (f a) ≡ goes a) l → (i j : ℕ)
      → moves_from test i j (drop (first_to_go test (map f l)) (map f l)) ≡ moves_from goes i j (drop (first_to_go goes l) l)
  rest-map [] h i j = moves-map [] h i j
  rest-map (a ∷ l) h i j = ap from h.0 ∙ go (goes a) (moves-map (a ∷ l) h i j) (rest-map l h.1 i j)
    where
      from : Bool → List Move
      from b = moves_from test i j (drop (cond b 0 (suc (first_to_go test (map f l)))) (f a ∷ map f l))

      go : (b : Bool) → moves_from test i j (f a ∷ map f l) ≡ moves_from goes i j (a ∷ l)
          → moves_from test i j (drop (first_to_go test (map f l)) (map f l)) ≡ moves_from goes i j (drop (first_to_go goes l) l)
          → from b ≡ moves_from goes i j (drop (cond b 0 (suc (first_to_go goes l))) (a ∷ l))
      go true all rest = all
      go false all rest = rest

  first-map : (l : List A) → Every (λ a. test (f a) ≡ goes a) l → first_to_go test (map f l) ≡ first_to_go goes l
  first-map [] h = refl
  first-map (a ∷ l) h = ap₂ (λ (b : Bool) (n : ℕ). cond b 0 (suc n)) h.0 (first-map l h.1)

  pub sweep_map : (l : List A) → Every (λ a. test (f a) ≡ goes a) l → sweep_moves test (map f l) ≡ sweep_moves goes l
  unfolding sweep_moves
  sweep_map l h =
      ap (λ (n : ℕ). moves_from test n n (drop (first_to_go test (map f l)) (map f l))) (first-map l h)
      ∙ rest-map l h (first_to_go goes l) (first_to_go goes l)
