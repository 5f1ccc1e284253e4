-- Who is held at an element stays so: while nobody moves, until a block on it or on its partner ends; and while trains enter that left neither of the two,
-- since these come to be on more elements and go from none of them. Assumes nothing.
use Rattle.std.specs.Prelude.{◌≡◌, Bool, ◌&&◌, ◌||◌, List, [], ◌∷◌, length, ltb}
use Rattle.std.proofs.Math.Path.{refl, ap, ap₂}
use Rattle.std.proofs.Common.{sym, ◌∙◌}
use Rattle.std.proofs.Math.Bool.{true, false, cond, and-false}
use Rattle.std.proofs.lemmas.Bool.{false≢true}
use Prim.Native.Nat.{ℕ, ◌+◌, ◌*◌, ◌≤◌, ◌<◌}
use native.Mathlib.Omega.{arith}
use Rattle.std.proofs.Math.ListN.{get_or}
use Rattle.std.proofs.Math.Dec.{eqb}
use borrow.Author.Tests.{ltb-true, ltb-false, eqb-true, eqb-false, lt-ltb, le-ltb, ne_eqb}
use Rattle.rules.specs.Lists.{tick, sum, below}
use Rattle.theory_lists.specs.Every.{Every}
use Rattle.theory_lists.specs.Below.{every_below}
use Rattle.moving.specs.Words.{trains_in, holding, crowd, partner_of, across, lets, entered_in, freed_in, reopened_in}
use Rattle.moving.specs.Turns.{least_most, least_each, least_from}
use Rattle.single_laws.specs.Sums.{sum_below_lem}
use Rattle.single_laws.specs.Entering.{entered-others, entered-blocks}

module _ (T w : List ℕ) where
  -- ---- while nobody moves

  -- the blocks on e that had not ended in minute r have not in minute s
  abbrev Blocked : ℕ → ℕ → ℕ → Type 0
  Blocked e r s = (k : ℕ) → k < trains_in T → r < get_or w (24 + e * 8 + k) 0 → s < get_or w (24 + e * 8 + k) 0

  holding_stays : (e r s k : ℕ) → r ≤ s → (r < get_or w (24 + e * 8 + k) 0 → s < get_or w (24 + e * 8 + k) 0) → holding s e w k ≡ holding r e w k
  unfolding holding
  holding_stays e r s k l h = ap (λ (b : Bool). tick (eqb (get_or w k 0) e) + tick b) (go (ltb r end) refl)
    where
      end : ℕ
      end = get_or w (24 + e * 8 + k) 0

      go : (b : Bool) → ltb r end ≡ b → ltb s end ≡ ltb r end
      go true q = lt-ltb s end (h (ltb-true r end q)) ∙ sym q
      go false q = let m : end ≤ r = ltb-false r end q in le-ltb s end (omega arith) ∙ sym q

  crowd-stays : (e r s : ℕ) → r ≤ s → Blocked e r s → crowd T s e w ≡ crowd T r e w
  unfolding crowd
  crowd-stays e r s l h = sum_below_lem (holding s e w) (holding r e w) (trains_in T) (λ k m. holding_stays e r s k l (h k m))

  -- the same of the blocks on the partner of e, if it has one
  abbrev BlockedAcross : ℕ → ℕ → ℕ → Type 0
  BlockedAcross e r s = (partner_of T e ≡ 0 → ⊥) → Blocked (partner_of T e) r s

  across-stays : (e r s : ℕ) → r ≤ s → BlockedAcross e r s → across T s e w ≡ across T r e w
  unfolding across
  across-stays e r s l h = go (eqb (partner_of T e) 0) refl
    where
      go : (b : Bool) → eqb (partner_of T e) 0 ≡ b → cond b 0 (crowd T s (partner_of T e) w) ≡ cond b 0 (crowd T r (partner_of T e) w)
      go true q = refl
      go false q = crowd-stays (partner_of T e) r s l (h (eqb-false (partner_of T e) 0 q))

  lets-stays : (e r s : ℕ) → r ≤ s → Blocked e r s → BlockedAcross e r s → lets T s e w ≡ lets T r e w
  unfolding lets
  lets-stays e r s l h i =
      ap₂ (λ (n m : ℕ). eqb e 64 || (ltb n (get_or T (176 + e) 0) && eqb m 0)) (crowd-stays e r s l h) (across-stays e r s l i)

  -- ---- when that may change

  -- r lies after t and not after b, and before r no block on e ends that has not ended in minute t
  abbrev Until : ℕ → ℕ → ℕ → ℕ → Type 0
  Until t e b r = (r ≤ b) × (t < r) × ((s : ℕ) → s < r → Blocked e t s)

  freed_until : (t e b : ℕ) → t < b → Until t e b (freed_in T t e w b)
  unfolding freed_in
  freed_until t e b before =
      let ends : ℕ → ℕ = λ j. get_or w (24 + e * 8 + j) 0 in (
        least_most (t + 1) ends (trains_in T) 0 b,
        omega (arith, least_from (t + 1) ends (trains_in T) 0 b (omega arith)),
        λ s l j f g. omega (arith, least_each (t + 1) ends (trains_in T) 0 b j (omega arith) (omega arith) (omega arith)),
      )

  -- r lies after t and not after b, and before r it stays who is let in at e
  abbrev Settled : ℕ → ℕ → ℕ → ℕ → Type 0
  Settled t e b r = (r ≤ b) × (t < r) × ((s : ℕ) → t ≤ s → s < r → lets T s e w ≡ lets T t e w)

  pub reopened_settled : (t e b : ℕ) → t < b → Settled t e b (reopened_in T t e w b)
  unfolding reopened_in
  reopened_settled t e b before = go (eqb (partner_of T e) 0) refl
    where
      own : Until t e b (freed_in T t e w b)
      own = freed_until t e b before

      go : (c : Bool) → eqb (partner_of T e) 0 ≡ c → Settled t e b (cond c (freed_in T t e w b) (freed_in T t (partner_of T e) w (freed_in T t e w b)))
      go true q = (own.0, own.1, λ s l m. lets-stays e t s l (own.2 s m) (λ some. absurd (some (eqb-true (partner_of T e) 0 q))))
      go false q =
          let other = freed_until t (partner_of T e) (freed_in T t e w b) own.1 in
          (omega (arith, own.0, other.0), other.1, λ s l m. lets-stays e t s l (own.2 s (omega (arith, other.0))) (λ some. other.2 s m))

-- ---- while others enter elsewhere

-- where no term gets less, no sum does
sum-grows : (f g : ℕ → ℕ) (n : ℕ) → ((k : ℕ) → k < n → f k ≤ g k) → sum f (below n) ≤ sum g (below n)
sum-grows f g n h = go (below n) (every_below n)
  where
    go : (l : List ℕ) → Every (λ k. k < n) l → sum f l ≤ sum g l
    go [] e = omega arith
    go (k ∷ l) e = omega (arith, h k e.0, go l e.1)

-- who is held by so many is held by more
held_more : (out : Bool) (room a b c d : ℕ) → a ≤ b → c ≤ d → (out || (ltb a room && eqb c 0)) ≡ false → (out || (ltb b room && eqb d 0)) ≡ false
held_more true room a b c d l m h = h
held_more false room a b c d l m h = go (ltb a room) (eqb c 0) refl refl h
  where
    go : (x y : Bool) → ltb a room ≡ x → eqb c 0 ≡ y → (x && y) ≡ false → (ltb b room && eqb d 0) ≡ false
    go true true p q r = absurd (false≢true (sym r))
    go true false p q r =
        let some : c ≡ 0 → ⊥ = eqb-false c 0 q in
        ap (λ (z : Bool). ltb b room && z) (ne_eqb d 0 (λ e. some (omega arith))) ∙ and-false (ltb b room)
    go false y p q r = let full : room ≤ a = ltb-false a room p in ap (λ (z : Bool). z && eqb d 0) (le-ltb b room (omega arith))

module _ (T : List ℕ) (t e k : ℕ) (w : List ℕ) (few : k < 8) (place : get_or w k 0 ≤ 65) (size : length w ≡ 544) (all : trains_in T ≤ 8) where
  abbrev left : ℕ
  left = get_or w k 0

  abbrev after : List ℕ
  after = entered_in T t e k w

  holding-grows : (s u j : ℕ) → j < 8 → (u ≡ left → ⊥) → holding s u w j ≤ holding s u after j
  unfolding holding
  holding-grows s u j l d = go (eqb j k) refl
    where
      block : get_or after (24 + u * 8 + j) 0 ≡ get_or w (24 + u * 8 + j) 0
      block = entered-blocks T t e k w few place size u j l (λ h. d h.0)

      stands : List ℕ → ℕ
      stands l = tick (eqb (get_or l j 0) u)

      blocks : List ℕ → ℕ
      blocks l = tick (ltb s (get_or l (24 + u * 8 + j) 0))

      standing : stands w ≤ stands after → stands w + blocks w ≤ stands after + blocks after
      standing h = let same : blocks after ≡ blocks w = ap (λ (v : ℕ). tick (ltb s v)) block in omega arith

      go : (b : Bool) → eqb j k ≡ b → stands w + blocks w ≤ stands after + blocks after
      go true q =
          let own : get_or w j 0 ≡ left = ap (λ (i : ℕ). get_or w i 0) (eqb-true j k q) in
          let none : stands w ≡ 0 = ap tick (ne_eqb (get_or w j 0) u (λ h. d (sym h ∙ own))) in
          standing (omega arith)
      go false q =
          let other : j ≡ k → ⊥ = eqb-false j k q in
          let same : get_or after j 0 ≡ get_or w j 0 = entered-others T t e k w few place size j (omega arith) other (λ h. omega arith) (λ h. omega arith) in
          let kept : stands after ≡ stands w = ap (λ (p : ℕ). tick (eqb p u)) same in
          standing (omega arith)

  crowd-grows : (s u : ℕ) → (u ≡ left → ⊥) → crowd T s u w ≤ crowd T s u after
  unfolding crowd
  crowd-grows s u d = sum-grows (holding s u w) (holding s u after) (trains_in T) (λ j l. holding-grows s u j (omega arith) d)

  across-grows : (s u : ℕ) → (partner_of T u ≡ left → partner_of T u ≡ 0) → across T s u w ≤ across T s u after
  unfolding across
  across-grows s u d = go (eqb (partner_of T u) 0) refl
    where
      go : (b : Bool) → eqb (partner_of T u) 0 ≡ b → cond b 0 (crowd T s (partner_of T u) w) ≤ cond b 0 (crowd T s (partner_of T u) after)
      go true q = omega arith
      go false q = crowd-grows s (partner_of T u) (λ h. eqb-false (partner_of T u) 0 q (d h))

  -- who is held at an element that was not left, nor its partner, is held still
  pub held-still : (s u : ℕ) → (u ≡ left → ⊥) → (partner_of T u ≡ left → partner_of T u ≡ 0) → lets T s u w ≡ false → lets T s u after ≡ false
  unfolding lets
  held-still s u d f =
      held_more (eqb u 64) (get_or T (176 + u) 0) (crowd T s u w) (crowd T s u after) (across T s u w) (across T s u after)
      (crowd-grows s u d) (across-grows s u f)
