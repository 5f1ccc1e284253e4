-- Who is served next: `next` finds the one asker that is sooner than all askers before it and than whom none after it is sooner. There is one if anybody asks.
-- The order of priority and train number is a weak order, so the first of the later rows settles the comparison with all of them. Assumes nothing.
use Rattle.std.specs.Prelude.{◌≡◌, refl, Bool, false, ◌&&◌, ◌||◌, cond, ℕ, ◌≤◌, ◌<◌, ltb, eqb}
use Rattle.std.proofs.Common.{sym, ap₂, ◌∙◌, subst, arith, ltb-true, ltb-false, eqb-true, le-ltb}
use Rattle.std.proofs.Math.Path.{ap}
use Rattle.std.proofs.Math.Bool.{true, not, or-true}
use Rattle.std.proofs.lemmas.Bool.{false≢true, eqb-false}
use mathlib.Core.List.{List, [], ◌∷◌, ◌++◌}
use Rattle.rules.specs.Lists.{any}
use Rattle.rules.specs.Files.{Case}
use Rattle.rules.specs.Turns.{Mark, train_at, sooner, Row, row, Turn, Rules, behind, find, goes_first, next}
use Rattle.rules.specs.Turns.Turn.{nobody, somebody}
use Rattle.theory_lists.specs.Every.{Every, every_append, every_more, any_none, any_append}

-- ---- the order: by priority p, then by train number k

abbrev comes_before : ℕ → ℕ → ℕ → ℕ → Bool
comes_before p k q j = ltb p q || (eqb p q && ltb k j)

-- not before: the other's priority is no greater, and at equal priorities nor is its number
record NotBefore (p k q j : ℕ) : Type 0 where
  lower : q ≤ p
  level : p ≡ q → j ≤ k

not-before : (p k q j : ℕ) → comes_before p k q j ≡ false → NotBefore p k q j
not-before p k q j h = go (ltb p q) (eqb p q) (ltb k j) refl refl refl h
  where
    go : (a b c : Bool) → ltb p q ≡ a → eqb p q ≡ b → ltb k j ≡ c → (a || (b && c)) ≡ false → NotBefore p k q j
    go true b c f g i h = absurd (false≢true (sym h))
    go false true true f g i h = absurd (false≢true (sym h))
    go false true false f g i h = record { lower = ltb-false p q f; level = λ e. ltb-false k j i }
    go false false c f g i h = record { lower = ltb-false p q f; level = λ e. absurd (eqb-false p q g e) }

before-not : (p k q j : ℕ) → NotBefore p k q j → comes_before p k q j ≡ false
before-not p k q j h = ap (λ (z : Bool). z || (eqb p q && ltb k j)) (le-ltb p q h.lower) ∙ go (eqb p q) refl
  where
    go : (b : Bool) → eqb p q ≡ b → (b && ltb k j) ≡ false
    go true g = le-ltb k j (h.level (eqb-true p q g))
    go false g = refl

before_asym : (p k q j : ℕ) → comes_before p k q j ≡ true → NotBefore q j p k
before_asym p k q j h = go (ltb p q) (eqb p q) (ltb k j) refl refl refl h
  where
    go : (a b c : Bool) → ltb p q ≡ a → eqb p q ≡ b → ltb k j ≡ c → (a || (b && c)) ≡ true → NotBefore q j p k
    go true b c f g i h = let l : p < q = ltb-true p q f in record { lower = omega arith; level = λ e. omega arith }
    go false true true f g i h = let l : k < j = ltb-true k j i in record { lower = omega (arith, eqb-true p q g); level = λ e. omega arith }
    go false true false f g i h = absurd (false≢true h)
    go false false c f g i h = absurd (false≢true h)

not-before_trans : (p k q j r i : ℕ) → NotBefore p k q j → NotBefore q j r i → NotBefore p k r i
not-before_trans p k q j r i h l = record { lower = omega (arith, h.lower, l.lower); level = λ e. go e }
  where
    go : p ≡ r → i ≤ k
    go e =
        let a : p ≡ q = omega (arith, h.lower, l.lower) in
        let b : q ≡ r = omega (arith, h.lower, l.lower) in
        omega (arith, h.level a, l.level b)

-- one that is no sooner than one that is no sooner than a third is no sooner than the third
pub sooner_trans : (C : Case) (a b c : Mark) → sooner C a b ≡ false → sooner C b c ≡ false → sooner C a c ≡ false
unfolding sooner
sooner_trans C a b c h l =
    before-not (pr a) a.train (pr c) c.train
    (not-before_trans (pr a) a.train (pr b) b.train (pr c) c.train
    (not-before (pr a) a.train (pr b) b.train h)
    (not-before (pr b) b.train (pr c) c.train l))
  where
    pr : Mark → ℕ
    pr m = (train_at C m.train).priority

pub sooner_asym : (C : Case) (a b : Mark) → sooner C a b ≡ true → sooner C b a ≡ false
unfolding sooner
sooner_asym C a b h = before-not (pr b) b.train (pr a) a.train (before_asym (pr a) a.train (pr b) b.train h)
  where
    pr : Mark → ℕ
    pr m = (train_at C m.train).priority

pub sooner_self : (C : Case) (a : Mark) → sooner C a a ≡ false
sooner_self C a = go (sooner C a a) refl
  where
    go : (b : Bool) → sooner C a a ≡ b → sooner C a a ≡ false
    go true e = sooner_asym C a a e
    go false e = e

-- ---- the next asker

-- a property of the mark of a row that asks
abbrev pub Asking : {A : Type 0} → Rules A → (Mark → Type 0) → Row A → Type 0
Asking R P r = r.asking ≡ true → P (R.mark r.item)

-- the asker a, with the rows b before it and c after it, goes first
pub record First {A : Type 0} (C : Case) (R : Rules A) (rs b : List (Row A)) (a : A) (c : List (Row A)) : Type 0 where
  pub apart : rs ≡ b ++ (row a true ∷ c)
  pub earlier : Every (Asking R (λ m. sooner C (R.mark a) m ≡ true)) b
  pub later : Every (Asking R (λ m. sooner C m (R.mark a) ≡ false)) c

-- nobody asks, or the one goes first
abbrev pub Chosen : {A : Type 0} → Case → Rules A → List (Row A) → Turn A → Type 0
Chosen C R rs nobody = Every (λ r. r.asking ≡ false) rs
Chosen C R rs (somebody b a c) = First C R rs b a c

-- ---- finding a row

module _ {A : Type 0} (test : Row A → Bool) where
  find_none : (rs : List (Row A)) → Every (λ r. test r ≡ false) rs → find test rs ≡ nobody
  find_none [] h = refl
  find_none (r ∷ rs) h = ap₂ (λ (z : Bool) (u : Turn A). cond z (somebody [] r.item rs) (behind r u)) h.0 (find_none rs h.1)

  find_first : (b : List (Row A)) (a : A) (c : List (Row A)) → Every (λ r. test r ≡ false) b → test (row a true) ≡ true → find test (b ++ (row a true ∷ c)) ≡ somebody b a c
  find_first [] a c h k = ap (λ (z : Bool). cond z (somebody [] a c) (behind (row a true) (find test c))) k
  find_first (r ∷ b) a c h k =
      ap₂ (λ (z : Bool) (u : Turn A). cond z (somebody [] r.item (b ++ (row a true ∷ c))) (behind r u)) h.0 (find_first b a c h.1 k)

module _ {A : Type 0} (C : Case) (R : Rules A) where
  -- ---- there is one that goes first

  -- put before rows of which one goes first or nobody asks, a row that asks goes first unless that one is sooner
  leader : (rs : List (Row A)) → (u : Turn A) × Chosen C R rs u
  leader [] = (nobody, tt)
  leader (r ∷ rs) = go r.asking refl (leader rs).0 (leader rs).1
    where
      go : (q : Bool) → r.asking ≡ q → (t : Turn A) → Chosen C R rs t → (u : Turn A) × Chosen C R (r ∷ rs) u
      go false q nobody h = (nobody, (q, h))
      go false q (somebody b a c) h = (
        somebody (r ∷ b) a c,
        record {
          apart = ap (λ (z : List (Row A)). r ∷ z) h.apart;
          earlier = (λ k. absurd (false≢true (sym q ∙ k)), h.earlier);
          later = h.later;
        },
      )
      go true q nobody h = (
        somebody [] r.item rs,
        record {
          apart = ap (λ (z : Bool). row r.item z ∷ rs) q;
          earlier = tt;
          later = every_more (λ u. u.asking ≡ false) (Asking R (λ m. sooner C m (R.mark r.item) ≡ false)) (λ u f k. absurd (false≢true (sym f ∙ k))) rs h;
        },
      )
      go true q (somebody b a c) h = compare (sooner C (R.mark a) (R.mark r.item)) refl
        where
          compare : (s : Bool) → sooner C (R.mark a) (R.mark r.item) ≡ s → (u : Turn A) × Chosen C R (r ∷ rs) u
          compare true e = (
            somebody (r ∷ b) a c,
            record {
              apart = ap (λ (z : List (Row A)). r ∷ z) h.apart;
              earlier = (λ k. e, h.earlier);
              later = h.later;
            },
          )
          compare false e = (
            somebody [] r.item rs,
            record {
              apart = ap (λ (z : Bool). row r.item z ∷ rs) q;
              earlier = tt;
              later = subst (Every (Asking R (λ m. sooner C m (R.mark r.item) ≡ false))) (sym h.apart)
                  (every_append (Asking R (λ m. sooner C m (R.mark r.item) ≡ false)) b (row a true ∷ c)
                  (every_more (Asking R (λ m. sooner C (R.mark a) m ≡ true)) (Asking R (λ m. sooner C m (R.mark r.item) ≡ false))
                  (λ u f k. sooner_trans C (R.mark u.item) (R.mark a) (R.mark r.item) (sooner_asym C (R.mark a) (R.mark u.item) (f k)) e) b h.earlier) (
                    λ k. e,
                    every_more (Asking R (λ m. sooner C m (R.mark a) ≡ false)) (Asking R (λ m. sooner C m (R.mark r.item) ≡ false))
                        (λ u f k. sooner_trans C (R.mark u.item) (R.mark a) (R.mark r.item) (f k) e) c h.later,
                  ));
            },
          )

  -- ---- it is next

  -- where nobody asks, nobody is next
  pub next-nobody : (rs : List (Row A)) → Every (λ r. r.asking ≡ false) rs → next C R rs ≡ nobody
  unfolding next goes_first
  next-nobody rs h =
      find_none (goes_first C R rs) rs
      (every_more (λ r. r.asking ≡ false) (λ r. goes_first C R rs r ≡ false)
      (λ r f. ap (λ (z : Bool). z && not (any (λ q. q.asking && sooner C (R.mark q.item) (R.mark r.item)) rs)) f) rs h)

  -- the one that goes first is next
  pub next-first : (b : List (Row A)) (a : A) (c : List (Row A))
      → Every (Asking R (λ m. sooner C (R.mark a) m ≡ true)) b → Every (Asking R (λ m. sooner C m (R.mark a) ≡ false)) c
      → next C R (b ++ (row a true ∷ c)) ≡ somebody b a c
  unfolding next goes_first
  next-first b a c h l = find_first (goes_first C R rs) b a c (every_more (Asking R (λ m. sooner C (R.mark a) m ≡ true)) (λ r. goes_first C R rs r ≡ false) behind-a b h) first-a
    where
      rs : List (Row A)
      rs = b ++ (row a true ∷ c)

      -- whether a row asks sooner than the mark
      over : Mark → Row A → Bool
      over m q = q.asking && sooner C (R.mark q.item) m

      behind-a : (r : Row A) → Asking R (λ m. sooner C (R.mark a) m ≡ true) r → goes_first C R rs r ≡ false
      behind-a r f = go r.asking refl
        where
          go : (q : Bool) → r.asking ≡ q → (q && not (any (over (R.mark r.item)) rs)) ≡ false
          go false q = refl
          go true q =
              ap not (any_append (over (R.mark r.item)) b (row a true ∷ c)
              ∙ ap (λ (z : Bool). any (over (R.mark r.item)) b || (z || any (over (R.mark r.item)) c)) (f q)
              ∙ or-true (any (over (R.mark r.item)) b))

      not-over : (r : Row A) → (r.asking ≡ true → sooner C (R.mark r.item) (R.mark a) ≡ false) → over (R.mark a) r ≡ false
      not-over r f = go r.asking refl
        where
          go : (q : Bool) → r.asking ≡ q → (q && sooner C (R.mark r.item) (R.mark a)) ≡ false
          go false q = refl
          go true q = f q

      first-a : goes_first C R rs (row a true) ≡ true
      first-a =
          ap not (any_none (over (R.mark a)) rs
          (every_append (λ r. over (R.mark a) r ≡ false) b (row a true ∷ c)
          (every_more (Asking R (λ m. sooner C (R.mark a) m ≡ true)) (λ r. over (R.mark a) r ≡ false)
          (λ r f. not-over r (λ k. sooner_asym C (R.mark a) (R.mark r.item) (f k))) b h) (
            not-over (row a true) (λ k. sooner_self C (R.mark a)),
            every_more (Asking R (λ m. sooner C m (R.mark a) ≡ false)) (λ r. over (R.mark a) r ≡ false) (λ r f. not-over r f) c l,
          )))

  -- nobody asks and nobody is next, or the one that goes first is
  pub next-chosen : (rs : List (Row A)) → Chosen C R rs (next C R rs)
  next-chosen rs = go (leader rs).0 (leader rs).1
    where
      go : (u : Turn A) → Chosen C R rs u → Chosen C R rs (next C R rs)
      go nobody h = subst (Chosen C R rs) (sym (next-nobody rs h)) h
      go (somebody b a c) h = subst (Chosen C R rs) (sym (ap (next C R) h.apart ∙ next-first b a c h.earlier h.later)) h
