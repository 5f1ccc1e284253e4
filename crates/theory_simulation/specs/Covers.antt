-- What covers cover: the common part of two covers covers what both cover, and of the outside pieces exactly one covers a choice that is left.
-- Both are shown train by train, from what a set has after it is met by another. Assumes nothing.
use Rattle.std.specs.Prelude.{◌≡◌, Bool, ◌&&◌, ◌||◌, ℕ, zero, suc, ◌<◌, length, get_or, set}
use Rattle.std.proofs.Math.Path.{refl, sym, ap, ap₂}
use Rattle.std.proofs.Common.{◌∙◌, arith}
use Rattle.std.proofs.Math.Bool.{true, false, not, and-false, and-true}
use Rattle.std.proofs.lemmas.Bool.{false≢true}
use mathlib.Core.List.{List, [], ◌∷◌, ◌++◌, map, append-nil}
use Rattle.rules.specs.Lists.{one, each, any, has}
use Rattle.rules.specs.Joint.{Cover, common, without, is_empty, inside, apart, outsides, covers}
use Rattle.theory_lists.specs.Tests.{and_true-first, and_true-second}
use Rattle.theory_lists.specs.Each.{each_append, each_map, each_none}
use Rattle.theory_lists.specs.Every.{Every, every_append, every_map, every_one, has-keep}

-- ---- sets

pub has-common : (s u : List ℕ) (d : ℕ) → has (common s u) d ≡ (has s d && has u d)
unfolding common
has-common s u d = has-keep (has u) s d

pub has-without : (s u : List ℕ) (d : ℕ) → has (without s u) d ≡ (has s d && not (has u d))
unfolding without
has-without s u d = has-keep (λ a. not (has u a)) s d

-- what is left of a set without its common part with another is what the other has not
pub has_rest : (s u : List ℕ) (d : ℕ) → has (without s (common s u)) d ≡ (has s d && not (has u d))
has_rest s u d = has-without s (common s u) d ∙ ap (λ (z : Bool). has s d && not z) (has-common s u d) ∙ go (has s d) (has u d)
  where
    go : (a b : Bool) → (a && not (a && b)) ≡ (a && not b)
    go true b = refl
    go false b = refl

pub has-empty : (s : List ℕ) (d : ℕ) → is_empty s ≡ true → has s d ≡ false
has-empty [] d h = refl
has-empty (a ∷ s) d h = absurd (false≢true h)

-- ---- covers

-- the cover has a set for each train of the choice
abbrev pub Fits : List ℕ → Cover → Type 0
Fits x p = length p ≡ length x

and_regroup : (a b c d : Bool) → ((a && b) && (c && d)) ≡ ((a && c) && (b && d))
and_regroup true true c d = refl
and_regroup true false true d = refl
and_regroup true false false d = refl
and_regroup false b c d = refl

pub covers-inside : (x : List ℕ) (p q : Cover) → Fits x p → Fits x q → covers (inside p q) x ≡ (covers p x && covers q x)
unfolding covers inside
covers-inside [] [] [] f g = refl
covers-inside [] [] (u ∷ q) f g = absurd (omega arith)
covers-inside [] (s ∷ p) q f g = absurd (omega arith)
covers-inside (d ∷ x) [] q f g = absurd (omega arith)
covers-inside (d ∷ x) (s ∷ p) [] f g = absurd (omega arith)
covers-inside (d ∷ x) (s ∷ p) (u ∷ q) f g =
    ap₂ ◌&&◌ (has-common s u d) (covers-inside x p q (omega arith) (omega arith))
    ∙ and_regroup (has s d) (has u d) (covers p x) (covers q x)

pub inside-fits : (x : List ℕ) (p q : Cover) → Fits x p → Fits x q → Fits x (inside p q)
unfolding inside
inside-fits [] [] q f g = refl
inside-fits [] (s ∷ p) q f g = absurd (omega arith)
inside-fits (d ∷ x) [] q f g = absurd (omega arith)
inside-fits (d ∷ x) (s ∷ p) [] f g = absurd (omega arith)
inside-fits (d ∷ x) (s ∷ p) (u ∷ q) f g = ap suc (inside-fits x p q (omega arith) (omega arith))

-- a cover with an empty set covers nothing
pub apart-covers : (x : List ℕ) (p : Cover) → apart p ≡ true → covers p x ≡ false
unfolding apart covers
apart-covers x [] h = absurd (false≢true h)
apart-covers [] (s ∷ p) h = refl
apart-covers (d ∷ x) (s ∷ p) h = go (is_empty s) refl h (apart-covers x p)
  where
    go : (b : Bool) → is_empty s ≡ b → (b || any is_empty p) ≡ true → (any is_empty p ≡ true → covers p x ≡ false) → (has s d && covers p x) ≡ false
    go true q h ih = ap (λ (z : Bool). z && covers p x) (has-empty s d q)
    go false q h ih = ap (λ (z : Bool). has s d && z) (ih h) ∙ and-false (has s d)

-- ---- a choice that is covered

-- it has a delay for each set
pub covers-length : (p : Cover) (x : List ℕ) → covers p x ≡ true → length p ≡ length x
unfolding covers
covers-length [] [] h = refl
covers-length [] (d ∷ x) h = absurd (false≢true h)
covers-length (s ∷ p) [] h = absurd (false≢true h)
covers-length (s ∷ p) (d ∷ x) h = ap suc (covers-length p x (and_true-second (has s d) (covers p x) h))

-- and each is in its set
pub covers_at : (p : Cover) (x : List ℕ) → covers p x ≡ true → (k : ℕ) → k < length p → has (get_or p k []) (get_or x k 0) ≡ true
unfolding covers
covers_at [] x h k l = absurd (omega arith)
covers_at (s ∷ p) [] h k l = absurd (false≢true h)
covers_at (s ∷ p) (d ∷ x) h zero l = and_true-first (has s d) (covers p x) h
covers_at (s ∷ p) (d ∷ x) h (suc k) l = covers_at p x (and_true-second (has s d) (covers p x) h) k (omega arith)

-- that is all there is to it
pub covers_by_lem : (p : Cover) (x : List ℕ) → length p ≡ length x → ((k : ℕ) → k < length p → has (get_or p k []) (get_or x k 0) ≡ true) → covers p x ≡ true
unfolding covers
covers_by_lem [] [] e h = refl
covers_by_lem [] (d ∷ x) e h = absurd (omega arith)
covers_by_lem (s ∷ p) [] e h = absurd (omega arith)
covers_by_lem (s ∷ p) (d ∷ x) e h = ap₂ ◌&&◌ (h 0 (omega arith)) (covers_by_lem p x (omega arith) (λ k l. h (suc k) (omega arith)))

-- with another set for train k it is covered if that set has its delay
pub covers-set : (p : Cover) (x : List ℕ) → covers p x ≡ true → (k : ℕ) → k < length p → (s : List ℕ) → covers (set p k s) x ≡ has s (get_or x k 0)
unfolding covers
covers-set [] x h k l s = absurd (omega arith)
covers-set (u ∷ p) [] h k l s = absurd (false≢true h)
covers-set (u ∷ p) (d ∷ x) h zero l s = ap (λ (z : Bool). has s d && z) (and_true-second (has u d) (covers p x) h) ∙ and-true (has s d)
covers-set (u ∷ p) (d ∷ x) h (suc k) l s =
    ap₂ (λ (y z : Bool). y && z) (and_true-first (has u d) (covers p x) h) (covers-set p x (and_true-second (has u d) (covers p x) h) k (omega arith) s)

-- ---- the outside pieces

pub outsides_fit : (x : List ℕ) (p c : Cover) → Fits x p → Fits x c → Every (Fits x) (outsides p c)
unfolding outsides
outsides_fit x [] c f g = tt
outsides_fit x (s ∷ p) [] f g = tt
outsides_fit [] (s ∷ p) (u ∷ c) f g = absurd (omega arith)
outsides_fit (d ∷ x) (s ∷ p) (u ∷ c) f g =
    let later = every_map (Fits x) (Fits (d ∷ x)) (λ q. u ∷ q) (λ q h. ap suc h) (outsides p c) (outsides_fit x p c (omega arith) (omega arith)) in
    search (every_append, every_one, later)

module _ {ℓ} {A : Type ℓ} (v : A) where
  -- a piece that is skipped if nothing is left of its set
  first_law : (d : ℕ) (x : List ℕ) (s : List ℕ) (p : Cover)
      → each (λ q. one (covers q (d ∷ x)) v) (one (not (is_empty s)) (s ∷ p)) ≡ one (has s d && covers p x) v
  unfolding covers
  first_law d x s p = go (is_empty s) refl
    where
      go : (b : Bool) → is_empty s ≡ b → each (λ q. one (covers q (d ∷ x)) v) (one (not b) (s ∷ p)) ≡ one (has s d && covers p x) v
      go true h = sym (ap (λ (z : Bool). one (z && covers p x) v) (has-empty s d h))
      go false h = append-nil (one (has s d && covers p x) v)

  -- the pieces of the later trains, each with the set u before it
  later_law : (d : ℕ) (x : List ℕ) (u : List ℕ) (l : List Cover) (r : Bool) → each (λ q. one (covers q x) v) l ≡ one r v
      → each (λ q. one (covers q (d ∷ x)) v) (map (λ q. u ∷ q) l) ≡ one (has u d && r) v
  unfolding covers
  later_law d x u l r ih = each_map (λ q. one (covers q (d ∷ x)) v) (λ q. u ∷ q) l ∙ go (has u d)
    where
      go : (b : Bool) → each (λ q. one (b && covers q x) v) l ≡ one (b && r) v
      go true = ih
      go false = each_none l

  join_law : (hp hq cp cq : Bool) → one ((hp && not hq) && cp) v ++ one ((hp && hq) && (cp && not cq)) v ≡ one ((hp && cp) && not (hq && cq)) v
  join_law true true true true = refl
  join_law true true true false = refl
  join_law true true false cq = refl
  join_law true false true cq = refl
  join_law true false false cq = refl
  join_law false hq cp cq = refl

  -- of the outside pieces exactly one covers a choice that p covers and q does not, and none covers another
  pub outsides_law : (x : List ℕ) (p q : Cover) → Fits x p → Fits x q
      → each (λ c. one (covers c x) v) (outsides p (inside p q)) ≡ one (covers p x && not (covers q x)) v
  unfolding covers outsides inside
  outsides_law [] [] [] f g = refl
  outsides_law [] [] (u ∷ q) f g = absurd (omega arith)
  outsides_law [] (s ∷ p) q f g = absurd (omega arith)
  outsides_law (d ∷ x) [] q f g = absurd (omega arith)
  outsides_law (d ∷ x) (s ∷ p) [] f g = absurd (omega arith)
  outsides_law (d ∷ x) (s ∷ p) (u ∷ q) f g =
      each_append (λ c. one (covers c (d ∷ x)) v) (one (not (is_empty (without s (common s u)))) (without s (common s u) ∷ p)) (map (λ c. common s u ∷ c) (outsides p (inside p q)))
      ∙ ap₂ ◌++◌
      (first_law d x (without s (common s u)) p ∙ ap (λ (z : Bool). one (z && covers p x) v) (has_rest s u d))
      (later_law d x (common s u) (outsides p (inside p q)) (covers p x && not (covers q x)) (outsides_law x p q (omega arith) (omega arith))
      ∙ ap (λ (z : Bool). one (z && (covers p x && not (covers q x))) v) (has-common s u d))
      ∙ join_law (has s d) (has u d) (covers p x) (covers q x)
