-- The elements of a minute that are visited before one of them and after it: the whole list around an element, and that no element is visited twice.
-- Each is an induction on the list. Assumes nothing.
use Rattle.std.specs.Prelude.{◌≡◌, refl, Bool, true, false, ◌||◌, cond, List, [], ◌∷◌, ◌++◌, map, ℕ, ◌+◌, ◌≤◌, length, eqb}
use Rattle.std.proofs.Common.{sym, ap, subst, le_trans, arith, ne_eqb}
use Rattle.std.proofs.lemmas.Bool.{false≢true}
use Rattle.rules.specs.Lists.{any, tick, sum, count, below}
use Rattle.rules.specs.Files.{Case}
use Rattle.rules.specs.Turns.{Place, same, elements}
use Rattle.rules.specs.Turns.Place.{outside, station, track, gone}
use Rattle.rules.specs.Freed.{visited_before}
use Rattle.theory_sound.specs.Ways.{same_true}
use Rattle.theory_lists.specs.Tests.{or_false-first, or_false-second}
use Rattle.theory_lists.specs.Every.{Every}
use Rattle.theory_lists.specs.Sums.{tick-le, sum-append, sum-map, sum-zero, count_none}
use Rattle.theory_lists.specs.Below.{sum-below-le}

-- of these elements, those that are visited after f
abbrev pub visited_after : Place → List Place → List Place
visited_after f [] = []
visited_after f (p ∷ ps) = cond (same p f) ps (visited_after f ps)

-- an element stands between those before it and those after it
pub visited_split : (f : Place) (l : List Place) → any (λ p. same p f) l ≡ true → l ≡ visited_before f l ++ (f ∷ visited_after f l)
visited_split f [] h = absurd (false≢true h)
visited_split f (p ∷ ps) h = go (same p f) refl h (visited_split f ps)
  where
    go : (b : Bool) → same p f ≡ b → (b || any (λ q. same q f) ps) ≡ true → (any (λ q. same q f) ps ≡ true → ps ≡ visited_before f ps ++ (f ∷ visited_after f ps))
        → p ∷ ps ≡ cond b [] (p ∷ visited_before f ps) ++ (f ∷ cond b ps (visited_after f ps))
    go true q h ih = ap (λ (z : Place). z ∷ ps) (same_true p f q)
    go false q h ih = ap (λ (z : List Place). p ∷ z) (ih h)

-- those before e are others
pub before-others : (e : Place) (l : List Place) → Every (λ p. same p e ≡ false) (visited_before e l)
before-others e [] = tt
before-others e (p ∷ ps) = go (same p e) refl (before-others e ps)
  where
    go : (b : Bool) → same p e ≡ b → Every (λ q. same q e ≡ false) (visited_before e ps) → Every (λ q. same q e ≡ false) (cond b [] (p ∷ visited_before e ps))
    go true q ih = tt
    go false q ih = (q, ih)

-- where f is before e, those before f are so among those before e
pub before-before : (f e : Place) (l : List Place) → any (λ p. same p f) (visited_before e l) ≡ true → visited_before f (visited_before e l) ≡ visited_before f l
before-before f e [] h = refl
before-before f e (p ∷ ps) h = go (same p e) h (before-before f e ps)
  where
    among : (b : Bool) → (b || any (λ q. same q f) (visited_before e ps)) ≡ true
        → (any (λ q. same q f) (visited_before e ps) ≡ true → visited_before f (visited_before e ps) ≡ visited_before f ps)
        → cond b [] (p ∷ visited_before f (visited_before e ps)) ≡ cond b [] (p ∷ visited_before f ps)
    among true h ih = refl
    among false h ih = ap (λ (z : List Place). p ∷ z) (ih h)

    go : (a : Bool) → any (λ q. same q f) (cond a [] (p ∷ visited_before e ps)) ≡ true
        → (any (λ q. same q f) (visited_before e ps) ≡ true → visited_before f (visited_before e ps) ≡ visited_before f ps)
        → visited_before f (cond a [] (p ∷ visited_before e ps)) ≡ visited_before f (p ∷ ps)
    go true h ih = absurd (false≢true h)
    go false h ih = among (same p f) h ih

-- what every element has, those after f have
pub after_every : (P : Place → Type 0) (f : Place) (l : List Place) → Every P l → Every P (visited_after f l)
after_every P f [] h = tt
after_every P f (p ∷ ps) h = go (same p f) (after_every P f ps h.1)
  where
    go : (b : Bool) → Every P (visited_after f ps) → Every P (cond b ps (visited_after f ps))
    go true ih = h.1
    go false ih = ih

-- where no element stands twice and f is not before e, those after f are others than e
pub after-others : (e f : Place) (l : List Place) → count (λ p. same p e) l ≤ 1 → any (λ p. same p f) (visited_before e l) ≡ false
    → Every (λ p. same p e ≡ false) (visited_after f l)
after-others e f [] few h = tt
after-others e f (p ∷ ps) few h = go (same p e) few h (after-others e f ps)
  where
    go : (b : Bool) → tick b + count (λ q. same q e) ps ≤ 1 → any (λ q. same q f) (cond b [] (p ∷ visited_before e ps)) ≡ false
        → (count (λ q. same q e) ps ≤ 1 → any (λ q. same q f) (visited_before e ps) ≡ false → Every (λ q. same q e ≡ false) (visited_after f ps))
        → Every (λ q. same q e ≡ false) (visited_after f (p ∷ ps))
    go true few h ih = either (same p f)
      where
        none : Every (λ q. same q e ≡ false) ps
        none = count_none (λ q. same q e) ps (omega arith)

        either : (b : Bool) → Every (λ q. same q e ≡ false) (cond b ps (visited_after f ps))
        either true = none
        either false = after_every (λ q. same q e ≡ false) f ps none
    go false few h ih =
        let rest = any (λ q. same q f) (visited_before e ps) in
        subst (λ (b : Bool). Every (λ q. same q e ≡ false) (cond b ps (visited_after f ps))) (sym (or_false-first (same p f) rest h))
        (ih (omega arith) (or_false-second (same p f) rest h))

-- a number stands once among those below n
number-once : (i n : ℕ) → sum (λ k. tick (eqb k i)) (below n) ≤ 1
number-once i n = le_trans (sum-below-le (λ k. tick (eqb k i)) i (λ k q. ap tick (ne_eqb k i q)) n) (tick-le (eqb i i))

-- a place stands once among n stations, m tracks and the way out
place-once : (e : Place) (n m : ℕ) → sum (λ i. tick (same (station i) e)) (below n) + sum (λ j. tick (same (track j) e)) (below m) + tick (same gone e) ≤ 1
unfolding same
place-once outside n m = omega (arith, sum-zero (below n), sum-zero (below m))
place-once (station i) n m = omega (arith, number-once i n, sum-zero (below m))
place-once (track j) n m = omega (arith, sum-zero (below n), number-once j m)
place-once gone n m = omega (arith, sum-zero (below n), sum-zero (below m))

-- so no element is visited twice in a minute
pub elements-once : (C : Case) (e : Place) → count (λ p. same p e) (elements C) ≤ 1
unfolding elements
elements-once C e =
    let stations = map station (below (length C.stations)) in
    let tracks = map track (below (length C.tracks)) in
    omega (
      arith,
      sum-append (λ p. tick (same p e)) (stations ++ tracks) (gone ∷ []),
      sum-append (λ p. tick (same p e)) stations tracks,
      sum-map (λ p. tick (same p e)) station (below (length C.stations)),
      sum-map (λ p. tick (same p e)) track (below (length C.tracks)),
      place-once e (length C.stations) (length C.tracks),
    )
