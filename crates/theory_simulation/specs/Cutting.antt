-- The cutting rule: of the pieces of a cover exactly one covers a choice that the cover covers, and its verdict is right for that choice.
-- Both are one equation about what a choice sees of the pieces, by induction on the covers still to meet: once for the element's own, once for its partner's.
-- Assumes nothing.
use Rattle.std.specs.Prelude.{◌≡◌, refl, Bool, true, false, not, ◌&&◌, ◌||◌, cond, List, [], ◌∷◌, ◌++◌, ℕ, suc, ◌+◌, ◌≤◌, length, leb, ltb}
use Rattle.std.proofs.Common.{sym, ap, ap₂, ◌∙◌, append-nil, add-zero, arith, leb-true, ltb-true, le-leb}
use Rattle.std.proofs.lemmas.Bool.{false≢true, lt-leb}
use Rattle.rules.specs.Lists.{one, each, any, tick, count}
use Rattle.rules.specs.Files.{Case}
use Rattle.rules.specs.Turns.{Place, same, capacity}
use Rattle.rules.specs.Turns.Place.{gone}
use Rattle.rules.specs.Joint.{Cover, inside, apart, outsides, covers, Entry, Piece, piece, carry, meets, meets_across, across, pieces}
use Rattle.theory_lists.specs.Each.{each_append, each-each}
use Rattle.theory_lists.specs.Every.{each_every, Every}
use Rattle.theory_lists.specs.Sums.{tick-le}
use Rattle.theory_simulation.specs.Covers.{Fits, covers-inside, inside-fits, apart-covers, outsides_fit, outsides_law}

-- the verdicts of the pieces that cover the choice
unfoldable pub verdicts : List ℕ → List Piece → List Bool
verdicts x ps = each (λ q. one (covers q.cover x) q.held) ps

-- how many of the covers cover the choice
abbrev pub hits : List ℕ → List Cover → ℕ
hits x qs = count (λ q. covers q x) qs

hits-le : (x : List ℕ) (qs : List Cover) → hits x qs ≤ length qs
hits-le x [] = omega arith
hits-le x (q ∷ qs) = omega (arith, tick-le (covers q x), hits-le x qs)

-- nothing in common with the next: the count stays
past-it : (cp cq : Bool) (cap n h : ℕ) → (cp && cq) ≡ false → one cp (leb cap (n + h)) ≡ one cp (leb cap (n + (tick cq + h)))
past-it true true cap n h e = absurd (false≢true (sym e))
past-it true false cap n h e = ap (λ (z : ℕ). leb cap z ∷ []) (omega arith)
past-it false cq cap n h e = refl

both_sides : (cp cq : Bool) (cap n h : ℕ)
    → one (cp && cq) (leb cap (suc n + h)) ++ one (cp && not cq) (leb cap (n + h)) ≡ one cp (leb cap (n + (tick cq + h)))
both_sides true true cap n h = ap (λ (z : ℕ). leb cap z ∷ []) (omega arith)
both_sides true false cap n h = ap (λ (z : ℕ). leb cap z ∷ []) (omega arith)
both_sides false cq cap n h = refl

-- a choice sees one verdict if p covers it, by the number of covers that cover it too, and else none
pub carry_law : (x : List ℕ) (cap : ℕ) (qs : List Cover) → Every (Fits x) qs → (n : ℕ) (p : Cover) → Fits x p
    → verdicts x (carry cap qs n p) ≡ one (covers p x) (leb cap (n + hits x qs))
unfolding carry verdicts
carry_law x cap [] fs n p f = append-nil (one (covers p x) (leb cap n)) ∙ ap (λ (z : ℕ). one (covers p x) (leb cap z)) (sym (add-zero n))
carry_law x cap (q ∷ qs) fs n p f =
    go (leb cap n) (ltb (n + suc (length qs)) cap) (apart (inside p q)) refl refl refl (carry_law x cap qs fs.1)
  where
    go : (full few none : Bool) → leb cap n ≡ full → ltb (n + suc (length qs)) cap ≡ few → apart (inside p q) ≡ none
        → ((m : ℕ) (c : Cover) → Fits x c → verdicts x (carry cap qs m c) ≡ one (covers c x) (leb cap (m + hits x qs)))
        → verdicts x (cond full (piece p true ∷ []) (cond few (piece p false ∷ []) (cond none (carry cap qs n p) (carry cap qs (suc n) (inside p q) ++ each (carry cap qs n) (outsides p (inside p q))))))
        ≡ one (covers p x) (leb cap (n + (tick (covers q x) + hits x qs)))
    go true few none h₁ h₂ h₃ ih =
        append-nil (one (covers p x) true)
        ∙ ap (one (covers p x)) (sym (le-leb cap (n + (tick (covers q x) + hits x qs)) (omega (arith, leb-true cap n h₁))))
    go false true none h₁ h₂ h₃ ih =
        append-nil (one (covers p x) false)
        ∙ ap (one (covers p x))
        (sym (lt-leb cap (n + (tick (covers q x) + hits x qs)) (omega (arith, ltb-true (n + suc (length qs)) cap h₂, tick-le (covers q x), hits-le x qs))))
    go false false true h₁ h₂ h₃ ih =
        ih n p f ∙ past-it (covers p x) (covers q x) cap n (hits x qs) (sym (covers-inside x p q f fs.0) ∙ apart-covers x (inside p q) h₃)
    go false false false h₁ h₂ h₃ ih =
        each_append (λ r. one (covers r.cover x) r.held) (carry cap qs (suc n) (inside p q)) (each (carry cap qs n) (outsides p (inside p q)))
        ∙ ap₂ ◌++◌
        (ih (suc n) (inside p q) (inside-fits x p q f fs.0) ∙ ap (λ (z : Bool). one z (leb cap (suc n + hits x qs))) (covers-inside x p q f fs.0))
        (each-each (λ r. one (covers r.cover x) r.held) (carry cap qs n) (outsides p (inside p q))
        ∙ each_every (Fits x) (λ c. verdicts x (carry cap qs n c)) (λ c. one (covers c x) (leb cap (n + hits x qs))) (λ c g. ih n c g)
        (outsides p (inside p q)) (outsides_fit x p (inside p q) f (inside-fits x p q f fs.0))
        ∙ outsides_law (leb cap (n + hits x qs)) x p q f fs.0)
        ∙ both_sides (covers p x) (covers q x) cap n (hits x qs)

-- ---- the partner's covers

-- whether one of the covers covers the choice
abbrev pub hit : List ℕ → List Cover → Bool
hit x qs = any (λ q. covers q x) qs

-- nothing in common with the next: whether one covers the choice is told by the others
passed-it : (cp cq a h : Bool) → (cp && cq) ≡ false → one cp (a || h) ≡ one cp ((cq || a) || h)
passed-it true true a h e = absurd (false≢true (sym e))
passed-it true false a h e = refl
passed-it false cq a h e = refl

held-inside : (cp cq a h : Bool) → one (cp && cq) true ++ one (cp && not cq) (a || h) ≡ one cp ((cq || a) || h)
held-inside true true a h = refl
held-inside true false a h = refl
held-inside false cq a h = refl

-- a choice sees one verdict if p covers it, and else none: held if one of the partner's covers covers it too, otherwise the verdict h of what goes on
pub across_law : (x : List ℕ) (on : Cover → List Piece) (h : Bool) → ((c : Cover) → Fits x c → verdicts x (on c) ≡ one (covers c x) h)
    → (qs : List Cover) → Every (Fits x) qs → (p : Cover) → Fits x p → verdicts x (across on qs p) ≡ one (covers p x) (hit x qs || h)
unfolding across verdicts
across_law x on h goes [] fs p f = goes p f
across_law x on h goes (q ∷ qs) fs p f = go (apart (inside p q)) refl (across_law x on h goes qs fs.1)
  where
    go : (none : Bool) → apart (inside p q) ≡ none → ((c : Cover) → Fits x c → verdicts x (across on qs c) ≡ one (covers c x) (hit x qs || h))
        → verdicts x (cond none (across on qs p) (piece (inside p q) true ∷ each (across on qs) (outsides p (inside p q))))
        ≡ one (covers p x) ((covers q x || hit x qs) || h)
    go true e ih = ih p f ∙ passed-it (covers p x) (covers q x) (hit x qs) h (sym (covers-inside x p q f fs.0) ∙ apart-covers x (inside p q) e)
    go false e ih =
        ap₂ ◌++◌
        (ap (λ (z : Bool). one z true) (covers-inside x p q f fs.0))
        (each-each (λ r. one (covers r.cover x) r.held) (across on qs) (outsides p (inside p q))
        ∙ each_every (Fits x) (λ c. verdicts x (across on qs c)) (λ c. one (covers c x) (hit x qs || h)) ih
        (outsides p (inside p q)) (outsides_fit x p (inside p q) f (inside-fits x p q f fs.0))
        ∙ outsides_law (hit x qs || h) x p q f fs.0)
        ∙ held-inside (covers p x) (covers q x) (hit x qs) h

-- an asker meets the partner's entries before the element's own: what it has in common with the first of them is its first piece, whole and held
pub partner-first : (C : Case) (e : Place) (rs : List Entry) (r : Entry) (q : Cover) (qs : List Cover) → same e gone ≡ false
    → meets_across C e r.mark.train rs ≡ q ∷ qs → apart (inside r.cover q) ≡ false
    → (ps : List Piece) × (pieces C e rs r ≡ piece (inside r.cover q) true ∷ ps)
unfolding pieces across
partner-first C e rs r q qs in-level met common =
    let on : Cover → List Piece = carry (capacity C e) (meets e r.mark.train rs) 0 in
    let c = inside r.cover q in (
      each (across on qs) (outsides r.cover c),
      ap (λ (b : Bool). cond b (piece r.cover false ∷ []) (across on (meets_across C e r.mark.train rs) r.cover)) in-level
          ∙ ap (λ (l : List Cover). across on l r.cover) met
          ∙ ap (λ (b : Bool). cond b (across on qs r.cover) (piece c true ∷ each (across on qs) (outsides r.cover c))) common,
    )
