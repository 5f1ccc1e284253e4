-- When a held piece asks again. It is quiet for the covers that it meets if, in list order, each shares no choice with it or has it whole, until as many as
-- are needed have it. A quiet piece is held again, uncut; a held piece is quiet for the covers that held it; and covers that come in at the end change
-- nothing. Each is shown by induction on the covers still to meet. Assumes nothing.
use Rattle.std.specs.Prelude.{◌≡◌, refl, Bool, true, false, List, [], ◌∷◌, ◌++◌, ℕ, zero, suc, ◌+◌, ◌-◌, ◌≤◌, ◌<◌, length, leb, ltb}
use Rattle.std.proofs.Common.{ap, ap₂, sym, ◌∙◌, subst, append-nil, arith, leb-true, leb-false, le-leb, le-ltb}
use Rattle.std.proofs.lemmas.Bool.{false≢true, lt-leb}
use Rattle.std.specs.Int.Bits.{bit_and, and_self}
use Rattle.rules.specs.Lists.{each}
use Rattle.theory_lists.specs.Every.{Every, every_append, every_each, every_more}
use Rattle.cut.specs.Cut.{Part, part, full_of, outs, turn, carried}
use Rattle.cut.specs.Outside.{outs-nothing}
use Rattle.quiet.specs.Parts.{Sub, sub_trans, sub_left, sub_right, apart-part, Outside, outside-pieces}

-- what p has to do with the covers to meet, where so many more are needed
pub data Quiet (p : ℕ) : ℕ → List ℕ → Type 0 where
  enough : {es : List ℕ} → Quiet p zero es
  apart : {r m : ℕ} {es : List ℕ} → full_of 8 (bit_and p m) ≡ false → Quiet p (suc r) es → Quiet p (suc r) (m ∷ es)
  inside : {r m : ℕ} {es : List ℕ} → Sub p m → Quiet p r es → Quiet p (suc r) (m ∷ es)

quiet_long : {p r : ℕ} {es : List ℕ} → Quiet p r es → r ≤ length es
quiet_long enough = omega arith
quiet_long (apart h k) = omega (arith, quiet_long k)
quiet_long (inside h k) = omega (arith, quiet_long k)

-- ---- a quiet piece is held, uncut

-- neither held already nor able to enter uncut, it takes the turn that its next cover gives it
turn_on : (cap c r p m : ℕ) (es : List ℕ) → cap ≡ c + suc r → r ≤ length es → carried cap (m ∷ es) c p ≡ turn false false (full_of 8 (bit_and p m)) (carried cap es) c p (bit_and p m)
unfolding carried
turn_on cap c r p m es e l =
    ap₂ (λ (a b : Bool). turn a b (full_of 8 (bit_and p m)) (carried cap es) c p (bit_and p m)) (lt-leb cap c (omega arith)) (le-ltb (c + suc (length es)) cap (omega arith))

pub quiet-held : (cap c r p : ℕ) (es : List ℕ) → full_of 8 p ≡ true → cap ≡ c + r → Quiet p r es → carried cap es c p ≡ part p true ∷ []
unfolding carried
quiet-held cap c zero p [] f e enough = ap (λ (b : Bool). part p b ∷ []) (le-leb cap c (omega arith))
quiet-held cap c zero p (m ∷ es) f e enough =
    ap (λ (b : Bool). turn b (ltb (c + suc (length es)) cap) (full_of 8 (bit_and p m)) (carried cap es) c p (bit_and p m)) (le-leb cap c (omega arith))
quiet-held cap c (suc r) p [] f e q = elim q [ ]
quiet-held cap c (suc r) p (m ∷ es) f e (apart h k) =
    turn_on cap c r p m es e (omega (arith, quiet_long k))
    ∙ ap (λ (b : Bool). turn false false b (carried cap es) c p (bit_and p m)) h
    ∙ quiet-held cap c (suc r) p es f e k
quiet-held cap c (suc r) p (m ∷ es) f e (inside h k) =
    let none : p - p ≡ 0 = omega arith in
    turn_on cap c r p m es e (quiet_long k)
    ∙ ap (λ (x : ℕ). turn false false (full_of 8 x) (carried cap es) c p x) h
    ∙ ap (λ (b : Bool). turn false false b (carried cap es) c p p) f
    ∙ ap (λ (l : List ℕ). carried cap es (suc c) p ++ each (carried cap es c) l) (ap (outs 8 0 p) none ∙ outs-nothing 8 0 p)
    ∙ append-nil (carried cap es (suc c) p)
    ∙ quiet-held cap (suc c) r p es f (omega arith) k

-- ---- covers that come in at the end

pub quiet-more : {p r : ℕ} {es : List ℕ} (new : List ℕ) → Quiet p r es → Quiet p r (es ++ new)
quiet-more new enough = enough
quiet-more new (apart h k) = apart h (quiet-more new k)
quiet-more new (inside h k) = inside h (quiet-more new k)

-- ---- a held piece is quiet

-- a piece of p, which met es with the count c: a part of p, without an empty set if p has none, and quiet if it is held
pub record Piece (cap c : ℕ) (es : List ℕ) (p : ℕ) (q : Part) : Type 0 where
  pub within : Sub q.cover p
  pub full : full_of 8 p ≡ true → full_of 8 q.cover ≡ true
  pub quiet : q.held ≡ true → Quiet q.cover (cap - c) es

module _ (cap c m : ℕ) (es : List ℕ) (p : ℕ) (less : c < cap) where
  abbrev x : ℕ
  x = bit_and p m

  one_less : cap - c ≡ suc (cap - suc c)
  one_less = omega arith

  -- passed over by what shares no choice with it
  piece-apart : (o : ℕ) → Sub o p → (full_of 8 p ≡ true → full_of 8 o ≡ true) → full_of 8 (bit_and o m) ≡ false → (q : Part) → Piece cap c es o q → Piece cap c (m ∷ es) p q
  piece-apart o s f h q k = record {
    within = sub_trans q.cover o p k.within s;
    full = λ g. k.full (f g);
    quiet = λ t. subst (λ (r : ℕ). Quiet q.cover r (m ∷ es)) (sym one_less) (apart (apart-part 8 q.cover o m k.within h) (subst (λ (r : ℕ). Quiet q.cover r es) one_less (k.quiet t)));
  }

  -- held by what it is inside of
  piece_inside : full_of 8 x ≡ true → (q : Part) → Piece cap (suc c) es x q → Piece cap c (m ∷ es) p q
  piece_inside f q k = record {
    within = sub_trans q.cover x p k.within (sub_left p m);
    full = λ g. k.full f;
    quiet = λ t. subst (λ (r : ℕ). Quiet q.cover r (m ∷ es)) (sym one_less) (inside (sub_trans q.cover x m k.within (sub_right p m)) (k.quiet t));
  }

  pieces-outside : full_of 8 x ≡ true → ((o : ℕ) → Every (Piece cap c es o) (carried cap es c o)) → Every (Piece cap c (m ∷ es) p) (each (carried cap es c) (outs 8 0 x (p - x)))
  pieces-outside f ih =
      every_each (Outside 8 p m) (Piece cap c (m ∷ es) p) (carried cap es c)
      (λ o k. every_more (Piece cap c es o) (Piece cap c (m ∷ es) p) (piece-apart o k.part (λ g. k.full g f) k.apart) (carried cap es c o) (ih o))
      (outs 8 0 x (p - x)) (outside-pieces p m)

held-now : (cap c : ℕ) (es : List ℕ) (p : ℕ) (h : Bool) → (h ≡ true → leb cap c ≡ true) → Piece cap c es p (part p h)
held-now cap c es p h k = record {
  within = and_self p;
  full = λ g. g;
  quiet = λ t. let z : 0 ≡ cap - c = omega (arith, leb-true cap c (k t)) in subst (λ (r : ℕ). Quiet p r es) z enough;
}

pub pieces : (cap : ℕ) (es : List ℕ) (c p : ℕ) → Every (Piece cap c es p) (carried cap es c p)
unfolding carried
pieces cap [] c p = (held-now cap c [] p (leb cap c) (λ t. t), tt)
pieces cap (m ∷ es) c p = go (leb cap c) (ltb (c + suc (length es)) cap) (full_of 8 (bit_and p m)) refl refl (pieces cap es)
  where
    go : (a b f : Bool) → leb cap c ≡ a → full_of 8 (bit_and p m) ≡ f → ((d q : ℕ) → Every (Piece cap d es q) (carried cap es d q))
        → Every (Piece cap c (m ∷ es) p) (turn a b f (carried cap es) c p (bit_and p m))
    go true b f e h ih = (held-now cap c (m ∷ es) p true (λ t. e), tt)
    go false true f e h ih = (held-now cap c (m ∷ es) p false (λ t. absurd (false≢true t)), tt)
    go false false false e h ih =
        every_more (Piece cap c es p) (Piece cap c (m ∷ es) p) (piece-apart cap c m es p (leb-false cap c e) p (and_self p) (λ g. g) h) (carried cap es c p) (ih c p)
    go false false true e h ih =
        every_append (Piece cap c (m ∷ es) p) (carried cap es (suc c) (bit_and p m)) (each (carried cap es c) (outs 8 0 (bit_and p m) (p - bit_and p m)))
        (every_more (Piece cap (suc c) es (bit_and p m)) (Piece cap c (m ∷ es) p) (piece_inside cap c m es p (leb-false cap c e) h) (carried cap es (suc c) (bit_and p m)) (ih (suc c) (bit_and p m)))
        (pieces-outside cap c m es p (leb-false cap c e) h (ih c))
