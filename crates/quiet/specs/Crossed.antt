-- When a held piece that meets a partner's covers first need not ask again. It rests at what it meets if a cover of the partner has it whole, with none before that
-- shares a choice with it, or if it is apart from all of the partner's and quiet on the element. A piece that rests is held again, uncut; a held piece rests at
-- what held it; and neither covers that share no choice with it nor covers that come in at the end of the element's own change that. Each is shown by induction
-- on the partner's covers. Assumes nothing.
use Rattle.std.specs.Prelude.{◌≡◌, Bool, true, false, cond, ℕ, ◌+◌, ◌-◌}
use Rattle.std.proofs.Math.Path.{refl}
use Rattle.std.proofs.Common.{ap, sym, ◌∙◌, subst, arith}
use Rattle.std.proofs.lemmas.Bool.{false≢true}
use mathlib.Core.List.{List, [], ◌∷◌, ◌++◌}
use Rattle.std.specs.Int.Bits.{bit_and, and_self}
use Rattle.rules.specs.Lists.{each}
use Rattle.theory_lists.specs.Every.{Every, every_each, every_more}
use Rattle.cut.specs.Cut.{Part, part, full_of, outs, carried, crossed, Met, cut_by}
use Rattle.cut.specs.Outside.{outs-nothing}
use Rattle.quiet.specs.Parts.{Sub, sub_trans, sub_left, sub_right, apart-part, Outside, outside-pieces}
use Rattle.quiet.specs.Quiet.{Quiet, quiet-held, quiet-more, Piece, pieces}
use Rattle.quiet.specs.Like.{Like, quiet_like}
use Rattle.quiet.specs.Like.Like.{none, same, gone, come}

-- what p has to do with the partner's covers still to meet, and after them with the element's own
pub data Resting (p cap : ℕ) (own : List ℕ) : List ℕ → Type 0 where
  passed : Quiet p cap own → Resting p cap own []
  apart : {m : ℕ} {ms : List ℕ} → full_of 8 (bit_and p m) ≡ false → Resting p cap own ms → Resting p cap own (m ∷ ms)
  inside : {m : ℕ} {ms : List ℕ} → Sub p m → Resting p cap own (m ∷ ms)

-- p rests at what it meets: held by a cover of the partner that has it whole, with none before that shares a choice with it, or apart from all of the partner's
-- and quiet on the element
abbrev pub Rests : ℕ → Met → Type 0
Rests p m = Resting p m.cap m.own m.partner

-- one turn of p among the partner's covers, whose common part x with the next has a choice if b
abbrev turn_by : (ℕ → List Part) → ℕ → Bool → ℕ → List Part
turn_by on p b x = cond b (part x true ∷ each on (outs 8 0 x (p - x))) (on p)

-- ---- a piece that rests is held, uncut

resting_held : (cap : ℕ) (own ms : List ℕ) (p : ℕ) → full_of 8 p ≡ true → Resting p cap own ms → crossed (carried cap own 0) ms p ≡ part p true ∷ []
unfolding crossed
resting_held cap own [] p f (passed q) = let e : cap ≡ 0 + cap = omega arith in quiet-held cap 0 cap p own f e q
resting_held cap own (m ∷ ms) p f (apart h k) =
    ap (λ (b : Bool). turn_by (crossed (carried cap own 0) ms) p b (bit_and p m)) h ∙ resting_held cap own ms p f k
resting_held cap own (m ∷ ms) p f (inside h) =
    let none_lost : p - p ≡ 0 = omega arith in
    let on : ℕ → List Part = crossed (carried cap own 0) ms in
    ap (λ (x : ℕ). turn_by on p (full_of 8 x) x) h
    ∙ ap (λ (b : Bool). turn_by on p b p) f
    ∙ ap (λ (l : List ℕ). part p true ∷ each on l) (ap (outs 8 0 p) none_lost ∙ outs-nothing 8 0 p)

pub rests-held : (m : Met) (p : ℕ) → full_of 8 p ≡ true → Rests p m → cut_by m p ≡ part p true ∷ []
rests-held m p f r = resting_held m.cap m.own m.partner p f r

-- ---- a held piece rests

-- a piece of the asker p: a part of p, without an empty set if p has none, and at rest at what it met if it is held
pub record Cut (m : Met) (p : ℕ) (q : Part) : Type 0 where
  pub within : Sub q.cover p
  pub full : full_of 8 p ≡ true → full_of 8 q.cover ≡ true
  pub rests : q.held ≡ true → Rests q.cover m

module _ (cap : ℕ) (own : List ℕ) where
  -- where ms are still to meet of the partner's
  abbrev still : List ℕ → Met
  still ms = record { cap = cap; partner = ms; own = own }

  cut-passed : (p : ℕ) (q : Part) → Piece cap 0 own p q → Cut (still []) p q
  cut-passed p q k = record {
    within = k.within;
    full = k.full;
    rests = λ t. let all : cap - 0 ≡ cap = omega arith in passed (subst (λ (r : ℕ). Quiet q.cover r own) all (k.quiet t));
  }

  module _ (m : ℕ) (ms : List ℕ) (p : ℕ) where
    -- passed over by what shares no choice with it
    cut_apart : (o : ℕ) → Sub o p → (full_of 8 p ≡ true → full_of 8 o ≡ true) → full_of 8 (bit_and o m) ≡ false
        → (q : Part) → Cut (still ms) o q → Cut (still (m ∷ ms)) p q
    cut_apart o s f h q k = record {
      within = sub_trans q.cover o p k.within s;
      full = λ g. k.full (f g);
      rests = λ t. apart (apart-part 8 q.cover o m k.within h) (k.rests t);
    }

    -- held by what it is inside of
    cut_inside : full_of 8 (bit_and p m) ≡ true → Cut (still (m ∷ ms)) p (part (bit_and p m) true)
    cut_inside f = record { within = sub_left p m; full = λ g. f; rests = λ t. inside (sub_right p m) }

    cut-outside : (on : ℕ → List Part) → ((o : ℕ) → Every (Cut (still ms) o) (on o)) → full_of 8 (bit_and p m) ≡ true
        → Every (Cut (still (m ∷ ms)) p) (each on (outs 8 0 (bit_and p m) (p - bit_and p m)))
    cut-outside on each-cut f =
        every_each (Outside 8 p m) (Cut (still (m ∷ ms)) p) on
        (λ o k. every_more (Cut (still ms) o) (Cut (still (m ∷ ms)) p) (cut_apart o k.part (λ g. k.full g f) k.apart) (on o) (each-cut o))
        (outs 8 0 (bit_and p m) (p - bit_and p m)) (outside-pieces p m)

    cut-turn : (on : ℕ → List Part) → ((o : ℕ) → Every (Cut (still ms) o) (on o)) → (b : Bool) → full_of 8 (bit_and p m) ≡ b
        → Every (Cut (still (m ∷ ms)) p) (turn_by on p b (bit_and p m))
    cut-turn on each-cut true f = (cut_inside f, cut-outside on each-cut f)
    cut-turn on each-cut false f = every_more (Cut (still ms) p) (Cut (still (m ∷ ms)) p) (cut_apart p (and_self p) (λ g. g) f) (on p) (each-cut p)

  cut_by_lem : (ms : List ℕ) (p : ℕ) → Every (Cut (still ms) p) (crossed (carried cap own 0) ms p)
  unfolding crossed
  cut_by_lem [] p = every_more (Piece cap 0 own p) (Cut (still []) p) (cut-passed p) (carried cap own 0 p) (pieces cap own 0 p)
  cut_by_lem (m ∷ ms) p = cut-turn m ms p (crossed (carried cap own 0) ms) (cut_by_lem ms) (full_of 8 (bit_and p m)) refl

pub cut-pieces : (m : Met) (p : ℕ) → Every (Cut m p) (cut_by m p)
cut-pieces m p = cut_by_lem m.cap m.own m.partner p

-- ---- covers that share no choice with the piece, and covers that come in at the end

resting_like : {p cap : ℕ} {own es ms ns : List ℕ} → full_of 8 p ≡ true → Like p ms ns → Like p own es → Resting p cap own ms → Resting p cap es ns
resting_like f none l (passed q) = passed (quiet_like f l q)
resting_like f (same a) l (apart h k) = apart h (resting_like f a l k)
resting_like f (same a) l (inside h) = inside h
resting_like f (gone g a) l (apart h k) = resting_like f a l k
resting_like f (gone g a) l (inside h) = absurd (false≢true (sym g ∙ ap (full_of 8) h ∙ f))
resting_like f (come g a) l k = apart g (resting_like f a l k)

pub rests_like : {p : ℕ} {m : Met} {ms es : List ℕ} → full_of 8 p ≡ true → Like p m.partner ms → Like p m.own es → Rests p m
    → Rests p (record { cap = m.cap; partner = ms; own = es })
rests_like f a l r = resting_like f a l r

resting_more : {p cap : ℕ} {own ms : List ℕ} (new more : List ℕ) → Every (λ c. full_of 8 (bit_and p c) ≡ false) new
    → Resting p cap own ms → Resting p cap (own ++ more) (ms ++ new)
resting_more [] more h (passed q) = passed (quiet-more more q)
resting_more (c ∷ new) more h (passed q) = apart h.0 (resting_more new more h.1 (passed q))
resting_more new more h (apart g k) = apart g (resting_more new more h k)
resting_more new more h (inside g) = inside g

pub rests-more : {p : ℕ} {m : Met} (new : List ℕ) → Every (λ c. full_of 8 (bit_and p c) ≡ false) new → (more : List ℕ) → Rests p m
    → Rests p (record { cap = m.cap; partner = m.partner ++ new; own = m.own ++ more })
rests-more new h more r = resting_more new more h r
