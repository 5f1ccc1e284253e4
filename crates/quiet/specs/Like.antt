-- Two lists of covers that are alike for a piece: the one has some covers less and some more than the other, none of which shares a choice with the piece.
-- A piece that is quiet for the one is quiet for the other. So it stays quiet while rows go and are cut that share no choice with it. Assumes nothing.
use Rattle.std.specs.Prelude.{◌≡◌, Bool, ℕ, zero, suc}
use Rattle.std.proofs.Math.Path.{refl}
use Rattle.std.proofs.Common.{ap, sym, ◌∙◌}
use Rattle.std.proofs.Math.Bool.{true, false}
use Rattle.std.proofs.lemmas.Bool.{false≢true}
use mathlib.Core.List.{List, [], ◌∷◌, ◌++◌}
use Rattle.std.specs.Int.Bits.{bit_and}
use Rattle.std.proofs.lemmas.Nat.{and_comm}
use Rattle.rules.specs.Lists.{one, each}
use Rattle.theory_lists.specs.Each.{each_append}
use Rattle.theory_lists.specs.Every.{Every}
use Rattle.cut.specs.Cut.{full_of}
use Rattle.rows.specs.Rows.{Row, meets_of, met_of}
use Rattle.quiet.specs.Parts.{Sub, apart-part}
use Rattle.quiet.specs.Quiet.{Quiet}
use Rattle.quiet.specs.Quiet.Quiet.{enough, apart, inside}

pub data Like (p : ℕ) : List ℕ → List ℕ → Type 0 where
  none : Like p [] []
  same : {m : ℕ} {es fs : List ℕ} → Like p es fs → Like p (m ∷ es) (m ∷ fs)
  gone : {m : ℕ} {es fs : List ℕ} → full_of 8 (bit_and p m) ≡ false → Like p es fs → Like p (m ∷ es) fs
  come : {m : ℕ} {es fs : List ℕ} → full_of 8 (bit_and p m) ≡ false → Like p es fs → Like p es (m ∷ fs)

pub quiet_like : {p r : ℕ} {es fs : List ℕ} → full_of 8 p ≡ true → Like p es fs → Quiet p r es → Quiet p r fs
quiet_like {r = zero} f l q = enough
quiet_like {p = p} {r = suc r} f none q = elim q [ ]
quiet_like {r = suc r} f (same l) (apart h k) = apart h (quiet_like f l k)
quiet_like {r = suc r} f (same l) (inside h k) = inside h (quiet_like f l k)
quiet_like {r = suc r} f (gone g l) (apart h k) = quiet_like f l k
quiet_like {r = suc r} f (gone g l) (inside h k) = absurd (false≢true (sym g ∙ ap (full_of 8) h ∙ f))
quiet_like {r = suc r} f (come g l) q = apart g (quiet_like f l q)

-- ---- what becomes of a row, as the asker p of train k for e sees it

pub data Change (p e k : ℕ) (r : Row) : List Row → Type 0 where
  kept : Change p e k r (r ∷ [])
  cut : {l : List Row} → (meets_of e k r.state ≡ true → full_of 8 (bit_and p r.cover) ≡ false)
      → Every (λ x. (x.state ≡ r.state) × Sub x.cover r.cover) l → Change p e k r l

-- a part of a cover that shares no choice with p shares none
pub part_apart : (p c d : ℕ) → Sub d c → full_of 8 (bit_and p c) ≡ false → full_of 8 (bit_and p d) ≡ false
part_apart p c d s h = ap (full_of 8) (and_comm p d) ∙ apart-part 8 d c p s (ap (full_of 8) (and_comm c p) ∙ h)

module _ (p e k : ℕ) where
  -- rows of a state that is met are met, each apart from p
  come-all : (s c : ℕ) → meets_of e k s ≡ true → full_of 8 (bit_and p c) ≡ false → (l : List Row) → Every (λ x. (x.state ≡ s) × Sub x.cover c) l
      → {es fs : List ℕ} → Like p es fs → Like p es (met_of e k l ++ fs)
  unfolding met_of
  come-all s c m h [] f l = l
  come-all s c m h (x ∷ xs) f {es} {fs} l =
      rw (f.0.0, m) (come (part_apart p c x.cover f.0.1 h) (come-all s c m h xs f.1 l))

  -- rows of a state that is not met are not met
  none-all : (s c : ℕ) → meets_of e k s ≡ false → (l : List Row) → Every (λ x. (x.state ≡ s) × Sub x.cover c) l → met_of e k l ≡ []
  unfolding met_of
  none-all s c m [] f = refl
  none-all s c m (x ∷ xs) f = rw (f.0.0, m) (none-all s c m xs f.1)

  like_one : (r : Row) (l : List Row) → Change p e k r l → {es fs : List ℕ} → Like p es fs → Like p (one (meets_of e k r.state) r.cover ++ es) (met_of e k l ++ fs)
  unfolding met_of
  like_one r l kept {es} {fs} h = go (meets_of e k r.state)
    where
      go : (b : Bool) → Like p (one b r.cover ++ es) ((one b r.cover ++ []) ++ fs)
      go true = same h
      go false = h
  like_one r l (cut a f) {es} {fs} h = go (meets_of e k r.state) refl
    where
      go : (b : Bool) → meets_of e k r.state ≡ b → Like p (one b r.cover ++ es) (met_of e k l ++ fs)
      go true m = gone (a m) (come-all r.state r.cover m (a m) l f h)
      go false m = rw (none-all r.state r.cover m l f) h

  pub like_rows : (f : Row → List Row) (rs : List Row) → Every (λ r. Change p e k r (f r)) rs → Like p (met_of e k rs) (met_of e k (each f rs))
  unfolding met_of
  like_rows f [] h = none
  like_rows f (r ∷ rs) h =
      rw (each_append (λ x. one (meets_of e k x.state) x.cover) (f r) (each f rs)) (like_one r (f r) h.0 (like_rows f rs h.1))
