-- Which rows wait that need not ask again. For each pair of train and element there is a word that has every cover on the element or on its partner that has
-- gone or was cut, and every cover that came to the partner, since the train's rows last asked for it (the pair is stirred by it), and a word that is 0 while
-- none of its rows waits. The rows are calm if each that waits shares a choice with what stirred its pair, or rests at what it meets. Rows stay calm while rows
-- go, are cut and come, as long as the pairs that they concern are told. Assumes nothing.
use Rattle.std.specs.Prelude.{◌≡◌, Bool, not, cond, ℕ, ◌+◌, ◌*◌, ◌/◌, ◌%◌, ◌≤◌, ◌<◌, ltb}
use Rattle.std.proofs.Math.Path.{refl}
use Rattle.std.proofs.Common.{sym, ◌∙◌, subst, eqb-true}
use Rattle.std.proofs.Math.Bool.{true, false}
use Rattle.std.proofs.lemmas.Bool.{false≢true, eqb-false}
use mathlib.Core.List.{List, [], ◌∷◌, ◌++◌}
use Rattle.std.specs.Int.Bits.{bit_and}
use Rattle.std.proofs.Math.Dec.{eqb}
use Rattle.rules.specs.Lists.{one, each}
use Rattle.theory_lists.specs.Each.{each_append}
use Rattle.theory_lists.specs.Every.{Every, every_each, every_more, every_one}
use Rattle.cut.specs.Cut.{full_of}
use Rattle.rows.specs.Rows.{Row, meets_of, met_of}
use Rattle.asking.specs.Ask.{next_of, partner_of, met_across, met_on, met_at}
use Rattle.quiet.specs.Parts.{Sub}
use Rattle.quiet.specs.Crossed.{Rests, rests_like, rests-more}
use Rattle.quiet.specs.Like.{Like, Change, part_apart, like_rows}
use Rattle.quiet.specs.Like.Like.{none}
use Rattle.quiet.specs.Like.Change.{kept, cut}

-- ---- the definitions

-- a standing state that is due before n
unfoldable pub waits_of : ℕ → ℕ → Bool
waits_of n s = cond (eqb (s / 2048 % 2) 1) false (ltb (s % 2048) n)

-- the place of the pair of train k and element e, and the pair that a state waits for
abbrev pub spot : ℕ → ℕ → ℕ
spot k e = k * 128 + e

abbrev pub spot_of : List ℕ → ℕ → ℕ
spot_of T s = spot (s / 524288) (next_of T s)

-- a state and a cover that share a choice with what stirred their pair, or rest at what they meet
pub data Still (T : List ℕ) (stir : ℕ → ℕ) (l : List Row) (s c : ℕ) : Type 0 where
  stirred : full_of 8 (bit_and c (stir (spot_of T s))) ≡ true → Still T stir l s c
  rests : Rests c (met_at T (next_of T s) (s / 524288) l) → Still T stir l s c

pub record Settled (T : List ℕ) (n : ℕ) (stir asked : ℕ → ℕ) (l : List Row) (r : Row) : Type 0 where
  pub full : full_of 8 r.cover ≡ true
  pub train : r.state / 524288 < 8
  pub place : r.state / 4096 % 128 ≤ 65
  pub known : waits_of n r.state ≡ true → asked (spot_of T r.state) ≡ 0 → ⊥
  pub still : waits_of n r.state ≡ true → Still T stir l r.state r.cover

abbrev pub Calm : List ℕ → ℕ → (ℕ → ℕ) → (ℕ → ℕ) → List Row → Type 0
Calm T n stir asked l = Every (Settled T n stir asked l) l

-- ---- rows that go, are cut or come

-- who asks for e meets what is at p: it is e, or the partner of e
pub data Meets (T : List ℕ) (e p : ℕ) : Type 0 where
  own : p ≡ e → Meets T e p
  across : (partner_of T e ≡ 0 → ⊥) → p ≡ partner_of T e → Meets T e p

-- train k's pair with the element is told of the cover c, or none of its rows waits
pub data Told (stir asked : ℕ → ℕ) (i c : ℕ) : Type 0 where
  nobody : asked i ≡ 0 → Told stir asked i c
  told : Sub c (stir i) → Told stir asked i c

-- what becomes of a row: it stays, or parts of it do, and the pairs of the other trains that meet it are told
pub data Moved (T : List ℕ) (stir asked : ℕ → ℕ) (r : Row) : List Row → Type 0 where
  stays : Moved T stir asked r (r ∷ [])
  goes : {l : List Row} → Every (λ x. (x.state ≡ r.state) × Sub x.cover r.cover) l
      → ((k e : ℕ) → k < 8 → e < 128 → (r.state / 524288 ≡ k → ⊥) → Meets T e (r.state / 4096 % 128) → Told stir asked (spot k e) r.cover) → Moved T stir asked r l

-- a row that came: the pairs of the other trains with the partner of its place are told
abbrev pub Came : List ℕ → (ℕ → ℕ) → (ℕ → ℕ) → Row → Type 0
Came T stir asked r =
    (k e : ℕ) → k < 8 → e < 128 → (r.state / 524288 ≡ k → ⊥) → (partner_of T e ≡ 0 → ⊥) → r.state / 4096 % 128 ≡ partner_of T e → Told stir asked (spot k e) r.cover

-- a row that is met stands at the place and is another train's
pub met-is : (e k s : ℕ) → meets_of e k s ≡ true → (s / 4096 % 128 ≡ e) × (s / 524288 ≡ k → ⊥)
unfolding meets_of
met-is e k s h = go (eqb (s / 4096 % 128) e) (eqb (s / 524288) k) refl refl h
  where
    go : (a b : Bool) → eqb (s / 4096 % 128) e ≡ a → eqb (s / 524288) k ≡ b → cond a (not b) false ≡ true → (s / 4096 % 128 ≡ e) × (s / 524288 ≡ k → ⊥)
    go true false f g q = (eqb-true (s / 4096 % 128) e f, eqb-false (s / 524288) k g)
    go true true f g q = absurd (false≢true q)
    go false b f g q = absurd (false≢true q)

met-more : (e k : ℕ) (a b : List Row) → met_of e k (a ++ b) ≡ met_of e k a ++ met_of e k b
unfolding met_of
met-more e k a b = each_append (λ r. one (meets_of e k r.state) r.cover) a b

own-more : (e k : ℕ) (a b : List Row) → met_on e k (a ++ b) ≡ met_on e k a ++ met_on e k b
unfolding met_on
own-more e k a b = go (ltb e 64)
  where
    go : (t : Bool) → cond t (met_of e k (a ++ b)) [] ≡ cond t (met_of e k a) [] ++ cond t (met_of e k b) []
    go true = met-more e k a b
    go false = refl

across-more : (w k : ℕ) (a b : List Row) → met_across w k (a ++ b) ≡ met_across w k a ++ met_across w k b
unfolding met_across
across-more w k a b = go (eqb w 0)
  where
    go : (t : Bool) → cond t [] (met_of w k (a ++ b)) ≡ cond t [] (met_of w k a) ++ cond t [] (met_of w k b)
    go true = refl
    go false = met-more w k a b

module _ (T : List ℕ) (stir asked : ℕ → ℕ) (f : Row → List Row) (new l : List Row) (moved : Every (λ r. Moved T stir asked r (f r)) l) (came : Every (Came T stir asked) new) where
  -- as the asker with the cover c of train k for e sees it, where its pair was told of nothing that it shares a choice with
  module _ (k e c : ℕ) (small : k < 8) (low : e < 128) (some : asked (spot k e) ≡ 0 → ⊥) (calm : full_of 8 (bit_and c (stir (spot k e))) ≡ false) where
    heard : (d : ℕ) → Told stir asked (spot k e) d → full_of 8 (bit_and c d) ≡ false
    heard d (nobody z) = absurd (some z)
    heard d (told s) = part_apart c (stir (spot k e)) d s calm

    change_of : (p : ℕ) → Meets T e p → (r : Row) (x : List Row) → Moved T stir asked r x → Change c p k r x
    change_of p m r x stays = kept
    change_of p m r x (goes h g) = cut apart h
      where
        apart : meets_of p k r.state ≡ true → full_of 8 (bit_and c r.cover) ≡ false
        apart q = let is = met-is p k r.state q in heard r.cover (g k e small low is.1 (subst (Meets T e) (sym is.0) m))

    -- what is met at e, or at its partner
    like_at : (p : ℕ) → Meets T e p → Like c (met_of p k l) (met_of p k (each f l))
    like_at p m = like_rows c p k f l (every_more (λ r. Moved T stir asked r (f r)) (λ r. Change c p k r (f r)) (λ r h. change_of p m r (f r) h) l moved)

    like_own : Like c (met_on e k l) (met_on e k (each f l))
    unfolding met_on
    like_own = go (ltb e 64)
      where
        go : (b : Bool) → Like c (cond b (met_of e k l) []) (cond b (met_of e k (each f l)) [])
        go true = like_at e (own refl)
        go false = none

    like_across : Like c (met_across (partner_of T e) k l) (met_across (partner_of T e) k (each f l))
    unfolding met_across
    like_across = go (eqb (partner_of T e) 0) refl
      where
        go : (b : Bool) → eqb (partner_of T e) 0 ≡ b → Like c (cond b [] (met_of (partner_of T e) k l)) (cond b [] (met_of (partner_of T e) k (each f l)))
        go true h = none
        go false h = like_at (partner_of T e) (across (eqb-false (partner_of T e) 0 h) refl)

    -- what came to the partner
    apart-came : Every (λ d. full_of 8 (bit_and c d) ≡ false) (met_across (partner_of T e) k new)
    unfolding met_across met_of
    apart-came = go (eqb (partner_of T e) 0) refl
      where
        at : (partner_of T e ≡ 0 → ⊥) → (r : Row) → Came T stir asked r → Every (λ d. full_of 8 (bit_and c d) ≡ false) (one (meets_of (partner_of T e) k r.state) r.cover)
        at h r g =
            every_one (λ d. full_of 8 (bit_and c d) ≡ false) (meets_of (partner_of T e) k r.state) r.cover
            (λ q. let is = met-is (partner_of T e) k r.state q in heard r.cover (g k e small low is.1 h is.0))

        go : (b : Bool) → eqb (partner_of T e) 0 ≡ b → Every (λ d. full_of 8 (bit_and c d) ≡ false) (cond b [] (met_of (partner_of T e) k new))
        go true h = tt
        go false h =
            every_each (Came T stir asked) (λ d. full_of 8 (bit_and c d) ≡ false) (λ r. one (meets_of (partner_of T e) k r.state) r.cover) (at (eqb-false (partner_of T e) 0 h)) new came

    rests-next : full_of 8 c ≡ true → Rests c (met_at T e k l) → Rests c (met_at T e k (each f l ++ new))
    rests-next full q =
        rw (across-more (partner_of T e) k (each f l) new, own-more e k (each f l) new)
        (rests-more {m = met_at T e k (each f l)} (met_across (partner_of T e) k new) apart-came (met_on e k new) (rests_like {m = met_at T e k l} full like_across like_own q))

  -- a state with its cover, at rest before, is stirred or at rest afterwards
  pub still-next : (s c : ℕ) → s / 524288 < 8 → next_of T s < 128 → full_of 8 c ≡ true → (asked (spot_of T s) ≡ 0 → ⊥) → Rests c (met_at T (next_of T s) (s / 524288) l)
      → Still T stir (each f l ++ new) s c
  still-next s c small low full some q = go (full_of 8 (bit_and c (stir (spot_of T s)))) refl
    where
      go : (b : Bool) → full_of 8 (bit_and c (stir (spot_of T s))) ≡ b → Still T stir (each f l ++ new) s c
      go true h = stirred h
      go false h = rests (rests-next (s / 524288) (next_of T s) c small low some h full q)

  -- a row that stays is settled afterwards, where its pair's words only grew
  pub settled_next : (n : ℕ) (was before : ℕ → ℕ) (r : Row) → next_of T r.state < 128
      → (waits_of n r.state ≡ true → Sub (was (spot_of T r.state)) (stir (spot_of T r.state)))
      → (asked (spot_of T r.state) ≡ 0 → before (spot_of T r.state) ≡ 0) → Settled T n was before l r → Settled T n stir asked (each f l ++ new) r
  settled_next n was before r low grown more h = record {
    full = h.full;
    train = h.train;
    place = h.place;
    known = λ w z. h.known w (more z);
    still = λ w. go (full_of 8 (bit_and r.cover (stir (spot_of T r.state)))) refl w (h.still w);
  }
    where
      go : (b : Bool) → full_of 8 (bit_and r.cover (stir (spot_of T r.state))) ≡ b → waits_of n r.state ≡ true → Still T was l r.state r.cover
          → Still T stir (each f l ++ new) r.state r.cover
      go true e w x = stirred e
      go false e w (stirred x) =
          absurd (false≢true (sym (part_apart r.cover (stir (spot_of T r.state)) (was (spot_of T r.state)) (grown w) e) ∙ x))
      go false e w (rests x) = still-next r.state r.cover h.train low h.full (λ z. h.known w (more z)) x
