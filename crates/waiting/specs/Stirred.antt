-- A pass that serves only the rows that were stirred is the pass: the others rest at what they meet, so they would be held as they are and bring nothing in.
-- After it, after a sweep and in the next minute the rows are calm again, if the pairs that it concerns are told. Assumes nothing.
use Rattle.std.specs.Prelude.{◌≡◌, Bool, not, ℕ, ◌+◌, ◌/◌, ◌%◌, ◌≤◌, ◌<◌, eqb, ltb}
use Rattle.std.proofs.Math.Path.{refl, ap, ap₂, subst}
use Rattle.std.proofs.Common.{sym, ◌∙◌, arith}
use Rattle.std.proofs.Math.Bool.{true, false, cond, false≢true}
use mathlib.Core.List.{List, [], ◌∷◌, ◌++◌, map, append-nil}
use borrow.Author.Tests.{eq-eqb, ltb-true, ltb-false, lt-ltb, le-ltb}
use Rattle.std.specs.Int.Bits.{bit_and}
use Rattle.rules.specs.Lists.{one, each, keep}
use Rattle.theory_lists.specs.Each.{each_self}
use Rattle.theory_lists.specs.Every.{Every, each_every, every_append, every_each, every_more, every_map, every_one}
use Rattle.cut.specs.Cut.{Part, part, full_of, Met, cut_by, held_of, entering_of}
use Rattle.rows.specs.Rows.{Row, row, ended_of, swept_of, held_rows, entered_rows}
use Rattle.asking.specs.declared.Job.{Job}
use Rattle.asking.specs.Ask.{due_of, next_of, partner_of, Suits, asks_of, met_across, met_on, met_for, met_at, asking_of, stirred_of}
use Rattle.asking.specs.Asking.{Asking, asking}
use Rattle.serving.specs.Pass.{hold_by, enter_by, hold_row, enter_row, covers_of, passed_of, stirred_covers, stirred_pass, Went}
use Rattle.serving.specs.Pass.Went.{as_it_is, moves}
use Rattle.quiet.specs.Parts.{Sub, sub_trans}
use Rattle.quiet.specs.Crossed.{Rests, rests-held, Cut, cut-pieces}
use Rattle.waiting.specs.Calm.{waits_of, spot, spot_of, Still, Settled, Calm, Meets, Told, Moved, Came, still-next, settled_next}
use Rattle.waiting.specs.Calm.Still.{stirred, rests}
use Rattle.waiting.specs.Calm.Meets.{across}
use Rattle.waiting.specs.Calm.Told.{nobody, told}
use Rattle.waiting.specs.Calm.Moved.{stays, goes}

-- ---- due, and waiting

pub due-waits : (t s : ℕ) → due_of t s ≡ waits_of (t + 1) s
unfolding due_of waits_of
due-waits t s = ap (λ (b : Bool). cond (eqb (s / 2048 % 2) 1) false b) (go (ltb t (s % 2048)) refl)
  where
    go : (b : Bool) → ltb t (s % 2048) ≡ b → not b ≡ ltb (s % 2048) (t + 1)
    go true h = sym (le-ltb (s % 2048) (t + 1) (omega (arith, ltb-true t (s % 2048) h)))
    go false h = sym (lt-ltb (s % 2048) (t + 1) (omega (arith, ltb-false t (s % 2048) h)))

-- ---- the pass

module _ (T : List ℕ) (q : Job) (stir asked : ℕ → ℕ) (l : List Row) (suits : Suits T q) where
  abbrev u : ℕ
  u = stir (spot q.train q.place)

  abbrev es : Met
  es = met_for q l

  abbrev n : ℕ
  n = q.minute + 1

  -- what a row that asks shows
  shows : (r : Row) → asking_of T q r ≡ true → Asking T q.minute q.place q.train r.state
  shows r h = asking T q.minute q.place q.train r.state h

  shows_spot : (r : Row) → asking_of T q r ≡ true → spot_of T r.state ≡ spot q.train q.place
  shows_spot r h = ap₂ spot (shows r h).train (shows r h).next

  shows_waits : (r : Row) → asking_of T q r ≡ true → waits_of n r.state ≡ true
  shows_waits r h = sym (due-waits q.minute r.state) ∙ (shows r h).due

  -- what the asker's train meets is what the job's train meets
  shows_met : (r : Row) → asking_of T q r ≡ true → met_at T (next_of T r.state) (r.state / 524288) l ≡ es
  shows_met r h =
      ap₂ (λ (e k : ℕ). met_at T e k l) (shows r h).next (shows r h).train
      ∙ ap₂ (λ (c w : ℕ). record { cap = c; partner = met_across w q.train l; own = met_on q.place q.train l }) (sym suits.cap) (sym suits.partner)

  -- a row that asks and was not stirred is held as it is
  held-still : (r : Row) → Settled T n stir asked l r → asking_of T q r ≡ true → full_of 8 (bit_and r.cover u) ≡ false → cut_by es r.cover ≡ part r.cover true ∷ []
  held-still r h a f = go (h.still (shows_waits r a))
    where
      go : Still T stir l r.state r.cover → cut_by es r.cover ≡ part r.cover true ∷ []
      go (stirred x) = absurd (false≢true (sym f ∙ ap (λ (i : ℕ). full_of 8 (bit_and r.cover (stir i))) (sym (shows_spot r a)) ∙ x))
      go (rests x) = rests-held es r.cover h.full (subst (Rests r.cover) (shows_met r a) x)

  same-hold : (r : Row) → Settled T n stir asked l r → hold_row T q es r ≡ hold_by (stirred_of T q u) es r
  unfolding hold_row stirred_of held_rows
  same-hold r h = go (asking_of T q r) (full_of 8 (bit_and r.cover u)) refl refl
    where
      go : (a f : Bool) → asking_of T q r ≡ a → full_of 8 (bit_and r.cover u) ≡ f
          → cond a (held_rows r.state (held_of (cut_by es r.cover))) (r ∷ []) ≡ cond (cond a f false) (held_rows r.state (held_of (cut_by es r.cover))) (r ∷ [])
      go true true x y = refl
      go true false x y = ap (λ (p : List Part). held_rows r.state (held_of p)) (held-still r h x y)
      go false f x y = refl

  same-enter : (r : Row) → Settled T n stir asked l r → enter_row T q es r ≡ enter_by (stirred_of T q u) es r
  unfolding enter_row stirred_of
  same-enter r h = go (asking_of T q r) (full_of 8 (bit_and r.cover u)) refl refl
    where
      go : (a f : Bool) → asking_of T q r ≡ a → full_of 8 (bit_and r.cover u) ≡ f
          → cond a (entering_of (cut_by es r.cover)) [] ≡ cond (cond a f false) (entering_of (cut_by es r.cover)) []
      go true true x y = refl
      go true false x y = ap entering_of (held-still r h x y)
      go false f x y = refl

  pub covers-stirred : Calm T n stir asked l → covers_of T q l ≡ stirred_covers T q u l
  unfolding covers_of stirred_covers
  covers-stirred h = each_every (Settled T n stir asked l) (enter_row T q es) (enter_by (stirred_of T q u) es) same-enter l h

  pub passed-stirred : Calm T n stir asked l → passed_of T q l ≡ stirred_pass T q u l
  unfolding passed_of stirred_pass
  passed-stirred h =
      ap₂ (λ (a : List Row) (b : List ℕ). a ++ entered_rows q.stands q.blocks q.two b)
      (each_every (Settled T n stir asked l) (hold_row T q es) (hold_by (stirred_of T q u) es) same-hold l h)
      (covers-stirred h)

-- ---- calm after the pass

-- what is told after a pass: the words of the other pairs only grow, those of the place that was left, of its partner and of the partner of the place that was
-- entered have all that moved, and so has the pair that the train now waits for, if it is due at once
pub record Spread (T : List ℕ) (q : Job) (stir asked : ℕ → ℕ) (from moved : ℕ) (stir' asked' : ℕ → ℕ) : Type 0 where
  pub grown : (i : ℕ) → (i ≡ spot q.train q.place → ⊥) → Sub (stir i) (stir' i)
  pub more : (i : ℕ) → asked' i ≡ 0 → asked i ≡ 0
  pub left : (k e : ℕ) → k < 8 → e < 128 → (k ≡ q.train → ⊥) → Meets T e from → Told stir' asked' (spot k e) moved
  pub came : (k e : ℕ) → k < 8 → e < 128 → (k ≡ q.train → ⊥) → (partner_of T e ≡ 0 → ⊥) → q.place ≡ partner_of T e → Told stir' asked' (spot k e) moved
  pub fresh : waits_of (q.minute + 1) q.stands ≡ true → (asked' (spot_of T q.stands) ≡ 0 → ⊥) × Sub moved (stir' (spot_of T q.stands))

-- what the pass is known to be: its states are its train's, the one at the place that is entered and the other, which is none that waits, at the place that
-- is left, its askers stand at that one place, and the codes of the next elements fit their places
pub record Ready (T : List ℕ) (q : Job) (from : ℕ) : Type 0 where
  pub suits : Suits T q
  pub train : q.train < 8
  pub place : q.place ≤ 65
  pub near : from ≤ 65
  pub stands : q.stands / 524288 ≡ q.train
  pub blocks : q.blocks / 524288 ≡ q.train
  pub block : waits_of (q.minute + 1) q.blocks ≡ false
  pub stands_place : q.stands / 4096 % 128 ≡ q.place
  pub blocks_place : q.blocks / 4096 % 128 ≡ from
  pub nexts : (s : ℕ) → s / 524288 < 8 → next_of T s < 128
  pub one_place : (s : ℕ) → s / 4096 % 128 ≤ 65 → asks_of T q.minute q.place q.train s ≡ true → s / 4096 % 128 ≡ from

module _ (met : Met) (p : ℕ) (f : full_of 8 p ≡ true) where
  pieces-held : (ps : List Part) → Every (Cut met p) ps → Every (λ c. (full_of 8 c ≡ true) × Sub c p × Rests c met) (held_of ps)
  pieces-held [] h = tt
  pieces-held (x ∷ ps) h = go x.held refl (pieces-held ps h.1)
    where
      go : (b : Bool) → x.held ≡ b → Every (λ c. (full_of 8 c ≡ true) × Sub c p × Rests c met) (held_of ps)
          → Every (λ c. (full_of 8 c ≡ true) × Sub c p × Rests c met) (map (λ y. y.cover) (one b x ++ keep (λ y. y.held) ps))
      go true e k = ((h.0.full f, h.0.within, h.0.rests e), k)
      go false e k = k

  pieces_entering : (ps : List Part) → Every (Cut met p) ps → Every (λ c. (full_of 8 c ≡ true) × Sub c p) (entering_of ps)
  pieces_entering [] h = tt
  pieces_entering (x ∷ ps) h = go (not x.held) (pieces_entering ps h.1)
    where
      go : (b : Bool) → Every (λ c. (full_of 8 c ≡ true) × Sub c p) (entering_of ps)
          → Every (λ c. (full_of 8 c ≡ true) × Sub c p) (map (λ y. y.cover) (one b x ++ keep (λ y. not y.held) ps))
      go true k = ((h.0.full f, h.0.within), k)
      go false k = k

module _ (T : List ℕ) (q : Job) (stir asked stir' asked' : ℕ → ℕ) (l : List Row) (from moved : ℕ) (ready : Ready T q from)
    (spread : Spread T q stir asked from moved stir' asked') where
  abbrev own : ℕ
  own = stir (spot q.train q.place)

  abbrev met : Met
  met = met_for q l

  abbrev hold : Row → List Row
  hold = hold_by (stirred_of T q own) met

  abbrev enter : Row → List ℕ
  enter = enter_by (stirred_of T q own) met

  abbrev new : List Row
  new = entered_rows q.stands q.blocks q.two (stirred_covers T q own l)

  -- the row after the pass
  abbrev After : Row → Type 0
  After r = Settled T (q.minute + 1) stir' asked' (each hold l ++ new) r

  abbrev Before : Row → Type 0
  Before r = Settled T (q.minute + 1) stir asked l r

  -- a row that is stirred asks
  stirred-asks : (r : Row) → stirred_of T q own r ≡ true → asking_of T q r ≡ true
  unfolding stirred_of
  stirred-asks r h = go (asking_of T q r) h
    where
      go : (b : Bool) → cond b (full_of 8 (bit_and r.cover own)) false ≡ true → b ≡ true
      go true k = refl
      go false k = k

  -- the parts of a row that is served
  parts : (r : Row) → Before r → Every (λ c. (full_of 8 c ≡ true) × Sub c r.cover × Rests c met) (held_of (cut_by met r.cover))
  parts r h = pieces-held met r.cover h.full (cut_by met r.cover) (cut-pieces met r.cover)

  -- who was told of all that moved was told of each part of it
  told_part : (i c : ℕ) → Sub c moved → Told stir' asked' i moved → Told stir' asked' i c
  told_part i c s (nobody z) = nobody z
  told_part i c s (told z) = told (sub_trans c moved (stir' i) s z)

  told_of_lem : (r : Row) → Before r → asking_of T q r ≡ true → Sub r.cover moved → (k e : ℕ) → k < 8 → e < 128 → (r.state / 524288 ≡ k → ⊥) → Meets T e (r.state / 4096 % 128)
      → Told stir' asked' (spot k e) r.cover
  told_of_lem r h a s k e small low other m =
      told_part (spot k e) r.cover s
      (spread.left k e small low (λ z. other ((shows T q stir asked l ready.suits r a).train ∙ sym z)) (subst (Meets T e) (ready.one_place r.state h.place a) m))

  moved-of : (r : Row) → Before r → Went (hold r) (enter r) moved r → Moved T stir' asked' r (hold r)
  unfolding held_rows
  moved-of r h (as_it_is e z) = rw e stays
  moved-of r h (moves s) = go (stirred_of T q own r) refl
    where
      go : (b : Bool) → stirred_of T q own r ≡ b → Moved T stir' asked' r (cond b (held_rows r.state (held_of (cut_by met r.cover))) (r ∷ []))
      go true e = goes
          (every_map (λ c. (full_of 8 c ≡ true) × Sub c r.cover × Rests c met) (λ x. (x.state ≡ r.state) × Sub x.cover r.cover) (λ c. row r.state c) (λ c k. (refl, k.1)) (held_of (cut_by met r.cover)) (parts r h))
          (told_of_lem r h (stirred-asks r e) s)
      go false e = stays

  all_moved : Calm T (q.minute + 1) stir asked l → Every (λ r. Went (hold r) (enter r) moved r) l → Every (λ r. Moved T stir' asked' r (hold r)) l
  all_moved h w = both l h w
    where
      both : (rs : List Row) → Every Before rs → Every (λ r. Went (hold r) (enter r) moved r) rs → Every (λ r. Moved T stir' asked' r (hold r)) rs
      both [] a b = tt
      both (r ∷ rs) a b = (moved-of r a.0 b.0, both rs a.1 b.1)

  -- a row that waits for another pair
  other-pair : (r : Row) → Before r → asking_of T q r ≡ false → waits_of (q.minute + 1) r.state ≡ true → spot_of T r.state ≡ spot q.train q.place → ⊥
  unfolding asks_of
  other-pair r h a w z =
      let small : next_of T r.state < 128 = ready.nexts r.state h.train in
      let train : r.state / 524288 ≡ q.train = omega (arith, ready.place, small, z) in
      let next : next_of T r.state ≡ q.place = omega (arith, ready.place, small, z) in
      false≢true (sym (rw (eq-eqb (r.state / 524288) q.train train, due-waits q.minute r.state, w, eq-eqb (next_of T r.state) q.place next) at a))

  module _ (calm : Calm T (q.minute + 1) stir asked l) (went : Every (λ r. Went (hold r) (enter r) moved r) l) where
    -- the covers that enter are among what moved
    entering_moved : (r : Row) → Before r → Went (hold r) (enter r) moved r → Every (λ c. (full_of 8 c ≡ true) × Sub c moved) (enter r)
    entering_moved r h (as_it_is e z) = rw z tt
    entering_moved r h (moves s) = go (stirred_of T q own r)
      where
        go : (b : Bool) → Every (λ c. (full_of 8 c ≡ true) × Sub c moved) (cond b (entering_of (cut_by met r.cover)) [])
        go true =
            every_more (λ c. (full_of 8 c ≡ true) × Sub c r.cover) (λ c. (full_of 8 c ≡ true) × Sub c moved) (λ c k. (k.0, sub_trans c r.cover moved k.1 s))
            (entering_of (cut_by met r.cover))
            (pieces_entering met r.cover h.full (cut_by met r.cover) (cut-pieces met r.cover))
        go false = tt

    all_entering : Every (λ c. (full_of 8 c ≡ true) × Sub c moved) (stirred_covers T q own l)
    unfolding stirred_covers
    all_entering = both l calm went
      where
        both : (rs : List Row) → Every Before rs → Every (λ r. Went (hold r) (enter r) moved r) rs → Every (λ c. (full_of 8 c ≡ true) × Sub c moved) (each enter rs)
        both [] a b = tt
        both (r ∷ rs) a b =
            every_append (λ c. (full_of 8 c ≡ true) × Sub c moved) (enter r) (each enter rs) (entering_moved r a.0 b.0) (both rs a.1 b.1)

    -- the pairs of the partner of the place of each row that came are told
    came-stands : (c : ℕ) → Sub c moved → Came T stir' asked' (row q.stands c)
    came-stands c z k e small low other some at =
        told_part (spot k e) c z (spread.came k e small low (λ y. other (ready.stands ∙ sym y)) some (sym ready.stands_place ∙ at))

    came-block : (c : ℕ) → Sub c moved → Came T stir' asked' (row q.blocks c)
    came-block c z k e small low other some at =
        told_part (spot k e) c z (spread.left k e small low (λ y. other (ready.blocks ∙ sym y)) (across some (sym ready.blocks_place ∙ at)))

    all-came : Every (Came T stir' asked') new
    unfolding entered_rows
    all-came =
        every_each (λ c. (full_of 8 c ≡ true) × Sub c moved) (Came T stir' asked') (λ c. row q.stands c ∷ one q.two (row q.blocks c))
        (λ c k. (came-stands c k.1, every_one (Came T stir' asked') q.two (row q.blocks c) (λ b. came-block c k.1))) (stirred_covers T q own l) all_entering

    -- a row of the asked pair that rests
    settled_own : (s c : ℕ) → s / 524288 < 8 → s / 4096 % 128 ≤ 65 → full_of 8 c ≡ true → asks_of T q.minute q.place q.train s ≡ true → (asked (spot_of T s) ≡ 0 → ⊥) → Rests c met → After (row s c)
    settled_own s c small near full a some h = record {
      full = full;
      train = small;
      place = near;
      known = λ w z. some (spread.more (spot_of T s) z);
      still = λ w. still-next T stir' asked' hold new l (all_moved calm went) all-came s c small (ready.nexts s small) full (λ z. some (spread.more (spot_of T s) z))
          (subst (Rests c) (sym (shows_met T q stir asked l ready.suits (row s c) a)) h);
    }

    settled_held : (r : Row) → Before r → Every After (hold r)
    unfolding held_rows stirred_of
    settled_held r h = go (asking_of T q r) (full_of 8 (bit_and r.cover own)) refl refl
      where
        some : asking_of T q r ≡ true → asked (spot_of T r.state) ≡ 0 → ⊥
        some a z = h.known (shows_waits T q stir asked l ready.suits r a) z

        go : (a f : Bool) → asking_of T q r ≡ a → full_of 8 (bit_and r.cover own) ≡ f
            → Every After (cond (cond a f false) (held_rows r.state (held_of (cut_by met r.cover))) (r ∷ []))
        go true true x y =
            every_map (λ c. (full_of 8 c ≡ true) × Sub c r.cover × Rests c met) After (λ c. row r.state c)
            (λ c k. settled_own r.state c h.train h.place k.0 x (some x) k.2) (held_of (cut_by met r.cover)) (parts r h)
        go true false x y = (settled_own r.state r.cover h.train h.place h.full x (some x) (rests-of (h.still (shows_waits T q stir asked l ready.suits r x))), tt)
          where
            rests-of : Still T stir l r.state r.cover → Rests r.cover met
            rests-of (stirred z) = absurd (false≢true (sym y ∙ ap (λ (i : ℕ). full_of 8 (bit_and r.cover (stir i))) (sym (shows_spot T q stir asked l ready.suits r x)) ∙ z))
            rests-of (rests z) = subst (Rests r.cover) (shows_met T q stir asked l ready.suits r x) z
        go false f x y =
            (settled_next T stir' asked' hold new l (all_moved calm went) all-came (q.minute + 1) stir asked r (ready.nexts r.state h.train) (λ w. spread.grown (spot_of T r.state) (other-pair r h x w)) (spread.more (spot_of T r.state)) h, tt)

    settled_new : (c : ℕ) → (full_of 8 c ≡ true) × Sub c moved → After (row q.stands c)
    settled_new c k = record {
      full = k.0;
      train = omega (arith, ready.stands, ready.train);
      place = omega (arith, ready.stands_place, ready.place);
      known = λ w. (spread.fresh w).0;
      still = λ w. stirred (ap (full_of 8) (sub_trans c moved (stir' (spot_of T q.stands)) k.1 (spread.fresh w).1) ∙ k.0);
    }

    settled_block : (c : ℕ) → full_of 8 c ≡ true → After (row q.blocks c)
    settled_block c k = record {
      full = k;
      train = omega (arith, ready.blocks, ready.train);
      place = omega (arith, ready.blocks_place, ready.near);
      known = λ w. absurd (false≢true (sym ready.block ∙ w));
      still = λ w. absurd (false≢true (sym ready.block ∙ w));
    }

    settled_entered : Every After new
    unfolding entered_rows
    settled_entered =
        every_each (λ c. (full_of 8 c ≡ true) × Sub c moved) After (λ c. row q.stands c ∷ one q.two (row q.blocks c))
        (λ c k. (settled_new c k, every_one After q.two (row q.blocks c) (λ b. settled_block c k.0))) (stirred_covers T q own l) all_entering

    pub calm-passed : Calm T (q.minute + 1) stir' asked' (stirred_pass T q own l)
    unfolding stirred_pass
    calm-passed = every_append After (each hold l) new (every_each Before After hold settled_held l calm) settled_entered

-- ---- calm after a sweep

module _ (T : List ℕ) (n t : ℕ) (stir asked stir' asked' : ℕ → ℕ) (l : List Row) (nexts : (s : ℕ) → s / 524288 < 8 → next_of T s < 128)
    (grown : (i : ℕ) → Sub (stir i) (stir' i)) (more : (i : ℕ) → asked' i ≡ 0 → asked i ≡ 0) where
  -- the pairs of all trains that meet a block that goes are told
  abbrev Cleared : Row → Type 0
  Cleared r = ended_of t r.state ≡ true → (k e : ℕ) → k < 8 → e < 128 → Meets T e (r.state / 4096 % 128) → Told stir' asked' (spot k e) r.cover

  cleared-moved : (r : Row) → Cleared r → Moved T stir' asked' r (one (not (ended_of t r.state)) r)
  cleared-moved r h = go (ended_of t r.state) refl
    where
      go : (b : Bool) → ended_of t r.state ≡ b → Moved T stir' asked' r (one (not b) r)
      go true e = goes tt (λ k i small low other m. h e k i small low m)
      go false e = stays

  pub calm_swept : Calm T n stir asked l → Every Cleared l → Calm T n stir' asked' (swept_of t l)
  unfolding swept_of
  calm_swept h c =
      let gone : Row → List Row = λ r. one (not (ended_of t r.state)) r in
      let kept : List Row = each gone l in
      subst (λ (x : List Row). Every (Settled T n stir' asked' x) kept) (append-nil kept)
      (every_each (Settled T n stir asked l) (Settled T n stir' asked' (kept ++ [])) gone
      (λ r k. every_one (Settled T n stir' asked' (kept ++ [])) (not (ended_of t r.state)) r
      (λ b. settled_next T stir' asked' gone [] l (every_more Cleared (λ x. Moved T stir' asked' x (gone x)) cleared-moved l c) tt n stir asked r (nexts r.state k.train) (λ w. grown (spot_of T r.state)) (more (spot_of T r.state)) k)) l h)

-- ---- calm in the next minute

module _ (T : List ℕ) (n : ℕ) (stir asked stir' asked' : ℕ → ℕ) (l : List Row) (nexts : (s : ℕ) → s / 524288 < 8 → next_of T s < 128)
    (grown : (i : ℕ) → Sub (stir i) (stir' i)) (more : (i : ℕ) → asked' i ≡ 0 → asked i ≡ 0) where
  -- the pair of a row that is due at n is told of it
  abbrev Marked : Row → Type 0
  Marked r = waits_of n r.state ≡ false → waits_of (n + 1) r.state ≡ true → (asked' (spot_of T r.state) ≡ 0 → ⊥) × Sub r.cover (stir' (spot_of T r.state))

  all_stay : (rs : List Row) → Every (λ r. Moved T stir' asked' r (r ∷ [])) rs
  all_stay [] = tt
  all_stay (r ∷ rs) = (stays, all_stay rs)

  settled_later : (r : Row) → Settled T n stir asked l r → Marked r → Settled T (n + 1) stir' asked' l r
  settled_later r h m =
      let same : each (λ x. x ∷ []) l ++ [] ≡ l = append-nil (each (λ x. x ∷ []) l) ∙ each_self l in
      let now : Settled T n stir' asked' l r = subst (λ (x : List Row). Settled T n stir' asked' x r) same
      (settled_next T stir' asked' (λ x. x ∷ []) [] l (all_stay l) tt n stir asked r (nexts r.state h.train) (λ w. grown (spot_of T r.state)) (more (spot_of T r.state)) h) in
      record {
        full = h.full;
        train = h.train;
        place = h.place;
        known = λ w. known_by (waits_of n r.state) refl w now;
        still = λ w. still_by (waits_of n r.state) refl w now;
      }
    where
      known_by : (b : Bool) → waits_of n r.state ≡ b → waits_of (n + 1) r.state ≡ true → Settled T n stir' asked' l r → asked' (spot_of T r.state) ≡ 0 → ⊥
      known_by true e w s = s.known e
      known_by false e w s = (m e w).0

      still_by : (b : Bool) → waits_of n r.state ≡ b → waits_of (n + 1) r.state ≡ true → Settled T n stir' asked' l r → Still T stir' l r.state r.cover
      still_by true e w s = s.still e
      still_by false e w s = stirred (ap (full_of 8) (m e w).1 ∙ h.full)

  pub calm-later : Calm T n stir asked l → Every Marked l → Calm T (n + 1) stir' asked' l
  calm-later h m = both l h m
    where
      both : (rs : List Row) → Every (Settled T n stir asked l) rs → Every Marked rs → Every (Settled T (n + 1) stir' asked' l) rs
      both [] a b = tt
      both (r ∷ rs) a b = (settled_later r a.0 b.0, both rs a.1 b.1)
