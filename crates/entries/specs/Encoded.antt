-- Entries as rows, and the tests on them: what code asks of a state is what the definitions ask of its mark, and a proper cover is packable.
-- The words that the runs look up are those of the case. Assumes nothing.
use Rattle.std.specs.Prelude.{◌≡◌, ◌&&◌, ℕ, zero, suc, ◌+◌, ◌*◌, ◌≤◌, ◌<◌, length, ltb, eqb}
use Rattle.std.proofs.Math.Path.{refl, ap, ap₂}
use Rattle.std.proofs.Common.{sym, ◌∙◌, subst, arith, eq-eqb, ne_eqb, ltb-true, ltb-false}
use Rattle.std.proofs.Math.Bool.{Bool, true, false, not, cond}
use mathlib.Core.List.{List, [], ◌∷◌, ◌++◌, map}
use Rattle.std.proofs.Math.ListN.{get_or}
use Rattle.std.proofs.Math.Dec.{leb}
use Rattle.rules.specs.Lists.{one, each, keep, span, below, has}
use Rattle.rules.specs.Files.{Case, Pair}
use Rattle.rules.specs.Turns.{Place, same, Mark, ahead, head_is, asks, ended, capacity, paired}
use Rattle.rules.specs.Turns.Place.{gone}
use Rattle.rules.specs.Joint.{Cover, whole, Entry, piece, carry, across, meets, meets_across}
use Rattle.theory_sound.specs.Facts.{Sound}
use Rattle.theory_lists.specs.Each.{each_none}
use Rattle.theory_lists.specs.Every.{Every, every_each, every_one, every_more}
use Rattle.theory_lists.specs.Sweeps.{sweep_moves, sweep_map}
use Rattle.theory_simulation.specs.Parts.{Part, Parts}
use Rattle.theory_simulation.specs.Serving.{Proper}
use Rattle.theory_codes.specs.Codes.{code_of, place_of, state_of}
use Rattle.theory_codes.specs.Tables.{head_code, next_code, tables}
use Rattle.theory_passes.specs.Passes.{asks_for, pieces_among}
use Rattle.theory_passes.specs.Bounds.{Bounded, bounded-train}
use Rattle.theory_passes.specs.Elements.{ahead-known}
use Rattle.cut.specs.Cut.{part, carried, crossed, Met, cut_by}
use Rattle.cut.specs.Packed.{packed, packed_piece, Delays, Sets, Packable}
use Rattle.cut.specs.Packed.Delays.{none, takes, skips}
use Rattle.cut.proofs.Bridge.{cut_by-pieces}
use Rattle.rows.specs.Rows.{Row, row, ended_of, meets_of, met_of, swept_of}
use Rattle.asking.specs.declared.Job.{Job}
use Rattle.asking.specs.Ask.{next_of, asks_of, cap_of, partner_of, met_across, met_on, met_for, met_at, Suits}
use Rattle.theory_codes.specs.Places.{known-coded, coded-small, place_code, code_place, code_test, head_code_lem, place-coded}
use Rattle.entries.specs.Coded.{bounded-coded, bounded_fit, ended-state, due-state}
use Rattle.theory_codes.specs.States.{Fit, state-train, state-place, state-way}
use Rattle.theory_codes.specs.Lookups.{table-next, table-capacity, table-past}
use Rattle.theory_codes.specs.Partners.{paired_code}

-- an entry as a row
unfoldable pub row_of : Entry → Row
row_of r = row (state_of r.mark) (packed r.cover)

-- an entry of the run: its mark is bounded, its cover is proper
abbrev pub Good : Case → Entry → Type 0
Good C r = Bounded C r.mark × Proper C r

-- ---- covers

-- some of the delays below n, in order, are a set of delays
keep-delays : (f : ℕ → Bool) (n m k : ℕ) → n ≤ m → (v : ℕ) × Delays m k (keep f (span n k)) v
keep-delays f zero zero k h = (0, none)
keep-delays f zero (suc m) k h = let r = keep-delays f zero m (suc k) (omega arith) in (r.0 * 2, skips r.1)
keep-delays f (suc n) zero k h = absurd (omega arith)
keep-delays f (suc n) (suc m) k h = go (f k) (keep-delays f n m (suc k) (omega arith))
  where
    go : (b : Bool) → (v : ℕ) × Delays m (suc k) (keep f (span n (suc k))) v → (v : ℕ) × Delays (suc m) k (one b k ++ keep f (span n (suc k))) v
    go true r = (r.0 * 2 + 1, takes r.1)
    go false r = (r.0 * 2, skips r.1)

part-delays : (n : ℕ) (s : List ℕ) → n ≤ 8 → Part (below n) s → (v : ℕ) × Delays 8 0 s v
part-delays n s h p =
    let r = keep-delays (has s) n 8 0 h in
    (r.0, subst (λ (z : List ℕ). Delays 8 0 z r.0) p.listed r.1)

parts-sets : (b : ℕ) (ts : List (List Pair)) (p : Cover) → length ts ≤ b → ((k : ℕ) → k < length ts → length (get_or ts k []) ≤ 8)
    → Parts (map (λ pairs. below (length pairs)) ts) p → Sets b (length ts) p
parts-sets b [] [] h few q = Sets.none
parts-sets b [] (s ∷ p) h few q = absurd q
parts-sets zero (t ∷ ts) p h few q = absurd (omega arith)
parts-sets (suc b) (t ∷ ts) [] h few q = absurd q
parts-sets (suc b) (t ∷ ts) (s ∷ p) h few q =
    let d = part-delays (length t) s (few 0 (omega arith)) q.0 in
    Sets.more d.1 (parts-sets b ts p (omega arith) (λ k l. few (suc k) (omega arith)) q.1)

pub proper_packable : (C : Case) → Sound C → (p : Cover) → Parts (whole C) p → Packable (length C.tables) p
unfolding whole
proper_packable C sound p h =
    parts-sets 8 C.tables p (omega (arith, sound.tabled, sound.few_trains)) (λ k l. sound.few_pairs k (omega (arith, sound.tabled))) h

-- ---- places

gone_code : place_of 64 ≡ gone
unfolding place_of
gone_code = refl

gone_test : (e : ℕ) → e ≤ 64 → same (place_of e) gone ≡ eqb e 64
gone_test e h =
    ap (same (place_of e)) (sym gone_code)
    ∙ sym (code_test (place_of e) 64 (place-coded e) (omega arith))
    ∙ ap (λ (c : ℕ). eqb c 64) (code_place e (omega arith))

free-piece : (c : ℕ) → cut_by (record { cap = 1; partner = []; own = [] }) c ≡ part c false ∷ []
unfolding crossed carried
free-piece c = refl

across-none : (k : ℕ) (rs : List Row) → met_across 0 k rs ≡ []
unfolding met_across
across-none k rs = refl

-- ---- asking

module _ (C : Case) (sound : Sound C) (t e k : ℕ) (low : e ≤ 64) where
  next-is : (m : Mark) → Bounded C m → next_of (tables C) (state_of m) ≡ head_code (ahead C m.train m.place)
  unfolding next_code
  next-is m b =
      ap (λ (i : ℕ). get_or (tables C) (240 + i) 0) (state-way m (bounded_fit C sound m b))
      ∙ table-next C m.train (code_of m.place) (omega (arith, bounded-train C sound m b)) (omega (arith, coded-small m.place (bounded-coded C sound m b)))
      ∙ ap (λ (p : Place). head_code (ahead C m.train p)) (place_code m.place (bounded-coded C sound m b))

  -- a state asks where its mark does
  pub asks-row : (m : Mark) → Bounded C m → asks_of (tables C) t e k (state_of m) ≡ asks_for C t (place_of e) k m
  unfolding asks_of asks_for asks
  asks-row m b =
      ap₂ (λ (j : ℕ) (d : Bool). cond (eqb j k) (cond d (eqb (next_of (tables C) (state_of m)) e) false) false) (state-train m fit) (due-state m fit t)
      ∙ ap (λ (n : Bool). cond (eqb m.train k) (cond (not m.blocks && leb m.minute t) n false) false) next
      ∙ go (eqb m.train k) (not m.blocks) (head_is (place_of e) (ahead C m.train m.place)) (leb m.minute t)
    where
      fit : Fit m
      fit = bounded_fit C sound m b

      next : eqb (next_of (tables C) (state_of m)) e ≡ head_is (place_of e) (ahead C m.train m.place)
      next =
          ap (λ (n : ℕ). eqb n e) (next-is m b)
          ∙ head_code_lem e (ahead C m.train m.place) low (λ p h. known-coded C sound p (ahead-known C sound m.train m.place p h))

      go : (a n h l : Bool) → cond a (cond (n && l) h false) false ≡ (a && (n && h && l))
      go true true true true = refl
      go true true true false = refl
      go true true false true = refl
      go true true false false = refl
      go true false true l = refl
      go true false false l = refl
      go false n h l = refl

  -- and meets where it does
  pub meets-row : (m : Mark) → Bounded C m → meets_of e k (state_of m) ≡ (not (eqb m.train k) && same m.place (place_of e))
  unfolding meets_of
  meets-row m b =
      ap₂ (λ (p j : ℕ). cond (eqb p e) (not (eqb j k)) false) (state-place m fit) (state-train m fit)
      ∙ ap (λ (z : Bool). cond z (not (eqb m.train k)) false) (code_test m.place e fit.coded (omega arith))
      ∙ go (same m.place (place_of e)) (not (eqb m.train k))
    where
      fit : Fit m
      fit = bounded_fit C sound m b

      go : (a b : Bool) → cond a b false ≡ (b && a)
      go true true = refl
      go true false = refl
      go false true = refl
      go false false = refl

  -- ---- what is met

  -- what rows show that pass a test, where it is the test of their marks
  shown-rows : (f : ℕ → Bool) (g : Mark → Bool) → ((m : Mark) → Bounded C m → f (state_of m) ≡ g m) → (l : List Entry) → Every (Good C) l
      → each (λ x. one (f x.state) x.cover) (map row_of l) ≡ map packed (each (λ r. one (g r.mark) r.cover) l)
  unfolding row_of
  shown-rows f g same_test [] h = refl
  shown-rows f g same_test (r ∷ l) h =
      ap₂ (λ (z : Bool) (w : List ℕ). one z (packed r.cover) ++ w) (same_test r.mark h.0.0) (shown-rows f g same_test l h.1)
      ∙ go (g r.mark)
    where
      go : (b : Bool) → one b (packed r.cover) ++ map packed (each (λ r. one (g r.mark) r.cover) l) ≡ map packed (one b r.cover ++ each (λ r. one (g r.mark) r.cover) l)
      go true = refl
      go false = refl

  met-rows : (l : List Entry) → Every (Good C) l → met_of e k (map row_of l) ≡ map packed (meets (place_of e) k l)
  unfolding met_of meets
  met-rows l h = shown-rows (meets_of e k) (λ m. not (eqb m.train k) && same m.place (place_of e)) meets-row l h

  -- the partner of e, 0 where it has none
  abbrev w : ℕ
  w = partner_of (tables C) e

  -- another train's state at the partner of e is that of a mark on the other track of the pair
  across-row : (b : Bool) → eqb w 0 ≡ b → (m : Mark) → Bounded C m → cond b false (meets_of w k (state_of m)) ≡ (not (eqb m.train k) && paired C (place_of e) m.place)
  unfolding meets_of
  across-row b z m bounded =
      ap₂ (λ (p j : ℕ). cond b false (cond (eqb p w) (not (eqb j k)) false)) (state-place m fit) (state-train m fit)
      ∙ go b (eqb (code_of m.place) w) (not (eqb m.train k))
      ∙ ap (λ (x : Bool). not (eqb m.train k) && cond x false (eqb (code_of m.place) w)) (sym z)
      ∙ ap (λ (x : Bool). not (eqb m.train k) && x) (sym (paired_code C sound e m.place low fit.coded))
    where
      fit : Fit m
      fit = bounded_fit C sound m bounded

      go : (x y n : Bool) → cond x false (cond y n false) ≡ (n && cond x false y)
      go true y true = refl
      go true y false = refl
      go false true true = refl
      go false true false = refl
      go false false true = refl
      go false false false = refl

  across-rows : (l : List Entry) → Every (Good C) l → met_across w k (map row_of l) ≡ map packed (meets_across C (place_of e) k l)
  unfolding met_across met_of meets_across
  across-rows l h = go (eqb w 0) refl
    where
      far : Mark → Bool
      far m = not (eqb m.train k) && paired C (place_of e) m.place

      nothing : (rs : List Row) → each (λ x. one false x.cover) rs ≡ []
      nothing rs = each_none rs

      go : (b : Bool) → eqb w 0 ≡ b → cond b [] (each (λ x. one (meets_of w k x.state) x.cover) (map row_of l)) ≡ map packed (each (λ r. one (far r.mark) r.cover) l)
      go true z = sym (nothing (map row_of l)) ∙ shown-rows (λ s. false) far (across-row true z) l h
      go false z = shown-rows (meets_of w k) far (across-row false z) l h

  pub meets-parts : (l : List Entry) → Every (Good C) l → Every (Parts (whole C)) (meets (place_of e) k l)
  unfolding meets
  meets-parts l h =
      every_each (Good C) (Parts (whole C)) (λ r. one (not (eqb r.mark.train k) && same r.mark.place (place_of e)) r.cover)
      (λ r g. every_one (Parts (whole C)) (not (eqb r.mark.train k) && same r.mark.place (place_of e)) r.cover (λ q. g.1)) l h

  pub far-parts : (l : List Entry) → Every (Good C) l → Every (Parts (whole C)) (meets_across C (place_of e) k l)
  unfolding meets_across
  far-parts l h =
      every_each (Good C) (Parts (whole C)) (λ r. one (not (eqb r.mark.train k) && paired C (place_of e) r.mark.place) r.cover)
      (λ r g. every_one (Parts (whole C)) (not (eqb r.mark.train k) && paired C (place_of e) r.mark.place) r.cover (λ q. g.1)) l h

  -- ---- the pieces of a cover

  pub pieces-row : (q : Job) → q.place ≡ e → q.train ≡ k → Suits (tables C) q → (l : List Entry) → Every (Good C) l → (p : Cover) → Parts (whole C) p
      → cut_by (met_for q (map row_of l)) (packed p) ≡ map packed_piece (pieces_among C (place_of e) (meets_across C (place_of e) k l) (meets (place_of e) k l) p)
  unfolding met_on cap_of pieces_among
  pieces-row q f g suits l h p ps =
      ap (λ (m : Met). cut_by m (packed p)) met-is
      ∙ go (ltb e 64) refl
      ∙ ap (λ (z : Bool). map packed_piece (cond z (piece p false ∷ []) (across (carry (capacity C (place_of e)) qs 0) far p))) (sym (gone_test e low))
    where
      rs : List Row
      rs = map row_of l

      qs : List Cover
      qs = meets (place_of e) k l

      far : List Cover
      far = meets_across C (place_of e) k l

      met-is : met_for q rs ≡ met_at (tables C) e k rs
      met-is =
          ap₂ (λ (c v : ℕ). record { cap = c; partner = met_across v q.train rs; own = met_on q.place q.train rs }) suits.cap suits.partner
          ∙ ap₂ (λ (x j : ℕ). met_at (tables C) x j rs) f g

      packable : (cs : List Cover) → Every (Parts (whole C)) cs → Every (Packable (length C.tables)) cs
      packable cs h = every_more (Parts (whole C)) (Packable (length C.tables)) (proper_packable C sound) cs h

      -- nobody is met across the way out
      alone : e ≡ 64 → met_across w k rs ≡ []
      alone z = ap (λ (v : ℕ). met_across v k rs) (table-past C e (omega arith)) ∙ across-none k rs

      go : (b : Bool) → ltb e 64 ≡ b
          → cut_by (record { cap = cond b (get_or (tables C) (176 + e) 0) 1; partner = met_across w k rs; own = cond b (met_of e k rs) [] }) (packed p)
          ≡ map packed_piece (cond (eqb e 64) (piece p false ∷ []) (across (carry (capacity C (place_of e)) qs 0) far p))
      go true z =
          ap₂ (λ (c : ℕ) (os : List ℕ). cut_by (record { cap = c; partner = met_across w k rs; own = os }) (packed p)) (table-capacity C e (ltb-true e 64 z)) (met-rows l h)
          ∙ ap (λ (vs : List ℕ). cut_by (record { cap = capacity C (place_of e); partner = vs; own = map packed qs }) (packed p)) (across-rows l h)
          ∙ cut_by-pieces (capacity C (place_of e)) far qs (packable far (far-parts l h)) (packable qs (meets-parts l h)) p (proper_packable C sound p ps)
          ∙ ap (λ (y : Bool). map packed_piece (cond y (piece p false ∷ []) (across (carry (capacity C (place_of e)) qs 0) far p))) (sym (ne_eqb e 64 (λ y. omega (arith, ltb-true e 64 z))))
      go false z =
          let out : e ≡ 64 = omega (arith, ltb-false e 64 z) in
          ap (λ (vs : List ℕ). cut_by (record { cap = 1; partner = vs; own = [] }) (packed p)) (alone out)
          ∙ free-piece (packed p)
          ∙ ap (λ (y : Bool). map packed_piece (cond y (piece p false ∷ []) (across (carry (capacity C (place_of e)) qs 0) far p))) (sym (eq-eqb e 64 out))

-- ---- sweeping

pub swept_rows : (C : Case) → Sound C → (t : ℕ) (l : List Entry) → Every (Good C) l → swept_of t (map row_of l) ≡ map row_of (keep (λ r. not (ended t r.mark)) l)
unfolding swept_of row_of
swept_rows C sound t [] h = refl
swept_rows C sound t (r ∷ l) h =
    ap₂ (λ (z : Bool) (w : List Row). one (not z) (row_of r) ++ w) (ended-state r.mark (bounded_fit C sound r.mark h.0.0) t) (swept_rows C sound t l h.1)
    ∙ go (not (ended t r.mark))
  where
    go : (b : Bool) → one b (row_of r) ++ map row_of (keep (λ r. not (ended t r.mark)) l) ≡ map row_of (one b r ++ keep (λ r. not (ended t r.mark)) l)
    go true = refl
    go false = refl

-- the sweep moves the rows as it would move the entries that they stand for
pub swept_moves : (C : Case) → Sound C → (t : ℕ) (l : List Entry) → Every (Good C) l → sweep_moves (λ x. ended_of t x.state) (map row_of l) ≡ sweep_moves (λ r. ended t r.mark) l
unfolding row_of
swept_moves C sound t l h =
    sweep_map row_of (λ r. ended t r.mark) (λ x. ended_of t x.state) l
    (every_more (Good C) (λ r. ended_of t (row_of r).state ≡ ended t r.mark) (λ r g. ended-state r.mark (bounded_fit C sound r.mark g.0) t) l h)
