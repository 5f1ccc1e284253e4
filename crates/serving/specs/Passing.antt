-- The pass in code, for any test of who is served: what stands before the first of them stays, and what comes after it is walked run by run. Rows that are not
-- served are held as they are and bring nothing in. That it is the pass of the definitions is proved in proofs/Passing.antt. Assumes nothing.
use Rattle.std.specs.Prelude.{◌≡◌, refl, Bool, true, false, cond, List, [], ◌∷◌, ◌++◌, ℕ, ◌+◌, ◌-◌, ◌*◌, ◌≤◌, length, get_or}
use Rattle.std.proofs.Common.{ap, ap₂, sym, ◌∙◌, subst, arith}
use Rattle.std.proofs.Math.Seq.{slice, length-slice}
use Rattle.rules.specs.Lists.{each}
use Rattle.theory_lists.specs.Each.{each_append}
use Rattle.theory_lists.specs.Every.{each_every, Every, every_append, every_more}
use Rattle.cut.specs.Cut.{Met, cut_by, held_of, entering_of}
use Rattle.quiet.specs.Parts.{Sub, sub_trans}
use Rattle.theory_lists.specs.Writes.{Put}
use Rattle.rows.specs.Rows.{Row, words, rows_of, rows_in, row_at, held_rows, entered_rows}
use Rattle.rows.specs.Written.{words_append, words-rows_of, rows_in-more, each_more, rows_split}
use Rattle.asking.specs.declared.Job.{Job}
use Rattle.asking.specs.Ask.{met_for}
use Rattle.serving.specs.Pass.{hold_by, enter_by, covers_by, pass_by, Went, Two, Space, Lent, Lends, Keeps}
use Rattle.serving.specs.declared.Bench.{Bench}
use Rattle.serving.specs.Pass.Went.{as_it_is, moves}
use Rattle.serving.specs.Outputs.{two_bounds, two-row, two_join}

-- ---- lent memory

pub lent-space : {T rows tmp met held entering : List ℕ} → Lent T rows tmp met held entering → Space rows tmp met held entering
lent-space l = record {
  some = omega (arith, l.rows_are);
  even = omega (arith, l.rows_are);
  tmp_long = l.tmp_long;
  met_long = l.met_long;
  held_long = l.held_long;
  entering_long = l.entering_long;
}

-- ---- a bench that still lends the same memory

pub keeps_none : (b : Bench) → Keeps b b
keeps_none b = record {
  rows = refl;
  met = refl;
  held = refl;
  entering = refl;
  rows_long = refl;
  met_long = refl;
  held_long = refl;
  entering_long = refl;
}

pub keeps_join : {a b c : Bench} → Keeps a b → Keeps b c → Keeps a c
keeps_join f g = record {
  rows = g.rows ∙ f.rows;
  met = g.met ∙ f.met;
  held = g.held ∙ f.held;
  entering = g.entering ∙ f.entering;
  rows_long = g.rows_long ∙ f.rows_long;
  met_long = g.met_long ∙ f.met_long;
  held_long = g.held_long ∙ f.held_long;
  entering_long = g.entering_long ∙ f.entering_long;
}

-- it is as long as it was
pub lends_keeps : {T rows rows' : List ℕ} {a b : Bench} → Lends T rows a → Keeps a b → length rows' ≡ length rows → Lends T rows' b
lends_keeps l k e = record {
  rows_are = e ∙ l.rows_are;
  tmp_long = omega (arith, l.tmp_long, k.rows_long);
  met_long = omega (arith, l.met_long, k.met_long);
  held_long = omega (arith, l.held_long, k.held_long);
  entering_long = omega (arith, l.entering_long, k.entering_long);
}

-- ---- all that moved

went-grows : {hold : List Row} {enter : List ℕ} (m n : ℕ) (r : Row) → Sub m n → Went hold enter m r → Went hold enter n r
went-grows m n r s (as_it_is a b) = as_it_is a b
went-grows m n r s (moves k) = moves (sub_trans r.cover m n k s)

-- ---- rows that are not served

module _ (test : Row → Bool) (M : Met) where
  pub hold-quiet : (rs : List Row) → Every (λ x. test x ≡ false) rs → each (hold_by test M) rs ≡ rs
  hold-quiet [] h = refl
  hold-quiet (r ∷ rs) h = rw h.0 (ap (λ (l : List Row). r ∷ l) (hold-quiet rs h.1))

  pub enter-quiet : (rs : List Row) → Every (λ x. test x ≡ false) rs → each (enter_by test M) rs ≡ []
  enter-quiet [] h = refl
  enter-quiet (r ∷ rs) h = rw h.0 (enter-quiet rs h.1)

  pub went-quiet : (moved : ℕ) (rs : List Row) → Every (λ x. test x ≡ false) rs → Every (λ x. Went (hold_by test M x) (enter_by test M x) moved x) rs
  went-quiet moved rs h = every_more (λ x. test x ≡ false) (λ x. Went (hold_by test M x) (enter_by test M x) moved x) (λ x k. rw k (as_it_is refl refl)) rs h

  -- ---- runs of rows

  -- with a run of rows more, which are kept
  pub two_run : {rows : List ℕ} {d : ℕ} {rows' entering : List ℕ} {at a : ℕ} {entering' : List ℕ} {r : ℕ} {rows'' : List ℕ} (i j : ℕ) (src : List ℕ)
      → i ≤ j → j * 2 ≤ length src → Every (λ x. test x ≡ false) (rows_of (slice (i * 2) (j * 2) src))
      → Two rows d (words (each (hold_by test M) (rows_in i src))) at rows' entering 0 (each (enter_by test M) (rows_in i src)) a entering'
      → Put rows' at (slice (i * 2) (j * 2) src) r rows''
      → Two rows d (words (each (hold_by test M) (rows_in j src))) r rows'' entering 0 (each (enter_by test M) (rows_in j src)) a entering'
  two_run {rows} {d} {rows'} {entering} {at} {a} {entering'} {r} {rows''} i j src h long quiet f g =
      let b = two_bounds f in
      let run : List Row = rows_of (slice (i * 2) (j * 2) src) in
      let holds : words (each (hold_by test M) (rows_in j src)) ≡ words (each (hold_by test M) (rows_in i src)) ++ slice (i * 2) (j * 2) src =
      ap (λ (l : List Row). words (each (hold_by test M) l)) (rows_split i j src h long)
      ∙ ap words (each_append (hold_by test M) (rows_in i src) run ∙ ap (λ (l : List Row). each (hold_by test M) (rows_in i src) ++ l) (hold-quiet run quiet))
      ∙ words_append (each (hold_by test M) (rows_in i src)) run
      ∙ ap (λ (l : List ℕ). words (each (hold_by test M) (rows_in i src)) ++ l) (words-rows_of (j - i) (slice (i * 2) (j * 2) src) (length-slice (i * 2) (j * 2) src long ∙ omega arith)) in
      let enters : each (enter_by test M) (rows_in j src) ≡ each (enter_by test M) (rows_in i src) ++ [] =
      ap (each (enter_by test M)) (rows_split i j src h long)
      ∙ each_append (enter_by test M) (rows_in i src) run
      ∙ ap (λ (l : List ℕ). each (enter_by test M) (rows_in i src) ++ l) (enter-quiet run quiet) in
      rw (holds, enters) (two_join f (two-row entering' a (omega (arith, b.few, b.rows_length)) g))

  pub went-run : (moved i j : ℕ) (src : List ℕ) → i ≤ j → j * 2 ≤ length src → Every (λ x. test x ≡ false) (rows_of (slice (i * 2) (j * 2) src))
      → Every (λ x. Went (hold_by test M x) (enter_by test M x) moved x) (rows_in i src) → Every (λ x. Went (hold_by test M x) (enter_by test M x) moved x) (rows_in j src)
  went-run moved i j src h long quiet w =
      subst (Every (λ x. Went (hold_by test M x) (enter_by test M x) moved x)) (sym (rows_split i j src h long))
      (every_append (λ x. Went (hold_by test M x) (enter_by test M x) moved x) (rows_in i src) (rows_of (slice (i * 2) (j * 2) src)) w
      (went-quiet moved (rows_of (slice (i * 2) (j * 2) src)) quiet))

  -- with one row more, which is served
  pub two-served : {rows : List ℕ} {d : ℕ} {rows' entering : List ℕ} {at a : ℕ} {entering' : List ℕ} {z : ℕ} {rows'' : List ℕ} {y : ℕ} {entering'' : List ℕ} (j : ℕ) (src : List ℕ)
      → j * 2 + 2 ≤ length src → test (row_at src j) ≡ true
      → Two rows d (words (each (hold_by test M) (rows_in j src))) at rows' entering 0 (each (enter_by test M) (rows_in j src)) a entering'
      → Two rows' at (words (held_rows (get_or src (j * 2) 0) (held_of (cut_by M (get_or src (j * 2 + 1) 0))))) z rows'' entering' a
      (entering_of (cut_by M (get_or src (j * 2 + 1) 0))) y entering''
      → Two rows d (words (each (hold_by test M) (rows_in (j + 1) src))) z rows'' entering 0 (each (enter_by test M) (rows_in (j + 1) src)) y entering''
  two-served j src long here f g =
      let held : hold_by test M (row_at src j) ≡ held_rows (get_or src (j * 2) 0) (held_of (cut_by M (get_or src (j * 2 + 1) 0))) =
      ap (λ (b : Bool). cond b (held_rows (get_or src (j * 2) 0) (held_of (cut_by M (get_or src (j * 2 + 1) 0)))) (row_at src j ∷ [])) here in
      let came : enter_by test M (row_at src j) ≡ entering_of (cut_by M (get_or src (j * 2 + 1) 0)) =
      ap (λ (b : Bool). cond b (entering_of (cut_by M (get_or src (j * 2 + 1) 0))) []) here in
      let holds : words (each (hold_by test M) (rows_in (j + 1) src)) ≡ words (each (hold_by test M) (rows_in j src)) ++ words (held_rows (get_or src (j * 2) 0) (held_of (cut_by M (get_or src (j * 2 + 1) 0)))) =
      ap words (each_more (hold_by test M) j src long ∙ ap (λ (l : List Row). each (hold_by test M) (rows_in j src) ++ l) held)
      ∙ words_append (each (hold_by test M) (rows_in j src)) (held_rows (get_or src (j * 2) 0) (held_of (cut_by M (get_or src (j * 2 + 1) 0)))) in
      let enters : each (enter_by test M) (rows_in (j + 1) src) ≡ each (enter_by test M) (rows_in j src) ++ entering_of (cut_by M (get_or src (j * 2 + 1) 0)) =
      each_more (enter_by test M) j src long ∙ ap (λ (l : List ℕ). each (enter_by test M) (rows_in j src) ++ l) came in
      rw (holds, enters) (two_join f g)

  pub went-served : (r : Row) (moved : ℕ) → test r ≡ true → Went (held_rows r.state (held_of (cut_by M r.cover))) (entering_of (cut_by M r.cover)) moved r
      → Went (hold_by test M r) (enter_by test M r) moved r
  went-served r moved here w = rw here w

  -- with one row more
  pub went-more : (i : ℕ) (l : List ℕ) (m n : ℕ) → i * 2 + 2 ≤ length l → Sub m n → Every (λ x. Went (hold_by test M x) (enter_by test M x) m x) (rows_in i l)
      → Went (hold_by test M (row_at l i)) (enter_by test M (row_at l i)) n (row_at l i) → Every (λ x. Went (hold_by test M x) (enter_by test M x) n x) (rows_in (i + 1) l)
  went-more i l m n long s h w =
      rw (rows_in-more i l long)
      (every_append (λ x. Went (hold_by test M x) (enter_by test M x) n x) (rows_in i l) (row_at l i ∷ [])
      (every_more (λ x. Went (hold_by test M x) (enter_by test M x) m x) (λ x. Went (hold_by test M x) (enter_by test M x) n x) (λ x k. went-grows m n x s k) (rows_in i l) h) (w, tt))

-- ---- tests that agree

module _ (test other : Row → Bool) where
  hold-same : (M : Met) (l : List Row) → Every (λ r. test r ≡ other r) l → each (hold_by test M) l ≡ each (hold_by other M) l
  hold-same M l h = each_every (λ r. test r ≡ other r) (hold_by test M) (hold_by other M) (λ r k. rw k refl) l h

  enter-same : (M : Met) (l : List Row) → Every (λ r. test r ≡ other r) l → each (enter_by test M) l ≡ each (enter_by other M) l
  enter-same M l h = each_every (λ r. test r ≡ other r) (enter_by test M) (enter_by other M) (λ r k. rw k refl) l h

  pub covers-same : (q : Job) (l : List Row) → Every (λ r. test r ≡ other r) l → covers_by test q l ≡ covers_by other q l
  covers-same q l h = enter-same (met_for q l) l h

  pub pass_same : (q : Job) (l : List Row) → Every (λ r. test r ≡ other r) l → pass_by test q l ≡ pass_by other q l
  pass_same q l h =
      ap₂ (λ (a : List Row) (cs : List ℕ). a ++ entered_rows q.stands q.blocks q.two cs) (hold-same (met_for q l) l h) (covers-same q l h)

  pub went-same : (M : Met) (moved : ℕ) (l : List Row) → Every (λ r. test r ≡ other r) l → Every (λ r. Went (hold_by test M r) (enter_by test M r) moved r) l
      → Every (λ r. Went (hold_by other M r) (enter_by other M r) moved r) l
  went-same M moved [] h w = tt
  went-same M moved (r ∷ l) h w = (rw h.0 at w.0, went-same M moved l h.1 w.1)
