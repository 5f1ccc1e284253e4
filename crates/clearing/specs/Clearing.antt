-- Laws of the start of a minute: what blocks leave is told, who is due waits, and where no row shows such a minute nothing changes. Assumes nothing.
use Rattle.std.specs.Prelude.{◌≡◌, Bool, true, false, not, List, [], ◌∷◌, ◌++◌, ℕ, ◌+◌, ◌-◌, ◌*◌, ◌/◌, ◌%◌, ◌≤◌, ◌<◌, length, take, get_or, eqb, ltb, leb}
use Rattle.std.proofs.Math.Path.{refl, ap, subst}
use Rattle.std.proofs.Common.{sym, ◌∙◌, arith, eqb-true, le-ltb, ltb-true, ltb-false, leb-true, leb-false}
use Rattle.std.proofs.Math.Bool.{cond}
use Rattle.std.proofs.lemmas.Bool.{false≢true, not-true, eqb-false}
use Rattle.rules.specs.Lists.{one, keep}
use Rattle.rules.specs.Sweep.{first_to_go}
use Rattle.theory_lists.specs.Every.{Every, every_append, every_more, every_keep}
use Rattle.theory_lists.specs.Kept.{keep-passes}
use Rattle.rows.specs.Rows.{Row, rows_of, rows_in, row_at, ended_of, swept_of}
use Rattle.rows.specs.Written.{rows_in-more}
use Rattle.rows.specs.Swept.{Closing, next_row, part_of, part-rows, stay-before}
use Rattle.quiet.specs.Parts.{Sub, sub_trans}
use Rattle.asking.specs.Ask.{due_of, next_of, Mutual}
use Rattle.waiting.specs.Calm.{waits_of, spot, spot_of, Settled, Meets, Told}
use Rattle.waiting.specs.Stirred.{due-waits, calm_swept, calm-later}
use Rattle.waiting.specs.Notes.{stir_in, asked_in, told_left, fresh_of, Flagged, Grows}
use Rattle.waiting.specs.Telling.{grows_same, grows_trans, told_keeps, TellsLeft, told-left, Freshens, fresh_law}
use Rattle.cut.specs.Cut.{full_of}
use Rattle.visiting.specs.Visit.{show_of, wake_of, Ways, Kept, Noted}
use Rattle.visiting.specs.Settling.{spot-low, show_grows, show_flagged, show_own}
use Rattle.clearing.specs.Clear.{left_of, marked_of, Known, Leaves, Heard, Marks, Shown, Due, Cleared, Enrols}

-- ---- blocks that go

pub leaves_none : (T : List ℕ) (t : ℕ) (N : List ℕ) → Flagged N → Leaves T t [] N N
leaves_none T t N F = record { grows = grows_same N; flagged = F; asked = λ i. refl; known = tt }

module _ (T : List ℕ) (t s c : ℕ) (N : List ℕ) (F : Flagged N) (pairs : Mutual T) where
  left_one : Grows N (left_of T t s c N) × Flagged (left_of T t s c N) × ((i : ℕ) → asked_in (left_of T t s c N) i ≡ asked_in N i)
      × (ended_of t s ≡ true → (k e : ℕ) → k < 8 → e < 128 → Meets T e (s / 4096 % 128) → Told (stir_in (left_of T t s c N)) (asked_in (left_of T t s c N)) (spot k e) c)
  unfolding left_of
  left_one = go (ended_of t s) refl
    where
      all : TellsLeft T N (s / 4096 % 128) c (told_left T N (s / 4096 % 128) c)
      all = told-left T N (s / 4096 % 128) c pairs (omega arith) F

      go : (b : Bool) → ended_of t s ≡ b → Grows N (cond b (told_left T N (s / 4096 % 128) c) N) × Flagged (cond b (told_left T N (s / 4096 % 128) c) N)
          × ((i : ℕ) → asked_in (cond b (told_left T N (s / 4096 % 128) c) N) i ≡ asked_in N i)
          × (b ≡ true → (k e : ℕ) → k < 8 → e < 128 → Meets T e (s / 4096 % 128) → Told (stir_in (cond b (told_left T N (s / 4096 % 128) c) N)) (asked_in (cond b (told_left T N (s / 4096 % 128) c) N)) (spot k e) c)
      go true e = (all.grows, all.flagged, all.asked, λ z. all.told)
      go false e = (grows_same N, F, λ i. refl, λ z. absurd (false≢true z))

leaves_more : (T : List ℕ) (t i : ℕ) (l N M : List ℕ) → Mutual T → i * 2 + 2 ≤ length l → Leaves T t (rows_in i l) N M
    → Leaves T t (rows_in (i + 1) l) N (left_of T t (get_or l (i * 2) 0) (get_or l (i * 2 + 1) 0) M)
leaves_more T t i l N M pairs long h =
    let one = left_one T t (get_or l (i * 2) 0) (get_or l (i * 2 + 1) 0) M h.flagged pairs in
    let P : List ℕ = left_of T t (get_or l (i * 2) 0) (get_or l (i * 2 + 1) 0) M in
    record {
      grows = grows_trans h.grows one.0;
      flagged = one.1;
      asked = λ j. one.2 j ∙ h.asked j;
      known = subst (Every (Known T t P)) (sym (rows_in-more i l long))
          (every_append (Known T t P) (rows_in i l) (row_at l i ∷ [])
          (every_more (Known T t M) (Known T t P) (λ r k z j e small low m. told_keeps (spot j e) r.cover one.0 one.2 (k z j e small low m)) (rows_in i l) h.known)
          (one.3, tt));
    }

-- the row that is read while the list closes up: it goes, or it stays
module _ (T : List ℕ) (pairs : Mutual T) {t i : ℕ} {was : List ℕ} {j : ℕ} {rows : List ℕ} (h : Closing t i was j rows) (N M : List ℕ) (long : i * 2 + 2 ≤ length was)
    (before : Leaves T t (rows_in i was) N M) where
  left_here : left_of T t (get_or rows (i * 2) 0) (get_or rows (i * 2 + 1) 0) M ≡ left_of T t (get_or was (i * 2) 0) (get_or was (i * 2 + 1) 0) M
  left_here = ap (λ (r : Row). left_of T t r.state r.cover M) (next_row h long)

  pub leaves_gone : ended_of t (get_or rows (i * 2) 0) ≡ true → Leaves T t (rows_in (i + 1) was) N (told_left T M (get_or rows (i * 2) 0 / 4096 % 128) (get_or rows (i * 2 + 1) 0))
  unfolding left_of
  leaves_gone e =
      subst (Leaves T t (rows_in (i + 1) was) N) (sym left_here ∙ ap (λ (b : Bool). cond b (told_left T M (get_or rows (i * 2) 0 / 4096 % 128) (get_or rows (i * 2 + 1) 0)) M) e)
      (leaves_more T t i was N M pairs long before)

  pub leaves_kept : ended_of t (get_or rows (i * 2) 0) ≡ false → Leaves T t (rows_in (i + 1) was) N M
  unfolding left_of
  leaves_kept e =
      subst (Leaves T t (rows_in (i + 1) was) N) (sym left_here ∙ ap (λ (b : Bool). cond b (told_left T M (get_or rows (i * 2) 0 / 4096 % 128) (get_or rows (i * 2 + 1) 0)) M) e)
      (leaves_more T t i was N M pairs long before)

-- rows that do not go have nothing to tell
pub leaves_before : (T : List ℕ) (t : ℕ) (a b : List Row) (N M : List ℕ) → Every (λ r. ended_of t r.state ≡ false) a → Leaves T t b N M → Leaves T t (a ++ b) N M
leaves_before T t a b N M stay h = record {
  grows = h.grows;
  flagged = h.flagged;
  asked = h.asked;
  known = every_append (Known T t M) a b (every_more (λ r. ended_of t r.state ≡ false) (Known T t M) (λ r no yes. absurd (false≢true (sym no ∙ yes))) a stay) h.known;
}

-- what is told of the rows from the first that goes on is told of all
pub leaves_all : (T : List ℕ) (t n f : ℕ) (was N M : List ℕ) → n * 2 ≤ length was → f ≤ n → f ≡ first_to_go (λ x. ended_of t x.state) (rows_in n was)
    → Leaves T t (rows_in (n - f) (part_of f n was)) N M → Leaves T t (rows_in n was) N M
leaves_all T t n f was N M long low e h =
    subst (λ (l : List Row). Leaves T t l N M) (sym (part-rows f n was low long))
    (leaves_before T t (rows_in f was) (rows_in (n - f) (part_of f n was)) N M (stay-before t n was long f e) h)

-- ---- rows that are due

pub marks-none : (T : List ℕ) (t : ℕ) (N : List ℕ) → Flagged N → Marks T t [] N N
marks-none T t N F = record { grows = grows_same N; flagged = F; heard = tt }

-- a state that waits from t on shows t
shows_due : (t s : ℕ) → waits_of t s ≡ false → waits_of (t + 1) s ≡ true → s % 4096 ≡ t
unfolding waits_of
shows_due t s h k = go (eqb (s / 2048 % 2) 1) refl h k
  where
    go : (b : Bool) → eqb (s / 2048 % 2) 1 ≡ b → cond b false (ltb (s % 2048) t) ≡ false → cond b false (ltb (s % 2048) (t + 1)) ≡ true → s % 4096 ≡ t
    go true e x y = absurd (false≢true y)
    go false e x y =
        let a : s / 2048 % 2 ≡ 1 → ⊥ = eqb-false (s / 2048 % 2) 1 e in
        let p : t ≤ s % 2048 = ltb-false (s % 2048) t x in
        let q : s % 2048 < t + 1 = ltb-true (s % 2048) (t + 1) y in
        omega arith

module _ (T : List ℕ) (t s c : ℕ) (N : List ℕ) (F : Flagged N) (ways : Ways T) (train : s / 524288 < 8) where
  mark-one : Grows N (marked_of T t s c N) × Flagged (marked_of T t s c N)
      × (waits_of t s ≡ false → waits_of (t + 1) s ≡ true → (asked_in (marked_of T t s c N) (spot_of T s) ≡ 0 → ⊥) × Sub c (stir_in (marked_of T t s c N) (spot_of T s)))
  unfolding marked_of wake_of
  mark-one = go (eqb (s % 4096) t) (due_of t s) refl refl
    where
      fresh : Freshens N (spot_of T s) c (fresh_of N (spot_of T s) c)
      fresh = fresh_law N (spot_of T s) c (spot-low T s ways train) F

      go : (a b : Bool) → eqb (s % 4096) t ≡ a → due_of t s ≡ b → Grows N (cond a (cond b (fresh_of N (spot_of T s) c) N) N) × Flagged (cond a (cond b (fresh_of N (spot_of T s) c) N) N)
          × (waits_of t s ≡ false → waits_of (t + 1) s ≡ true → (asked_in (cond a (cond b (fresh_of N (spot_of T s) c) N) N) (spot_of T s) ≡ 0 → ⊥) × Sub c (stir_in (cond a (cond b (fresh_of N (spot_of T s) c) N) N) (spot_of T s)))
      go true true e f = (fresh.grows, fresh.flagged, λ x y. (fresh.asked, fresh.stir))
      go true false e f = (grows_same N, F, λ x y. absurd (false≢true (sym f ∙ due-waits t s ∙ y)))
      go false b e f = (grows_same N, F, λ x y. absurd (eqb-false (s % 4096) t e (shows_due t s x y)))

pub marks-more : (T : List ℕ) (t i : ℕ) (l N M : List ℕ) → i * 2 + 2 ≤ length l → Ways T → get_or l (i * 2) 0 / 524288 < 8 → Marks T t (rows_in i l) N M
    → Marks T t (rows_in (i + 1) l) N (marked_of T t (get_or l (i * 2) 0) (get_or l (i * 2 + 1) 0) M)
marks-more T t i l N M long ways train h =
    let one = mark-one T t (get_or l (i * 2) 0) (get_or l (i * 2 + 1) 0) M h.flagged ways train in
    let P : List ℕ = marked_of T t (get_or l (i * 2) 0) (get_or l (i * 2 + 1) 0) M in
    record {
      grows = grows_trans h.grows one.0;
      flagged = one.1;
      heard = subst (Every (Heard T t P)) (sym (rows_in-more i l long))
          (every_append (Heard T t P) (rows_in i l) (row_at l i ∷ [])
          (every_more (Heard T t M) (Heard T t P)
          (λ r k x y. (λ z. (k x y).0 (one.0.asked (spot_of T r.state) z), sub_trans r.cover (stir_in M (spot_of T r.state)) (stir_in P (spot_of T r.state)) (k x y).1 (one.0.stir (spot_of T r.state)))) (rows_in i l) h.heard)
          (one.2, tt));
    }

-- ---- the start of a minute

next_low : (T : List ℕ) → Ways T → (s : ℕ) → s / 524288 < 8 → next_of T s < 128
next_low T ways s h = ways.nexts (s / 4096) (omega arith)

-- where no row shows that it ends at t, none goes
pub clear_none : (T : List ℕ) (t : ℕ) (N : List ℕ) (l : List Row) → Due T t N l → get_or N (4224 + t) 0 ≡ 0 → swept_of t l ≡ l
unfolding swept_of
clear_none T t N l d z = go l d.shown d.last
  where
    go : (rs : List Row) → Every (Shown N) rs → Every (λ r. ended_of t r.state ≡ true → r.state % 4096 ≡ 2048 + t) rs → keep (λ r. not (ended_of t r.state)) rs ≡ rs
    go [] a b = refl
    go (r ∷ rs) a b = by (ended_of t r.state) refl (go rs a.1 b.1)
      where
        by : (x : Bool) → ended_of t r.state ≡ x → keep (λ r. not (ended_of t r.state)) rs ≡ rs → one (not x) r ++ keep (λ r. not (ended_of t r.state)) rs ≡ r ∷ rs
        by false e ih = ap (λ (y : List Row). r ∷ y) ih
        by true e ih =
            let i : 2176 + r.state % 4096 ≡ 4224 + t = omega (arith, b.0 e) in
            absurd (a.0 (ap (λ (y : ℕ). get_or N y 0) i ∙ z))

pub clear_swept : (T : List ℕ) (t : ℕ) (N M : List ℕ) (l : List Row) → Ways T → Due T t N l → Leaves T t l N M → Due T t M (swept_of t l)
unfolding swept_of
clear_swept T t N M l ways d h = record {
  calm = calm_swept T t t (stir_in N) (asked_in N) (stir_in M) (asked_in M) l (next_low T ways) h.grows.stir h.grows.asked d.calm h.known;
  shown = every_more (Shown N) (Shown M) (λ r k z. k (h.grows.minutes (r.state % 4096) (omega arith) z)) (swept_of t l) (every_keep (Shown N) (λ r. not (ended_of t r.state)) l d.shown);
  last = every_keep (λ r. ended_of t r.state ≡ true → r.state % 4096 ≡ 2048 + t) (λ r. not (ended_of t r.state)) l d.last;
}

-- of the rows that stay none has ended
pub swept_current : (t : ℕ) (l : List Row) → Every (λ r. ended_of t r.state ≡ false) (swept_of t l)
unfolding swept_of
swept_current t l =
    every_more (λ r. not (ended_of t r.state) ≡ true) (λ r. ended_of t r.state ≡ false) (λ r h. not-true (ended_of t r.state) h) (swept_of t l) (keep-passes (λ r. not (ended_of t r.state)) l)

pub trains-low : (T : List ℕ) (t : ℕ) (N : List ℕ) (l : List Row) → Due T t N l → Every (λ r. r.state / 524288 < 8) l
trains-low T t N l d = every_more (Settled T t (stir_in N) (asked_in N) l) (λ r. r.state / 524288 < 8) (λ r k. k.train) l d.calm

module _ (T : List ℕ) (t : ℕ) (N : List ℕ) (l : List Row) (ways : Ways T) (d : Due T t N l) (current : Every (λ r. ended_of t r.state ≡ false) l) where
  -- where no row shows that it is due now, none is
  pub wake_none : Flagged N → get_or N (2176 + t) 0 ≡ 0 → Noted T t N l
  wake_none F z = record {
    calm = calm-later T t (stir_in N) (asked_in N) (stir_in N) (asked_in N) l (next_low T ways) (grows_same N).stir (grows_same N).asked d.calm
        (every_more (Shown N) (Heard T t N) (λ r k x y. absurd (k (ap (λ (i : ℕ). get_or N (2176 + i) 0) (shows_due t r.state x y) ∙ z))) l d.shown);
    shown = d.shown;
    current = current;
  }

  pub wake_marked : (M : List ℕ) → Marks T t l N M → Noted T t M l
  wake_marked M h = record {
    calm = calm-later T t (stir_in N) (asked_in N) (stir_in M) (asked_in M) l (next_low T ways) h.grows.stir h.grows.asked d.calm h.heard;
    shown = every_more (Shown N) (Shown M) (λ r k z. k (h.grows.minutes (r.state % 4096) (omega arith) z)) l d.shown;
    current = current;
  }

-- ---- the next minute

-- a block that has ended by t + 1 and not by t ends at t + 1
pub noted-due : (T : List ℕ) (t : ℕ) (N : List ℕ) (l : List Row) → Noted T t N l → Due T (t + 1) N l
unfolding ended_of
noted-due T t N l h = record {
  calm = h.calm;
  shown = h.shown;
  last = every_more (λ r. ended_of t r.state ≡ false) (λ r. ended_of (t + 1) r.state ≡ true → r.state % 4096 ≡ 2048 + (t + 1)) (λ r k e. go r.state (eqb (r.state / 2048 % 2) 1) refl k e) l h.current;
}
  where
    go : (s : ℕ) (b : Bool) → eqb (s / 2048 % 2) 1 ≡ b → cond b (leb (s % 2048) t) false ≡ false → cond b (leb (s % 2048) (t + 1)) false ≡ true → s % 4096 ≡ 2048 + (t + 1)
    go s true e x y =
        let a : s / 2048 % 2 ≡ 1 = eqb-true (s / 2048 % 2) 1 e in
        let p : t < s % 2048 = leb-false (s % 2048) t x in
        let q : s % 2048 ≤ t + 1 = leb-true (s % 2048) (t + 1) y in
        omega arith
    go s false e x y = absurd (false≢true y)

-- ---- in code

module _ (T : List ℕ) (t w : ℕ) (rows N : List ℕ) (kept : Kept w rows) (F : Flagged N) (ways : Ways T) (d : Due T t N (rows_of (take w rows))) where
  abbrev l : List Row
  l = rows_of (take w rows)

  pub clear_still : get_or N (4224 + t) 0 ≡ 0 → Cleared T t (rows_of (take w rows)) w w rows N
  clear_still z =
      let same : swept_of t l ≡ l = clear_none T t N l d z in
      record { less = omega arith; kept = kept; list = sym same; flagged = F; due = subst (Due T t N) (sym same) d }

  pub clear_done : (m : ℕ) (rows' M : List ℕ) → length rows' ≡ length rows → Leaves T t (rows_in (w / 2) rows) N M → m ≤ w / 2 → rows_in m rows' ≡ swept_of t (rows_in (w / 2) rows)
      → Cleared T t (rows_of (take w rows)) w (m * 2) rows' M
  clear_done m rows' M same h less swept =
      let e : rows_in (w / 2) rows ≡ l = ap (λ (y : ℕ). rows_of (take y rows)) kept.even in
      record {
        less = omega arith;
        kept = record { within = omega (arith, kept.within); even = omega arith };
        list = swept ∙ ap (swept_of t) e;
        flagged = h.flagged;
        due = clear_swept T t N M l ways d (subst (λ (x : List Row). Leaves T t x N M) e h);
      }

  pub wake_done : Every (λ r. ended_of t r.state ≡ false) (rows_of (take w rows)) → (M : List ℕ) → Marks T t (rows_in (w / 2) rows) N M → Noted T t M (rows_of (take w rows))
  wake_done current M h =
      let e : rows_in (w / 2) rows ≡ l = ap (λ (y : ℕ). rows_of (take y rows)) kept.even in
      wake_marked T t N l ways d current M (subst (λ (x : List Row). Marks T t x N M) e h)

-- ---- the first rows

pub enrols_none : (N : List ℕ) → Flagged N → Enrols [] N
enrols_none N F = record { flagged = F; shown = tt }

pub enrols_more : (i : ℕ) (l N : List ℕ) → i * 2 + 2 ≤ length l → Enrols (rows_in i l) N → Enrols (rows_in (i + 1) l) (show_of N (get_or l (i * 2) 0))
enrols_more i l N long h =
    let M : List ℕ = show_of N (get_or l (i * 2) 0) in
    record {
      flagged = show_flagged N (get_or l (i * 2) 0) h.flagged;
      shown = subst (Every (Shown M)) (sym (rows_in-more i l long))
          (every_append (Shown M) (rows_in i l) (row_at l i ∷ [])
          (every_more (Shown N) (Shown M) (λ r k z. k ((show_grows N (get_or l (i * 2) 0) h.flagged).minutes (r.state % 4096) (omega arith) z)) (rows_in i l) h.shown)
          (show_own N (get_or l (i * 2) 0) h.flagged, tt));
    }

-- a row that is nowhere but outside, or on an element, with no empty set
pub record Proper (r : Row) : Type 0 where
  pub full : full_of 8 r.cover ≡ true
  pub train : r.state / 524288 < 8
  pub place : r.state / 4096 % 128 ≤ 65

-- before minute 0 nothing waits, and what has ended by then ends at 0
pub first-due : (T : List ℕ) (N : List ℕ) (l : List Row) → Every Proper l → Enrols l N → Due T 0 N l
unfolding waits_of ended_of
first-due T N l p h = record {
  calm = every_more Proper (Settled T 0 (stir_in N) (asked_in N) l) settled l p;
  shown = h.shown;
  last = every_more Proper (λ r. ended_of 0 r.state ≡ true → r.state % 4096 ≡ 2048 + 0) (λ r k e. ended r.state (eqb (r.state / 2048 % 2) 1) refl e) l p;
}
  where
    low : (x : ℕ) → ltb x 0 ≡ false
    low x = le-ltb x 0 (omega arith)

    waits : (s : ℕ) → waits_of 0 s ≡ false
    waits s = go (eqb (s / 2048 % 2) 1)
      where
        go : (b : Bool) → cond b false (ltb (s % 2048) 0) ≡ false
        go true = refl
        go false = low (s % 2048)

    ended : (s : ℕ) (b : Bool) → eqb (s / 2048 % 2) 1 ≡ b → cond b (leb (s % 2048) 0) false ≡ true → s % 4096 ≡ 2048 + 0
    ended s true e h = omega (arith, eqb-true (s / 2048 % 2) 1 e, leb-true (s % 2048) 0 h)
    ended s false e h = absurd (false≢true h)

    settled : (r : Row) → Proper r → Settled T 0 (stir_in N) (asked_in N) l r
    settled r k = record {
      full = k.full;
      train = k.train;
      place = k.place;
      known = λ w. absurd (false≢true (sym (waits r.state) ∙ w));
      still = λ w. absurd (false≢true (sym (waits r.state) ∙ w));
    }
