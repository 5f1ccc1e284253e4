-- A pass that changes nothing: nobody asks, or nobody who asks was stirred. What is noted of the rows holds on: where no row waits the pair is dismissed, and
-- where none was stirred its word is empty again. Assumes nothing.
use Rattle.std.specs.Prelude.{◌≡◌, Bool, ℕ, ◌+◌, ◌*◌, ◌/◌, ◌%◌, ◌≤◌, ◌<◌, length, take, get_or, set, eqb}
use Rattle.std.proofs.Math.Path.{refl, ap, ap₂}
use Rattle.std.proofs.Common.{sym, ◌∙◌, subst, arith, length-set}
use Rattle.std.proofs.Math.Bool.{true, false, cond, false≢true}
use mathlib.Core.List.{List, [], ◌∷◌, ◌++◌, append-nil}
use Rattle.std.proofs.Math.Decide.{dec_lt}
use Rattle.std.proofs.Math.Seq.{slice, get_or-set_other}
use Rattle.std.specs.Int.Bits.{bit_and, and_zero_r}
use Rattle.std.proofs.Math.Dec.{ltb}
use borrow.Author.Tests.{eq-eqb, eqb-true, eqb-false, ltb-true}
use Rattle.theory_lists.specs.Each.{each_self, each_none}
use Rattle.theory_lists.specs.Every.{Every, every_more, any_none, each_every, every_all}
use Rattle.cut.specs.Cut.{full_of}
use Rattle.rows.specs.Rows.{Row, rows_of, rows_in, entered_rows}
use Rattle.rows.specs.Written.{rows_in-length}
use Rattle.asking.specs.declared.Job.{Job}
use Rattle.asking.specs.Ask.{next_of, asks_of, asker_of, job_of, met_for, asking_of, stirs_of, stirred_of, Within}
use Rattle.serving.specs.Pass.{hold_stirred, enter_stirred, covers_of, passed_of, stirred_covers, stirred_pass}
use Rattle.waiting.specs.Calm.{waits_of, spot, spot_of, Still, Settled}
use Rattle.waiting.specs.Calm.Still.{stirred, rests}
use Rattle.waiting.specs.Stirred.{due-waits, covers-stirred, passed-stirred}
use Rattle.waiting.specs.Notes.{stir_in, asked_in, Flagged}
use Rattle.visiting.specs.Visit.{Outcome, arrived_of, guard, job_for, some_asks, after_pass, pass_of, read, Keyed, Kept, Ways, Noted, Seen}
use Rattle.visiting.specs.Visit.Outcome.{refused, stands}
use Rattle.visiting.specs.Keys.{keyed_stirs, unstirred}
use Rattle.visiting.specs.Settling.{reset_stir, reset_asked, reset_flagged, reset_minutes}
use Rattle.visiting.specs.Visiting.{read_in, read_out, guard_in}

-- ---- a pass that is not made

pub pass-over : (T : List ℕ) (t e k : ℕ) → pass_of T t e k refused ≡ refused
unfolding pass_of
pass-over T t e k = refl

pub pass-quiet : (T : List ℕ) (t e k : ℕ) (l : List Row) (v : List ℕ) → Every (λ x. asks_of T t e k x.state ≡ false) l → pass_of T t e k (stands l v) ≡ stands l v
unfolding pass_of
pass-quiet T t e k l v h = ap (λ (b : Bool). cond b (after_pass T (job_for T t e k l) l v) (stands l v)) (any_none (λ r. asks_of T t e k r.state) l h)

-- nothing shares a choice with nothing
stirred_by_none : (T : List ℕ) (q : Job) (r : Row) → stirred_of T q 0 r ≡ false
unfolding stirred_of full_of
stirred_by_none T q r = rw (and_zero_r r.cover) (go (asking_of T q r))
  where
    go : (b : Bool) → cond b (full_of 8 0) false ≡ false
    go true = refl
    go false = refl

-- where no row is stirred
module _ (T : List ℕ) (q : Job) (u : ℕ) (l : List Row) (none : Every (λ r. stirred_of T q u r ≡ false) l) where
  still-pass : stirred_pass T q u l ≡ l
  unfolding stirred_pass stirred_covers entered_rows
  still-pass =
      ap₂ (λ (a : List Row) (b : List ℕ). a ++ entered_rows q.stands q.blocks q.two b)
      (each_every (λ r. stirred_of T q u r ≡ false) (hold_stirred T q u (met_for q l)) (λ r. r ∷ []) (λ r h. rw h refl) l none ∙ each_self l)
      (each_every (λ r. stirred_of T q u r ≡ false) (enter_stirred T q u (met_for q l)) (λ r. []) (λ r h. rw h refl) l none ∙ each_none l)
      ∙ append-nil l

  still-covers : stirred_covers T q u l ≡ []
  unfolding stirred_covers
  still-covers = each_every (λ r. stirred_of T q u r ≡ false) (enter_stirred T q u (met_for q l)) (λ r. []) (λ r h. rw h refl) l none ∙ each_none l

pub pass-still : (T : List ℕ) (t e k : ℕ) (N : List ℕ) (l : List Row) (v : List ℕ) → length l ≤ get_or T 3 0 → Noted T t N l
    → Every (λ r. stirred_of T (job_for T t e k l) (stir_in N (spot k e)) r ≡ false) l → pass_of T t e k (stands l v) ≡ stands l v
unfolding pass_of job_of arrived_of
pass-still T t e k N l v fits noted none = go (some_asks T t e k l)
  where
    J : Job
    J = job_for T t e k l

    rows_same : passed_of T J l ≡ l
    rows_same = passed-stirred T J (stir_in N) (asked_in N) l (record { cap = refl; partner = refl }) noted.calm ∙ still-pass T J (stir_in N (spot k e)) l none

    covers-none : covers_of T J l ≡ []
    covers-none = covers-stirred T J (stir_in N) (asked_in N) l (record { cap = refl; partner = refl }) noted.calm ∙ still-covers T J (stir_in N (spot k e)) l none

    go : (b : Bool) → cond b (after_pass T J l v) (stands l v) ≡ stands l v
    go true = ap₂ (λ (x : List Row) (cs : List ℕ). guard (get_or T 3 0) x (arrived_of T J cs v)) rows_same covers-none ∙ guard_in (get_or T 3 0) l v fits
    go false = refl

-- ---- a pair of which no row waits

-- a row that waits for the pair asks
asks-pair : (T : List ℕ) (t e k s : ℕ) → Ways T → e < 128 → s / 524288 < 8 → waits_of (t + 1) s ≡ true → spot_of T s ≡ spot k e → asks_of T t e k s ≡ true
unfolding asks_of
asks-pair T t e k s ways low small w z =
    let next : next_of T s < 128 = ways.nexts (s / 4096) (omega arith) in
    let train : s / 524288 ≡ k = omega arith in
    let same : next_of T s ≡ e = omega arith in
    rw (eq-eqb (s / 524288) k train, due-waits t s, w, eq-eqb (next_of T s) e same) refl

module _ (T : List ℕ) (t e k : ℕ) (N : List ℕ) (l : List Row) (ways : Ways T) (low : e < 128) (train : k < 8) (F : Flagged N)
    (none : Every (λ x. asks_of T t e k x.state ≡ false) l) (noted : Noted T t N l) where
  abbrev i : ℕ
  i = spot k e

  abbrev N₀ : List ℕ
  N₀ = set N i 0

  abbrev N₁ : List ℕ
  N₁ = set N₀ (1152 + i) 0

  stir₁ : (j : ℕ) → (j ≡ i → ⊥) → stir_in N₁ j ≡ stir_in N j
  unfolding stir_in
  stir₁ j h = go (ltb j 1024) refl
    where
      go : (b : Bool) → ltb j 1024 ≡ b → cond b (get_or N₁ j 0) 0 ≡ cond b (get_or N j 0) 0
      go true z = get_or-set_other N₀ (1152 + i) j 0 0 (λ q. omega (arith, ltb-true j 1024 z)) ∙ get_or-set_other N i j 0 0 h
      go false z = refl

  asked₁ : (j : ℕ) → (j ≡ i → ⊥) → asked_in N₁ j ≡ asked_in N j
  unfolding asked_in
  asked₁ j h = ap (λ (x : ℕ). cond (ltb j 1024) x 0)
      (get_or-set_other N₀ (1152 + i) (1152 + j) 0 0 (λ q. h (omega arith)) ∙ get_or-set_other N i (1152 + j) 0 0 (λ q. omega arith))

  pub none-flagged : Flagged N₁
  none-flagged = record {
    long = length-set N₀ (1152 + i) 0 ∙ F₀.long;
    flags = λ j m z. get_or-set_other N₀ (1152 + i) j 0 0 (λ q. omega arith) ∙ F₀.flags j m (sym (get_or-set_other N₀ (1152 + i) (1024 + j % 128) 0 0 (λ q. omega arith)) ∙ z);
  }
    where
      F₀ : Flagged N₀
      F₀ = reset_flagged N i (omega arith) F

  minutes₁ : (j : ℕ) → get_or N₁ (2176 + j) 0 ≡ get_or N (2176 + j) 0
  minutes₁ j = get_or-set_other N₀ (1152 + i) (2176 + j) 0 0 (λ q. omega arith) ∙ reset_minutes N i (omega arith) F j

  settled₁ : (r : Row) → asks_of T t e k r.state ≡ false → Settled T (t + 1) (stir_in N) (asked_in N) l r → Settled T (t + 1) (stir_in N₁) (asked_in N₁) l r
  settled₁ r a h = record {
    full = h.full;
    train = h.train;
    place = h.place;
    known = λ w z. h.known w (sym (asked₁ (spot_of T r.state) (other w)) ∙ z);
    still = λ w. go w (h.still w);
  }
    where
      other : waits_of (t + 1) r.state ≡ true → spot_of T r.state ≡ i → ⊥
      other w z = false≢true (sym a ∙ asks-pair T t e k r.state ways low h.train w z)

      go : waits_of (t + 1) r.state ≡ true → Still T (stir_in N) l r.state r.cover → Still T (stir_in N₁) l r.state r.cover
      go w (stirred x) = stirred (ap (λ (y : ℕ). full_of 8 (bit_and r.cover y)) (stir₁ (spot_of T r.state) (other w)) ∙ x)
      go w (rests x) = rests x

  pub none-noted : Noted T t N₁ l
  none-noted = record {
    calm = both l none noted.calm;
    shown = every_more (λ r. get_or N (2176 + r.state % 4096) 0 ≡ 0 → ⊥) (λ r. get_or N₁ (2176 + r.state % 4096) 0 ≡ 0 → ⊥) (λ r h z. h (sym (minutes₁ (r.state % 4096)) ∙ z)) l noted.shown;
    current = noted.current;
  }
    where
      both : (rs : List Row) → Every (λ x. asks_of T t e k x.state ≡ false) rs → Every (Settled T (t + 1) (stir_in N) (asked_in N) l) rs → Every (Settled T (t + 1) (stir_in N₁) (asked_in N₁) l) rs
      both [] a b = tt
      both (r ∷ rs) a b = (settled₁ r a.0 b.0, both rs a.1 b.1)

-- ---- a pair of which no row is stirred

module _ (T : List ℕ) (t e k : ℕ) (N : List ℕ) (l : List Row) (ways : Ways T) (low : e < 128) (train : k < 8) (F : Flagged N)
    (none : Every (λ r. stirred_of T (job_for T t e k l) (stir_in N (spot k e)) r ≡ false) l) (noted : Noted T t N l) where
  settled₀ : (r : Row) → stirred_of T (job_for T t e k l) (stir_in N (spot k e)) r ≡ false → Settled T (t + 1) (stir_in N) (asked_in N) l r
      → Settled T (t + 1) (stir_in (set N (spot k e) 0)) (asked_in (set N (spot k e) 0)) l r
  unfolding stirred_of job_of
  settled₀ r a h = record {
    full = h.full;
    train = h.train;
    place = h.place;
    known = λ w z. h.known w (sym (reset_asked N (spot k e) (omega arith) F (spot_of T r.state)) ∙ z);
    still = λ w. go w (eqb (spot_of T r.state) (spot k e)) refl (h.still w);
  }
    where
      -- one that waits for the pair asks, and would be stirred
      apart : waits_of (t + 1) r.state ≡ true → spot_of T r.state ≡ spot k e → full_of 8 (bit_and r.cover (stir_in N (spot_of T r.state))) ≡ true → ⊥
      apart w z x = false≢true (sym a ∙ ap (λ (b : Bool). cond b (full_of 8 (bit_and r.cover (stir_in N (spot k e)))) false) (asks-pair T t e k r.state ways low h.train w z)
          ∙ ap (λ (y : ℕ). full_of 8 (bit_and r.cover (stir_in N y))) (sym z) ∙ x)

      go : waits_of (t + 1) r.state ≡ true → (b : Bool) → eqb (spot_of T r.state) (spot k e) ≡ b → Still T (stir_in N) l r.state r.cover
          → Still T (stir_in (set N (spot k e) 0)) l r.state r.cover
      go w true z (stirred x) = absurd (apart w (eqb-true (spot_of T r.state) (spot k e) z) x)
      go w false z (stirred x) =
          stirred (ap (λ (y : ℕ). full_of 8 (bit_and r.cover y)) (reset_stir N (spot k e) (omega arith) F (spot_of T r.state) (eqb-false (spot_of T r.state) (spot k e) z)) ∙ x)
      go w b z (rests x) = rests x

  pub calm-noted : Noted T t (set N (spot k e) 0) l
  calm-noted = record {
    calm = both l none noted.calm;
    shown = every_more (λ r. get_or N (2176 + r.state % 4096) 0 ≡ 0 → ⊥) (λ r. get_or (set N (spot k e) 0) (2176 + r.state % 4096) 0 ≡ 0 → ⊥)
        (λ r h z. h (sym (reset_minutes N (spot k e) (omega arith) F (r.state % 4096)) ∙ z)) l noted.shown;
    current = noted.current;
  }
    where
      both : (rs : List Row) → Every (λ r. stirred_of T (job_for T t e k l) (stir_in N (spot k e)) r ≡ false) rs → Every (Settled T (t + 1) (stir_in N) (asked_in N) l) rs
          → Every (Settled T (t + 1) (stir_in (set N (spot k e) 0)) (asked_in (set N (spot k e) 0)) l) rs
      both [] a b = tt
      both (r ∷ rs) a b = (settled₀ r a.0 b.0, both rs a.1 b.1)

-- ---- a visit

module _ (T : List ℕ) (t e w : ℕ) (rows weights N : List ℕ) (kept : Kept w rows) (F : Flagged N) (noted : w < length rows → Noted T t N (rows_of (take w rows))) where
  pub unseen : {o : Outcome} → read w rows weights ≡ o → Seen T t o w rows weights N
  unseen h = record { outcome = h; kept = kept; flagged = F; noted = noted }

  pub visit-over : (k : ℕ) → length rows ≤ w → Seen T t (pass_of T t e k (read w rows weights)) w rows weights N
  visit-over k h = unseen (read_out w rows weights h ∙ sym (ap (pass_of T t e k) (read_out w rows weights h) ∙ pass-over T t e k))

  -- where no row is stirred, the pass changes nothing
  same-pass : (k : ℕ) → length rows ≡ get_or T 3 0 * 2 + 2 → (h : w < length rows)
      → Every (λ r. stirred_of T (job_for T t e k (rows_of (take w rows))) (stir_in N (spot k e)) r ≡ false) (rows_of (take w rows))
      → pass_of T t e k (read w rows weights) ≡ read w rows weights
  same-pass k room h none =
      let even : w ≡ w / 2 * 2 = sym kept.even in
      ap (pass_of T t e k) (read_in w rows weights h)
      ∙ pass-still T t e k N (rows_of (take w rows)) weights (omega (arith, ap (λ (y : ℕ). length (rows_of (take y rows))) even, rows_in-length (w / 2) rows (omega arith))) (noted h) none
      ∙ sym (read_in w rows weights h)

  -- of a pair that nothing stirred
  pub pass_same : (k : ℕ) → length rows ≡ get_or T 3 0 * 2 + 2 → stir_in N (spot k e) ≡ 0 → pass_of T t e k (read w rows weights) ≡ read w rows weights
  pass_same k room z = go (dec_lt w (length rows))
    where
      J : Job
      J = job_for T t e k (rows_of (take w rows))

      go : Dec (w < length rows) → pass_of T t e k (read w rows weights) ≡ read w rows weights
      go (yes h) =
          same-pass k room h
          (every_all (λ r. stirred_of T J (stir_in N (spot k e)) r ≡ false) (λ r. ap (λ (x : ℕ). stirred_of T J x r) z ∙ stirred_by_none T J r) (rows_of (take w rows)))
      go (no h) = ap (pass_of T t e k) (read_out w rows weights (omega arith)) ∙ pass-over T t e k ∙ sym (read_out w rows weights (omega arith))

  pub visit-still : (k : ℕ) → length rows ≡ get_or T 3 0 * 2 + 2 → stir_in N (spot k e) ≡ 0 → Seen T t (pass_of T t e k (read w rows weights)) w rows weights N
  visit-still k room z = unseen (sym (pass_same k room z))

  pub visit-calm : (k : ℕ) → Ways T → e < 128 → k < 8 → length rows ≡ get_or T 3 0 * 2 + 2 → (h : w < length rows)
      → Every (λ r. stirred_of T (job_for T t e k (rows_of (take w rows))) (stir_in N (spot k e)) r ≡ false) (rows_of (take w rows))
      → Seen T t (pass_of T t e k (read w rows weights)) w rows weights (set N (spot k e) 0)
  visit-calm k ways low train room h none = record {
    outcome = sym (same-pass k room h none);
    kept = kept;
    flagged = reset_flagged N (spot k e) (omega arith) F;
    noted = λ y. calm-noted T t e k N (rows_of (take w rows)) ways low train F none (noted h);
  }

  pub visit-none : (k : ℕ) → Ways T → e < 128 → k < 8 → (h : w < length rows) → Every (λ x. asks_of T t e k x.state ≡ false) (rows_of (take w rows))
      → Seen T t (pass_of T t e k (read w rows weights)) w rows weights (set (set N (spot k e) 0) (1152 + spot k e) 0)
  visit-none k ways low train h q = record {
    outcome = read_in w rows weights h ∙ sym (ap (pass_of T t e k) (read_in w rows weights h) ∙ pass-quiet T t e k (rows_of (take w rows)) weights q);
    kept = kept;
    flagged = none-flagged T t e k N (rows_of (take w rows)) ways low train F q (noted h);
    noted = λ y. none-noted T t e k N (rows_of (take w rows)) ways low train F q (noted h);
  }

  -- ---- by the key

  pub visit_unstirred : (k key f j : ℕ) → Ways T → Within t e k → w < length rows → Keyed T t e k key (rows_of (take w rows)) → length rows ≡ get_or T 3 0 * 2 + 2 → j * 2 ≡ w → f ≤ j
      → Every (λ r. asks_of T t e k r.state ≡ false) (rows_in f rows)
      → Every (λ r. stirs_of key t (stir_in N (spot k e)) r ≡ false) (rows_of (slice (f * 2) (j * 2) rows))
      → Seen T t (pass_of T t e k (read w rows weights)) w rows weights (set N (spot k e) 0)
  visit_unstirred k key f j ways within inside keys room all less a b =
      visit-calm k ways (omega (arith, within.place)) within.train room inside
      (agree L (keyed_stirs T t e k key (stir_in N (spot k e)) (asker_of T t e k L) L keys)
      (subst (λ (y : ℕ). Every (λ r. stirs_of key t (stir_in N (spot k e)) r ≡ false) (rows_of (take y rows))) all
      (unstirred T t e k key (stir_in N (spot k e)) f j j rows less (omega arith) (omega arith) (subst (λ (y : ℕ). Keyed T t e k key (rows_of (take y rows))) (sym all) keys) a b)))
    where
      L : List Row
      L = rows_of (take w rows)

      agree : (l : List Row) → Every (λ r. stirs_of key t (stir_in N (spot k e)) r ≡ stirred_of T (job_for T t e k L) (stir_in N (spot k e)) r) l
          → Every (λ r. stirs_of key t (stir_in N (spot k e)) r ≡ false) l → Every (λ r. stirred_of T (job_for T t e k L) (stir_in N (spot k e)) r ≡ false) l
      agree [] x y = tt
      agree (r ∷ l) x y = (sym x.0 ∙ y.0, agree l x.1 y.1)
