-- The pass in code, read as an outcome, is the pass on rows. Rows are calm before and after, so the pass of the rows that were stirred is the pass. The lent
-- rows have one place more than the room, so rows that leave no place are refused. Assumes nothing.
use Rattle.std.specs.Prelude.{◌≡◌, Bool, true, false, not, ◌||◌, length, take, eqb, ltb, leb}
use Rattle.std.proofs.Math.Path.{refl, ap, sym, subst}
use Rattle.std.proofs.Common.{ap₂, ◌∙◌, arith, lt-ltb, le-ltb, ltb-true, eqb-true}
use Rattle.std.proofs.Math.Bool.{cond, or-true}
use mathlib.Core.List.{List, [], ◌∷◌, ◌++◌, append_assoc}
use Prim.Native.Nat.{ℕ, ◌+◌, ◌*◌, ◌/◌, ◌%◌, ◌≤◌, ◌<◌}
use Rattle.std.proofs.Math.Decide.{dec_lt}
use Rattle.std.proofs.Math.ListN.{get_or}
use Rattle.std.proofs.Math.Seq.{slice}
use Rattle.std.proofs.lemmas.Bool.{lt-leb}
use Rattle.rules.specs.Lists.{any}
use Rattle.theory_lists.specs.Tests.{and_true-first}
use Rattle.theory_lists.specs.Every.{Every, every_more, any_append}
use Rattle.rows.specs.Rows.{Row, rows_of, rows_in, row_at, ended_of}
use Rattle.rows.specs.Written.{rows_of-words, rows_in-more, rows_split}
use Rattle.weigh.specs.Weigh.{Small}
use Rattle.asking.specs.declared.Job.{Job}
use Rattle.asking.specs.Ask.{asks_of, asker_of, leaves_of, job_of, reach_of, stirs_of, stirred_of, met_for, Within}
use Rattle.serving.specs.declared.Ends.{Ends}
use Rattle.serving.specs.Pass.{hold_by, enter_by, covers_by, pass_by, hold_stirred, enter_stirred, covers_of, passed_of, stirred_covers, stirred_pass, Went, Passed}
use Rattle.serving.specs.Passing.{pass_same, covers-same, went-same}
use Rattle.waiting.specs.Calm.{spot}
use Rattle.waiting.specs.Stirred.{covers-stirred, passed-stirred, calm-passed}
use Rattle.waiting.specs.Notes.{stir_in, asked_in, Flagged}
use Rattle.visiting.specs.Visit.{arrived_of, guard, job_for, some_asks, after_pass, pass_of, settled_of, read, Keyed, Ways, Noted, Seen}
use Rattle.visiting.specs.Visit.Outcome.{refused, stands}
use Rattle.visiting.specs.Keys.{keyed_stirs, keyed_asker, reach-place, job_place}
use Rattle.visiting.specs.States.{passed_states}
use Rattle.visiting.specs.Settling.{Settles, settles, job_stands, job_ready}

-- ---- reading

pub read_in : (w : ℕ) (rows weights : List ℕ) → w < length rows → read w rows weights ≡ stands (rows_of (take w rows)) weights
unfolding read
read_in w rows weights h = ap (λ (b : Bool). cond b (stands (rows_of (take w rows)) weights) refused) (lt-ltb w (length rows) h)

pub read_out : (w : ℕ) (rows weights : List ℕ) → length rows ≤ w → read w rows weights ≡ refused
unfolding read
read_out w rows weights h = ap (λ (b : Bool). cond b (stands (rows_of (take w rows)) weights) refused) (le-ltb w (length rows) h)

pub guard_in : (room : ℕ) (l : List Row) (v : List ℕ) → length l ≤ room → guard room l v ≡ stands l v
unfolding guard
guard_in room l v h = ap (λ (b : Bool). cond b refused (stands l v)) (le-ltb room (length l) h)

pub guard_out : (room : ℕ) (l : List Row) (v : List ℕ) → room < length l → guard room l v ≡ refused
unfolding guard
guard_out room l v h = ap (λ (b : Bool). cond b refused (stands l v)) (lt-ltb room (length l) h)

-- ---- an asker

module _ (T : List ℕ) (t e k i n : ℕ) (rows : List ℕ) (before : i < n) (long : n * 2 ≤ length rows) (here : asks_of T t e k (get_or rows (i * 2) 0) ≡ true) where
  abbrev rest : List Row
  rest = rows_of (slice ((i + 1) * 2) (n * 2) rows)

  found : rows_in n rows ≡ rows_in i rows ++ (row_at rows i ∷ rest)
  found =
      rows_split (i + 1) n rows (omega arith) long
      ∙ ap (λ (l : List Row). l ++ rest) (rows_in-more i rows (omega arith))
      ∙ append_assoc (rows_in i rows) (row_at rows i ∷ []) rest

  pub asked_is : some_asks T t e k (rows_in n rows) ≡ true
  asked_is =
      ap (any (λ r. asks_of T t e k r.state)) found
      ∙ any_append (λ r. asks_of T t e k r.state) (rows_in i rows) (row_at rows i ∷ rest)
      ∙ ap (λ (z : Bool). any (λ r. asks_of T t e k r.state) (rows_in i rows) || (z || any (λ r. asks_of T t e k r.state) rest)) here
      ∙ or-true (any (λ r. asks_of T t e k r.state) (rows_in i rows))

-- ---- a pass that is made

-- neither a standing state nor the new block, where there is one, is one that has ended
module _ (T : List ℕ) (t e k s : ℕ) (within : Within t e k) (small : Small T) (ways : Ways T) where
  stands-current : ended_of t (job_of T t e k s).stands ≡ false
  unfolding job_of ended_of
  stands-current = go (eqb (x / 2048 % 2) 1) refl
    where
      x : ℕ
      x = k * 524288 + e * 4096 + (t + get_or T (1264 + (k * 128 + e)) 0)

      go : (b : Bool) → eqb (x / 2048 % 2) 1 ≡ b → cond b (leb (x % 2048) t) false ≡ false
      go false h = refl
      go true h = absurd (omega (arith, eqb-true (x / 2048 % 2) 1 h, within.minute, within.place, ways.stays (k * 128 + e) (omega (arith, within.place, within.train))))

  blocks-current : (job_of T t e k s).two ≡ true → ended_of t (job_of T t e k s).blocks ≡ false
  unfolding job_of ended_of leaves_of
  blocks-current two = go (eqb (x / 2048 % 2) 1)
    where
      x : ℕ
      x = k * 524288 + s / 4096 % 128 * 4096 + 2048 + (t + get_or T 2 0)

      some : 0 < get_or T 2 0
      some = ltb-true 0 (get_or T 2 0) (and_true-first (ltb 0 (get_or T 2 0)) (not (eqb (s / 4096 % 128) 65)) two)

      go : (b : Bool) → cond b (leb (x % 2048) t) false ≡ false
      go false = refl
      go true = lt-leb (x % 2048) t (omega (arith, within.minute, small.safety, some))

module _ (T : List ℕ) (t e k n s : ℕ) (rows weights N : List ℕ)
    (within : Within t e k) (small : Small T) (ways : Ways T) (room : length rows ≡ get_or T 3 0 * 2 + 2) (fits : n * 2 < length rows)
    (asked : some_asks T t e k (rows_in n rows) ≡ true) (near : s / 4096 % 128 ≤ 65) (asks : asks_of T t e k s ≡ true)
    (flagged : Flagged N) (noted : Noted T t N (rows_in n rows)) (key : ℕ) (keyed : Keyed T t e k key (rows_in n rows)) (reach : reach_of key t s ≡ true) where
  abbrev J : Job
  J = job_of T t e k s

  abbrev L : List Row
  L = rows_in n rows

  abbrev u : ℕ
  u = stir_in N (spot k e)

  -- the pass of the rows that were stirred is the pass
  pass-is : passed_of T J L ≡ stirred_pass T J u L
  unfolding job_of
  pass-is = passed-stirred T J (stir_in N) (asked_in N) L (record { cap = refl; partner = refl }) noted.calm

  covers_are : covers_of T J L ≡ stirred_covers T J u L
  unfolding job_of
  covers_are = covers-stirred T J (stir_in N) (asked_in N) L (record { cap = refl; partner = refl }) noted.calm

  -- the job of the pass is that of its first asker, which stands where this one stands
  job_is : job_for T t e k L ≡ J
  job_is = job_place T t e k (asker_of T t e k L) s (reach-place key t (asker_of T t e k L) s keyed.base (omega (arith, within.minute)) (keyed_asker T t e k key L keyed.asks asked) reach)

  -- who is reached and stirred is who asks and is stirred
  same_test : Every (λ r. stirs_of key t u r ≡ stirred_of T J u r) L
  same_test = keyed_stirs T t e k key u s L keyed

  module _ (moved : ℕ) (rows' weights' N' entering' : List ℕ) (z : Ends) (same : length rows' ≡ length rows)
      (p₀ : Passed (pass_by (stirs_of key t u) J L) (covers_by (stirs_of key t u) J L) z rows' entering')
      (went₀ : Every (λ x. Went (hold_by (stirs_of key t u) (met_for J L) x) (enter_by (stirs_of key t u) (met_for J L) x) moved x) L)
      (w : weights' ≡ arrived_of T J (take z.entering entering') weights) (m : N' ≡ settled_of T J (s / 4096 % 128) moved N) where
    p : Passed (stirred_pass T J u L) (stirred_covers T J u L) z rows' entering'
    unfolding stirred_pass stirred_covers
    p =
        subst (λ (l : List Row). Passed l (covers_by (stirred_of T J u) J L) z rows' entering') (pass_same (stirs_of key t u) (stirred_of T J u) J L same_test)
        (subst (λ (cs : List ℕ). Passed (pass_by (stirs_of key t u) J L) cs z rows' entering') (covers-same (stirs_of key t u) (stirred_of T J u) J L same_test) p₀)

    went : Every (λ x. Went (hold_stirred T J u (met_for J L) x) (enter_stirred T J u (met_for J L) x) moved x) L
    went = went-same (stirs_of key t u) (stirred_of T J u) (met_for J L) moved L same_test went₀

    after : Settles T J (s / 4096 % 128) moved N (settled_of T J (s / 4096 % 128) moved N)
    unfolding job_of
    after = settles T J (s / 4096 % 128) moved N flagged ways within.train (omega (arith, within.place)) (omega arith) (omega (arith, job_stands T t e k s within small ways, within.train))

    noted-after : Noted T t (settled_of T J (s / 4096 % 128) moved N) (stirred_pass T J u L)
    unfolding job_of
    noted-after = record {
      calm = calm-passed T J (stir_in N) (asked_in N) (stir_in M) (asked_in M) L (s / 4096 % 128) moved (job_ready T t e k s within small ways near asks) after.spread noted.calm went;
      shown = subst (Every (λ r. get_or M (2176 + r.state % 4096) 0 ≡ 0 → ⊥)) pass-is
          (passed_states (λ x. get_or M (2176 + x % 4096) 0 ≡ 0 → ⊥) T J L after.stands_shown (λ two. after.blocks_shown)
          (every_more (λ r. get_or N (2176 + r.state % 4096) 0 ≡ 0 → ⊥) (λ r. get_or M (2176 + r.state % 4096) 0 ≡ 0 → ⊥) (λ r h x. h (after.minutes (r.state % 4096) (omega arith) x)) L noted.shown));
      current = subst (Every (λ r. ended_of t r.state ≡ false)) pass-is
          (passed_states (λ x. ended_of t x ≡ false) T J L (stands-current T t e k s within small ways) (blocks-current T t e k s within small ways) noted.current);
    }
      where
        M : List ℕ
        M = settled_of T J (s / 4096 % 128) moved N

    took : z.place < length rows' → rows_of (take z.place rows') ≡ stirred_pass T J u L
    took y = ap rows_of (p.list y) ∙ rows_of-words (stirred_pass T J u L)

    outcome-is : read z.place rows' weights' ≡ after_pass T J L weights
    outcome-is = go (dec_lt z.place (length rows')) ∙ ap₂ (λ (l : List Row) (cs : List ℕ). guard (get_or T 3 0) l (arrived_of T J cs weights)) (sym pass-is) (sym covers_are)
      where
        go : Dec (z.place < length rows') → read z.place rows' weights' ≡ guard (get_or T 3 0) (stirred_pass T J u L) (arrived_of T J (stirred_covers T J u L) weights)
        go (yes y) =
            read_in z.place rows' weights' y
            ∙ ap₂ stands (took y) (w ∙ ap (λ (cs : List ℕ). arrived_of T J cs weights) (p.covers y))
            ∙ sym (guard_in (get_or T 3 0) (stirred_pass T J u L) (arrived_of T J (stirred_covers T J u L) weights) (omega (arith, p.place)))
        go (no y) =
            read_out z.place rows' weights' (omega arith)
            ∙ sym (guard_out (get_or T 3 0) (stirred_pass T J u L) (arrived_of T J (stirred_covers T J u L) weights) (omega (arith, p.place)))

    pub served_law : Seen T t (pass_of T t e k (read (n * 2) rows weights)) z.place rows' weights' N'
    unfolding pass_of
    served_law = record {
      outcome = outcome-is ∙ sym (ap (pass_of T t e k) (read_in (n * 2) rows weights fits) ∙ ap (λ (b : Bool). cond b (after_pass T (job_for T t e k L) L weights) (stands L weights)) asked ∙ ap (λ (q : Job). after_pass T q L weights) job_is);
      kept = record { within = omega (arith, p.place); even = omega (arith, p.place) };
      flagged = subst Flagged (sym m) after.flagged;
      noted = λ y. subst (λ (l : List Row). Noted T t N' l) (sym (took y)) (subst (λ (x : List ℕ). Noted T t x (stirred_pass T J u L)) (sym m) noted-after);
    }
