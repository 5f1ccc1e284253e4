-- Who asks, by one comparison: a train goes on to an element from one place alone, so its rows that ask for it are those of one standing state up to the
-- minute. Assumes nothing.
use Rattle.std.specs.Prelude.{◌≡◌, Bool, ◌||◌, ℕ, ◌+◌, ◌-◌, ◌*◌, ◌/◌, ◌%◌, ◌≤◌, ◌<◌, length, get_or}
use Rattle.std.proofs.Math.Path.{refl, ap, sym}
use Rattle.std.proofs.Common.{◌∙◌, subst, arith}
use Rattle.std.proofs.Math.Bool.{true, false, cond}
use Rattle.std.proofs.lemmas.Bool.{false≢true}
use mathlib.Core.List.{List, [], ◌∷◌}
use Rattle.std.proofs.Math.Decide.{dec_lt}
use Rattle.std.specs.Int.Bits.{bit_and}
use Rattle.std.proofs.Math.Seq.{slice}
use Rattle.theory_lists.specs.Every.{Every, every_append, every_left, every_more}
use Rattle.cut.specs.Cut.{full_of}
use Rattle.rows.specs.Rows.{Row, rows_of, rows_in}
use Rattle.rows.specs.Written.{rows_split, row_of}
use Rattle.asking.specs.Ask.{asks_of, asker_of, job_of, reach_of, stirs_of, stirred_of, Before, Within}
use Rattle.asking.specs.Asking.{asking}
use Rattle.asking.specs.Reach.{reach-yes, reach-is, due-is, due-yes, asks-yes}
use Rattle.waiting.specs.Calm.{Settled}
use Rattle.waiting.specs.Notes.{stir_in, asked_in}
use Rattle.visiting.specs.Visit.{some_asks, Placed, Keyed, Ways, Noted}

both_ways : (a b : Bool) → (a ≡ true → b ≡ true) → (b ≡ true → a ≡ true) → a ≡ b
both_ways true true f g = refl
both_ways true false f g = absurd (false≢true (f refl))
both_ways false true f g = absurd (false≢true (g refl))
both_ways false false f g = refl

-- ---- one state

module _ (T : List ℕ) (t e k p : ℕ) (ways : Ways T) (within : Within t e k) where
  abbrev key : ℕ
  key = k * 524288 + p * 4096

  asks-reach : (s : ℕ) → s / 524288 < 8 → s / 4096 % 128 ≤ 65 → Before T k e p → asks_of T t e k s ≡ true → reach_of key t s ≡ true
  asks-reach s small near b h = go (dec_lt p 66)
    where
      go : Dec (p < 66) → reach_of key t s ≡ true
      go (yes low) =
          let a = asking T t e k s h in
          let d = due-is t s a.due in
          let same : s / 4096 ≡ k * 128 + p = ways.one_place (s / 4096) (k * 128 + p) (omega arith) (omega (arith, within.train)) near (omega arith) (omega (arith, a.train)) (omega (arith, a.next, within.place))
          (a.next ∙ sym (b.next low)) in
          reach-yes key t s (omega arith) (omega (arith, d.0, d.1))
      go (no none) =
          let a = asking T t e k s h in
          let same : s / 4096 ≡ k * 128 + s / 4096 % 128 = omega (arith, a.train) in
          absurd (b.first (s / 4096 % 128) (omega (arith, near)) (ap (λ (x : ℕ). get_or T (240 + x) 0) (sym same) ∙ a.next))

  reach-asks : (s : ℕ) → s / 4096 % 128 ≤ 65 → Before T k e p → reach_of key t s ≡ true → asks_of T t e k s ≡ true
  reach-asks s near b h =
      let r = reach-is key t s h in
      let same : s / 4096 ≡ k * 128 + p = omega (arith, r.0, r.1, within.minute, b.few) in
      asks-yes T t e k s (record {
        train = omega (arith, same, b.few);
        due = due-yes t s (omega (arith, r.0, r.1, within.minute)) (omega (arith, r.0, r.1, within.minute));
        next = ap (λ (x : ℕ). get_or T (240 + x) 0) same ∙ b.next (omega (arith, near, same, b.few));
      })

  -- ---- all rows

  pub keyed : (l : List Row) → Before T k e p → Placed l → Keyed T t e k key l
  keyed l b placed = record {
    base = omega arith;
    low = omega (arith, within.train, b.few);
    asks = every_more (λ r. (r.state / 524288 < 8) × (r.state / 4096 % 128 ≤ 65)) (λ r. asks_of T t e k r.state ≡ reach_of key t r.state)
        (λ r h. both_ways (asks_of T t e k r.state) (reach_of key t r.state) (asks-reach r.state h.0 h.1 b) (reach-asks r.state h.1 b)) l placed;
  }

-- rows of which something is noted are placed
pub noted-placed : (T : List ℕ) (t : ℕ) (N : List ℕ) (l : List Row) → Noted T t N l → Placed l
noted-placed T t N l noted =
    every_more (Settled T (t + 1) (stir_in N) (asked_in N) l) (λ r. (r.state / 524288 < 8) × (r.state / 4096 % 128 ≤ 65)) (λ r h. (h.train, h.place)) l noted.calm

-- the key by one row that asks
pub keyed_by : (T : List ℕ) (t e k s : ℕ) (l : List Row) → Ways T → Within t e k → s / 4096 % 128 ≤ 65 → asks_of T t e k s ≡ true → Placed l → Keyed T t e k (s - s % 4096) l
keyed_by T t e k s l ways within near asks placed =
    let a = asking T t e k s asks in
    let spot : s / 4096 ≡ k * 128 + s / 4096 % 128 = omega (arith, a.train) in
    let same : k * 524288 + s / 4096 % 128 * 4096 ≡ s - s % 4096 = omega (arith, spot) in
    let before : Before T k e (s / 4096 % 128) = record {
      few = omega (arith, near);
      first = λ j less g.
          let here : s / 4096 ≡ k * 128 + j = ways.one_place (s / 4096) (k * 128 + j) (omega (arith, spot, within.train)) (omega (arith, near, within.train)) near (omega (arith, near)) (omega (arith, spot, near)) (omega (arith, a.next, within.place)) (a.next ∙ sym g) in
          omega (arith, spot, here);
      next = λ low. ap (λ (x : ℕ). get_or T (240 + x) 0) (sym spot) ∙ a.next;
    } in
    subst (λ (x : ℕ). Keyed T t e k x l) same (keyed T t e k (s / 4096 % 128) ways within l before placed)

module _ (T : List ℕ) (t e k key : ℕ) where
  front : (f n : ℕ) (rows : List ℕ) → f ≤ n → n * 2 ≤ length rows → Every (λ r. asks_of T t e k r.state ≡ reach_of key t r.state) (rows_in n rows)
      → Every (λ r. asks_of T t e k r.state ≡ reach_of key t r.state) (rows_in f rows)
  front f n rows less long h =
      every_left (λ r. asks_of T t e k r.state ≡ reach_of key t r.state) (rows_in f rows) (rows_of (slice (f * 2) (n * 2) rows))
      (subst (Every (λ r. asks_of T t e k r.state ≡ reach_of key t r.state)) (rows_split f n rows less long) h)

  -- who is reached and stirred is who asks and is stirred
  pub keyed_stirs : (u s : ℕ) (l : List Row) → Keyed T t e k key l → Every (λ r. stirs_of key t u r ≡ stirred_of T (job_of T t e k s) u r) l
  unfolding stirs_of stirred_of job_of
  keyed_stirs u s l h =
      every_more (λ r. asks_of T t e k r.state ≡ reach_of key t r.state) (λ r. stirs_of key t u r ≡ stirred_of T (job_of T t e k s) u r)
      (λ r z. ap (λ (b : Bool). cond b (full_of 8 (bit_and r.cover u)) false) (sym z)) l h.asks

  -- where nobody is reached, nobody asks, and the other way round
  keyed_none : (l : List Row) → Every (λ r. asks_of T t e k r.state ≡ reach_of key t r.state) l → Every (λ r. reach_of key t r.state ≡ false) l → Every (λ r. asks_of T t e k r.state ≡ false) l
  keyed_none [] a b = tt
  keyed_none (r ∷ l) a b = (a.0 ∙ b.0, keyed_none l a.1 b.1)

  none_keyed : (l : List Row) → Every (λ r. asks_of T t e k r.state ≡ reach_of key t r.state) l → Every (λ r. asks_of T t e k r.state ≡ false) l → Every (λ r. reach_of key t r.state ≡ false) l
  none_keyed [] a b = tt
  none_keyed (r ∷ l) a b = (sym a.0 ∙ b.0, none_keyed l a.1 b.1)

  -- the first row that is reached is the first that asks
  pub found-reached : (f n : ℕ) (rows : List ℕ) → f ≤ n → n * 2 ≤ length rows → Keyed T t e k key (rows_in n rows) → Every (λ r. reach_of key t r.state ≡ false) (rows_in f rows)
      → (f < n → reach_of key t (get_or rows (f * 2) 0) ≡ true)
      → Every (λ r. asks_of T t e k r.state ≡ false) (rows_in f rows) × (f < n → asks_of T t e k (get_or rows (f * 2) 0) ≡ true)
  found-reached f n rows less long h a b = (
    keyed_none (rows_in f rows) (front f n rows less long h.asks) a,
    λ m. row_of (λ r. asks_of T t e k r.state ≡ reach_of key t r.state) f n rows m long h.asks ∙ b m,
  )

  -- the first asker is reached
  pub keyed_asker : (l : List Row) → Every (λ r. asks_of T t e k r.state ≡ reach_of key t r.state) l → some_asks T t e k l ≡ true → reach_of key t (asker_of T t e k l) ≡ true
  unfolding asker_of
  keyed_asker [] a h = absurd (false≢true h)
  keyed_asker (r ∷ l) a h = go (asks_of T t e k r.state) refl (keyed_asker l a.1) h
    where
      go : (b : Bool) → asks_of T t e k r.state ≡ b → (some_asks T t e k l ≡ true → reach_of key t (asker_of T t e k l) ≡ true) → (b || some_asks T t e k l) ≡ true
          → reach_of key t (cond b r.state (asker_of T t e k l)) ≡ true
      go true z next q = sym a.0 ∙ z
      go false z next q = next q

-- states that are reached stand at one place
pub reach-place : (key t s r : ℕ) → key % 4096 ≡ 0 → t < 2048 → reach_of key t s ≡ true → reach_of key t r ≡ true → s / 4096 % 128 ≡ r / 4096 % 128
reach-place key t s r base low h k = let a = reach-is key t s h in let b = reach-is key t r k in omega (arith, a.0, a.1, b.0, b.1)

-- a job depends on its asker by the place alone
pub job_place : (T : List ℕ) (t e k s r : ℕ) → s / 4096 % 128 ≡ r / 4096 % 128 → job_of T t e k s ≡ job_of T t e k r
unfolding job_of
job_place T t e k s r h = rw h refl

-- ---- rows that are passed over

pub stirs_reach : (key t u : ℕ) (r : Row) → stirs_of key t u r ≡ true → reach_of key t r.state ≡ true
unfolding stirs_of
stirs_reach key t u r h = go (reach_of key t r.state) h
  where
    go : (b : Bool) → cond b (full_of 8 (bit_and r.cover u)) false ≡ true → b ≡ true
    go true z = refl
    go false z = z

-- up to row f nobody asks, and from there up to row j nobody is stirred
pub unstirred : (T : List ℕ) (t e k key u f j n : ℕ) (rows : List ℕ) → f ≤ j → j ≤ n → n * 2 ≤ length rows → Keyed T t e k key (rows_in n rows)
    → Every (λ r. asks_of T t e k r.state ≡ false) (rows_in f rows) → Every (λ r. stirs_of key t u r ≡ false) (rows_of (slice (f * 2) (j * 2) rows))
    → Every (λ r. stirs_of key t u r ≡ false) (rows_in j rows)
unfolding stirs_of
unstirred T t e k key u f j n rows less few long keyed a b =
    subst (Every (λ r. stirs_of key t u r ≡ false)) (sym (rows_split f j rows less (omega arith)))
    (every_append (λ r. stirs_of key t u r ≡ false) (rows_in f rows) (rows_of (slice (f * 2) (j * 2) rows))
    (every_more (λ r. reach_of key t r.state ≡ false) (λ r. stirs_of key t u r ≡ false) (λ r z. ap (λ (x : Bool). cond x (full_of 8 (bit_and r.cover u)) false) z) (rows_in f rows)
    (none_keyed T t e k key (rows_in f rows) (front T t e k key f n rows (omega arith) long keyed.asks) a)) b)
