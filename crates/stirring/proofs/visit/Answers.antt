-- `stirring::visit` meets its contract: a refused outcome, a pair that nothing stirred, one of which no row asks or none was stirred, and else a pass. Assumes
-- nothing.
use mathlib.Core.Path.{◌≡◌, refl, sym, subst, ◌∙◌}
use mathlib.Core.Bool.{false, true}
use mathlib.Core.List.{List}
use Prim.Native.Nat.{ℕ, ◌+◌, ◌-◌, ◌*◌, ◌/◌, ◌%◌, ◌≤◌, ◌<◌}
use native.Mathlib.Omega.{arith}
use lib.ListN.{length, take, get_or}
use Rattle.std.specs.Prelude.{Option, Some, None}
use Rattle.theory_lists.specs.Every.{Every}
use Rattle.rows.specs.Rows.{rows_of, rows_in, row_at}
use Rattle.rows.specs.Written.{row_of}
use Rattle.asking.specs.Ask.{asks_of, stirs_of, Found, Within}
use Rattle.asking.specs.Reach.{found_lent}
use Rattle.waiting.specs.Telling.{stir-is}
use Rattle.visiting.specs.Visit.{read, pass_of, Placed, Keyed, Kept, Ways, Noted, Seen}
use Rattle.visiting.specs.Keys.{noted-placed, keyed_by, stirs_reach, unstirred}
use Rattle.visiting.specs.Unmoved.{visit-over, visit-still, visit-none, visit_unstirred}
use Rattle.std.proofs.Common.{length-take-le}
use Rattle.stirring.proofs.visit.Goals as goal

-- what is known of the whole rows, and of those that ask as one of them does
module _ (T : List ℕ) (t e k w : ℕ) (rows N : List ℕ) (within : Within t e k) (ways : Ways T) (kept : Kept w rows) (less : w < length rows) (noted : Noted T t N (rows_of (take w rows))) where
  whole : Noted T t N (rows_in (w / 2) rows)
  whole = subst (λ y. Noted T t N (rows_of (take y rows))) (sym kept.even) noted

  placed : Placed (rows_in (w / 2) rows)
  placed = noted-placed T t N (rows_in (w / 2) rows) whole

  keys : (f : ℕ) → f < w / 2 → asks_of T t e k (get_or rows (f * 2) 0) ≡ true → Keyed T t e k (get_or rows (f * 2) 0 - get_or rows (f * 2) 0 % 4096) (rows_in (w / 2) rows)
  keys f inside asks =
      let near = (row_of (λ r. (r.state / 524288 < 8) × (r.state / 4096 % 128 ≤ 65)) f (w / 2) rows inside (omega (arith, less)) placed).1 in
      keyed_by T t e k (get_or rows (f * 2) 0) (rows_in (w / 2) rows) ways within near asks placed

-- what is found in the first w words, which alone are lent
asked : (T : List ℕ) (t e k w : ℕ) (rows : List ℕ) (r : Option ℕ) → w < length rows
    → Found (λ x b. asks_of T t e k x.state ≡ b) 0 (length (take (w / 2 * 2) rows) / 2) (take (w / 2 * 2) rows) r → Found (λ x b. asks_of T t e k x.state ≡ b) 0 (w / 2) rows r
asked T t e k w rows r less f = found_lent (λ x b. asks_of T t e k x.state ≡ b) 0 (w / 2) rows r (omega arith) (omega (arith, less)) f

stirred : (key t u f w : ℕ) (rows : List ℕ) (r : Option ℕ) → w < length rows → f < w / 2
    → Found (λ x b. stirs_of key t u x ≡ b) f (length (take (w / 2 * 2) rows) / 2) (take (w / 2 * 2) rows) r → Found (λ x b. stirs_of key t u x ≡ b) f (w / 2) rows r
stirred key t u f w rows r less inside g = found_lent (λ x b. stirs_of key t u x ≡ b) f (w / 2) rows r (omega (arith, inside)) (omega (arith, less)) g

pub returns-then-w-rows-clause-seen : goal.returns-then-w-rows-clause-seen
returns-then-w-rows-clause-seen c =
    let s = c.args in
    let p = c.requires.kept in
    visit-over s.plan.now.words.now s.turn.minute s.turn.place s.w s.rows.now s.weights.now s.work.now.notes.now p.0 p.1 p.2 s.turn.train (omega arith)

pub returns-then-by-eq0-clause-seen : goal.returns-then-by-eq0-clause-seen
returns-then-by-eq0-clause-seen c =
    let s = c.args in
    let p = c.requires.kept in
    let within = c.requires.within in
    let N = s.work.now.notes.now in
    visit-still s.plan.now.words.now s.turn.minute s.turn.place s.w s.rows.now s.weights.now N p.0 p.1 p.2 s.turn.train c.requires.lent.rows_are (stir-is N (s.turn.train * 128 + s.turn.place) (omega (arith, within.place, within.train)) ∙ c.if-by-eq0.true)

pub seek-requires : goal.seek-requires
seek-requires c =
    let s = c.args in
    let p = c.requires.kept in
    let within = c.requires.within in
    let less : s.w < length s.rows.now = omega (arith, p.0.within, c.if-w-rows.false) in
    (within, s.plan.now.ways, placed s.plan.now.words.now s.turn.minute s.turn.place s.turn.train s.w s.rows.now s.work.now.notes.now within s.plan.now.ways p.0 less (p.2 less))

pub returns-in_default-clause-seen : goal.returns-in_default-clause-seen
returns-in_default-clause-seen c =
    let s = c.args in
    let p = c.requires.kept in
    let within = c.requires.within in
    let T = s.plan.now.words.now in
    let t = s.turn.minute in
    let e = s.turn.place in
    let k = s.turn.train in
    let less : s.w < length s.rows.now = omega (arith, p.0.within, c.if-w-rows.false) in
    let none = asked T t e k s.w s.rows.now None less c.in_default.ensures in
    subst (λ N. Seen T t (pass_of T t e k (read s.w s.rows.now s.weights.now)) s.w s.rows.now s.weights.now N) (sym c.dismiss.ensures)
    (visit-none T t e s.w s.rows.now s.weights.now s.work.now.notes.now p.0 p.1 p.2 k s.plan.now.ways (omega (arith, within.place)) within.train (omega (arith, p.0.within, c.if-w-rows.false)) (subst (λ y. Every (λ x. asks_of T t e k x.state ≡ false) (rows_of (take y s.rows.now))) p.0.even none))

pub next-requires : goal.next-requires
next-requires c =
    let s = c.args in
    let p = c.requires.kept in
    let within = c.requires.within in
    let less : s.w < length s.rows.now = omega (arith, p.0.within, c.if-w-rows.false) in
    let found = asked s.plan.now.words.now s.turn.minute s.turn.place s.turn.train s.w s.rows.now (Some c.in-Some.f) less c.in-Some.ensures in
    let keyed = keys s.plan.now.words.now s.turn.minute s.turn.place s.turn.train s.w s.rows.now s.work.now.notes.now within s.plan.now.ways p.0 less (p.2 less) c.in-Some.f found.1 found.3 in
    (omega (arith, found.1, length-take-le (s.w / 2 * 2) s.rows.now (omega (arith, less))), keyed.low, omega (arith, within.minute))

pub returns-in_default-next-clause-seen : goal.returns-in_default-next-clause-seen
returns-in_default-next-clause-seen c =
    let s = c.args in
    let p = c.requires.kept in
    let within = c.requires.within in
    let T = s.plan.now.words.now in
    let t = s.turn.minute in
    let e = s.turn.place in
    let k = s.turn.train in
    let N = s.work.now.notes.now in
    let less : s.w < length s.rows.now = omega (arith, p.0.within, c.if-w-rows.false) in
    let found = asked s.plan.now.words.now s.turn.minute s.turn.place s.turn.train s.w s.rows.now (Some c.in-Some.f) less c.in-Some.ensures in
    let x = get_or s.rows.now (c.in-Some.f * 2) 0 in
    let none = stirred (x - x % 4096) t _ c.in-Some.f s.w s.rows.now None less found.1 c.in_default-next.ensures in
    let keyed = keys T t e k s.w s.rows.now N within s.plan.now.ways p.0 less (p.2 less) c.in-Some.f found.1 found.3 in
    visit_unstirred T t e s.w s.rows.now s.weights.now N p.0 p.1 p.2 k (x - x % 4096) c.in-Some.f (s.w / 2) s.plan.now.ways within less (subst (λ y. Keyed T t e k (x - x % 4096) (rows_of (take y s.rows.now))) p.0.even keyed) c.requires.lent.rows_are p.0.even (omega (arith, found.1)) found.2 (rw (stir-is N (k * 128 + e) (omega (arith, within.place, within.train))) none)

pub served-requires : goal.served-requires
served-requires c =
    let s = c.args in
    let p = c.requires.kept in
    let within = c.requires.within in
    let T = s.plan.now.words.now in
    let t = s.turn.minute in
    let e = s.turn.place in
    let k = s.turn.train in
    let N = s.work.now.notes.now in
    let even = p.0.even in
    let less : s.w < length s.rows.now = omega (arith, p.0.within, c.if-w-rows.false) in
    let found = asked s.plan.now.words.now s.turn.minute s.turn.place s.turn.train s.w s.rows.now (Some c.in-Some.f) less c.in-Some.ensures in
    let x = get_or s.rows.now (c.in-Some.f * 2) 0 in
    let next = stirred (x - x % 4096) t _ c.in-Some.f s.w s.rows.now (Some c.in-Some-next.row) less found.1 c.in-Some-next.ensures in
    let keyed = keys T t e k s.w s.rows.now N within s.plan.now.ways p.0 less (p.2 less) c.in-Some.f found.1 found.3 in
    record {
      lent = c.requires.lent;
      within = within;
      first_lt_n = (next.1, omega (arith, less, even), unstirred T t e k (x - x % 4096) _ c.in-Some.f c.in-Some-next.row (s.w / 2) s.rows.now next.0 (omega (arith, next.1)) (omega (arith, less, even)) keyed found.2 next.2, stirs_reach (x - x % 4096) t _ (row_at s.rows.now c.in-Some-next.row) next.3);
      flagged = (p.1, whole T t e k s.w s.rows.now N within s.plan.now.ways p.0 less (p.2 less), keyed, refl);
    }

pub returns-clause-seen : goal.returns-clause-seen
returns-clause-seen c =
    let s = c.args in
    let even : s.w / 2 * 2 ≡ s.w = c.requires.kept.0.even in
    rw even at c.served.ensures.seen
