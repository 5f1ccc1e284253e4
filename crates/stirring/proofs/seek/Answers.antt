-- `stirring::seek` meets its contract: few rows are asked; of many the first that is reached is the first that asks, and where no place leads there nobody asks.
-- Assumes nothing.
use mathlib.Core.Path.{◌≡◌, refl, ap, sym, ◌∙◌}
use mathlib.Core.Bool.{Bool, true, false}
use mathlib.Core.List.{List}
use Prim.Native.Nat.{ℕ, ◌+◌, ◌*◌, ◌/◌, ◌%◌, ◌≤◌, ◌<◌}
use native.Mathlib.Omega.{arith}
use lib.ListN.{length, get_or}
use Rattle.std.specs.Prelude.{Option, Some, None}
use Rattle.theory_lists.specs.Every.{Every, every_more}
use Rattle.rows.specs.Rows.{Row, rows_of, rows_in}
use Rattle.rows.specs.Written.{rows_in-all}
use Rattle.asking.specs.Ask.{asks_of, reach_of, Found, Before}
use Rattle.asking.specs.Asking.{asking}
use Rattle.visiting.specs.Visit.{Placed, Keyed}
use Rattle.visiting.specs.Keys.{keyed, found-reached}
use Rattle.stirring.proofs.seek.Goals as goal

-- where no place of the train leads to the element, no row that stands at a place asks
nowhere : (T : List ℕ) (t e k : ℕ) (l : List Row) → Before T k e 66 → Placed l → Every (λ x. asks_of T t e k x.state ≡ false) l
nowhere T t e k l b placed =
    every_more (λ r. (r.state / 524288 < 8) × (r.state / 4096 % 128 ≤ 65)) (λ r. asks_of T t e k r.state ≡ false) (λ r h. go r.state h.1 (asks_of T t e k r.state) refl) l placed
  where
    go : (s : ℕ) → s / 4096 % 128 ≤ 65 → (b : Bool) → asks_of T t e k s ≡ b → b ≡ false
    go s near false z = refl
    go s near true z =
        let a = asking T t e k s z in
        let same : s / 4096 ≡ k * 128 + s / 4096 % 128 = omega (arith, a.train) in
        absurd (b.first (s / 4096 % 128) (omega (arith, near)) (ap (λ (x : ℕ). get_or T (240 + x) 0) (sym same) ∙ a.next))

-- the first row that is reached is the first that asks
found_asks : (T : List ℕ) (t e k key n : ℕ) (rows : List ℕ) (r : Option ℕ) → n * 2 ≤ length rows → Keyed T t e k key (rows_in n rows) → Found (λ x b. reach_of key t x.state ≡ b) 0 n rows r
    → Found (λ x b. asks_of T t e k x.state ≡ b) 0 n rows r
found_asks T t e k key n rows None long keys f =
    (found-reached T t e k key n n rows (omega arith) long keys f (λ m. absurd (omega arith))).0
found_asks T t e k key n rows (Some j) long keys f =
    let g = found-reached T t e k key j n rows (omega (arith, f.1)) long keys f.2 (λ m. f.3) in
    (f.0, f.1, g.0, g.1 f.1)

placed_in : (rows : List ℕ) → Placed (rows_of rows) → Placed (rows_in (length rows / 2) rows)
placed_in rows p = rw (rows_in-all (length rows / 2) rows (omega arith) (omega arith)) p

pub returns-in_err-p : goal.returns-in_err-p
returns-in_err-p c =
    let s = c.args in
    let p = c.requires in
    let r = c.from_residual.ensures in
    let e = c.in_err-p.ensures in
    rw r (nowhere s.tables.now s.turn.minute s.turn.place s.turn.train (rows_in (length s.rows.now / 2) s.rows.now) e (placed_in s.rows.now p.2))

pub overflow_mul-p : goal.overflow_mul-p
overflow_mul-p c = let e = c.in_ok-p.ensures in record { fits = omega (arith, e.0) }

pub first_reached-requires : goal.first_reached-requires
first_reached-requires c =
    let p = c.requires in
    let e = c.in_ok-p.ensures in
    (omega (arith, p.0.train, e.0), omega (arith, p.0.minute))

pub returns : goal.returns
returns c =
    let s = c.args in
    let p = c.requires in
    let n : ℕ = length s.rows.now / 2 in
    let keys = keyed s.tables.now s.turn.minute s.turn.place s.turn.train c.in_ok-p.p p.1 p.0 (rows_in n s.rows.now) c.in_ok-p.ensures.1 (placed_in s.rows.now p.2) in
    found_asks s.tables.now s.turn.minute s.turn.place s.turn.train (s.turn.train * 524288 + c.in_ok-p.p * 4096) n s.rows.now c.first_reached.result (omega arith) keys c.first_reached.ensures
