-- `clearing::sweep` meets its contract: where no row goes, nothing changes; else the rows before the first that goes are as they were, and those from it on are
-- closed up. Assumes nothing.
use mathlib.Core.Path.{◌≡◌, ap}
use mathlib.Core.List.{List, []}
use Prim.Native.Nat.{ℕ, ◌+◌, ◌-◌, ◌*◌, ◌/◌, ◌≤◌, ◌<◌}
use native.Mathlib.Omega.{arith}
use lib.ListN.{length, take, drop}
use Rattle.std.proofs.lemmas.List.{take-append-drop}
use Rattle.std.proofs.Common.{length-take-le}
use Rattle.rules.specs.Sweep.{first_to_go}
use Rattle.rows.specs.Rows.{rows_of, rows_in, ended_of, Swept}
use Rattle.rows.specs.Written.{rows_in-all}
use Rattle.rows.specs.Swept.{Closing, closing_none, part_of, part-long, swept_few, sweep_done}
use Rattle.waiting.specs.Notes.{Flagged}
use Rattle.clearing.specs.Clear.{Leaves}
use Rattle.clearing.specs.Clearing.{leaves_none, leaves_all}
use Rattle.clearing.proofs.sweep.Goals as goal

-- so many rows are lent
lent : (n : ℕ) (was : List ℕ) → n * 2 ≤ length was → length (take (n * 2) was) / 2 ≡ n
lent n was long = omega (arith, length-take-le (n * 2) was long)

rest : (f n : ℕ) (was : List ℕ) → f ≤ n → n * 2 ≤ length was → length (part_of f n was) / 2 ≡ n - f
rest f n was low long = omega (arith, part-long f n was low long)

-- no row goes
module _ (T : List ℕ) (t n : ℕ) (was N : List ℕ) (long : n * 2 ≤ length was) (F : Flagged N) (e : n ≡ first_to_go (λ x. ended_of t x.state) (rows_in n was)) where
  past : part_of n n was ≡ []
  past = let z : n * 2 - n * 2 ≡ 0 = omega arith in ap (λ (k : ℕ). take k (drop (n * 2) was)) z

  same : Swept t n was n was
  same =
      let z : n * 2 - n * 2 ≡ 0 = omega arith in
      let y : n - n ≡ 0 = omega arith in
      let x : n + 0 ≡ n = omega arith in
      let closed : Closing t (n - n) (part_of n n was) 0 [] = rw (y, past) (closing_none t []) in
      rw (x, z, take-append-drop (n * 2) was) at (sweep_done t n n 0 was [] long e closed)

  untold : Leaves T t (rows_in n was) N N
  unfolding rows_of
  untold =
      let y : n - n ≡ 0 = omega arith in
      leaves_all T t n n was N N long (omega arith) e (rw y (leaves_none T t N F))

pub overflow_add-result : goal.overflow_add-result
overflow_add-result c =
    let s = c.args in
    let f = c.in-Some.f in
    let inside : f < s.n = omega (arith, lent s.n s.rows.now c.requires.0, c.in-Some.ensures.found.0) in
    let part = part_of f s.n s.rows.now in
    let long = part-long f s.n s.rows.now (omega arith) (omega arith) in
    omega (arith, c.close_up-left.ensures.0.left, swept_few s.t (length part / 2) part (omega arith), long)

pub returns-in_default : goal.returns-in_default
returns-in_default c =
    let s = c.args in
    let e = rw (lent s.n s.rows.now c.requires.0) at c.in_default.ensures.absent in
    (same s.tables.now s.t s.n s.rows.now s.notes.now c.requires.0 c.requires.1 e, untold s.tables.now s.t s.n s.rows.now s.notes.now c.requires.0 c.requires.1 e)

pub returns : goal.returns
returns c =
    let s = c.args in
    let f = c.in-Some.f in
    let first = c.in-Some.ensures.found in
    let inside : f < s.n = omega (arith, lent s.n s.rows.now c.requires.0, first.0) in
    let part = part_of f s.n s.rows.now in
    let long = part-long f s.n s.rows.now (omega arith) (omega arith) in
    let few = rest f s.n s.rows.now (omega arith) (omega arith) in
    let all = rows_in-all (s.n - f) part (omega (arith, long)) (omega (arith, long)) in
    let closed = c.close_up-left in (
      sweep_done s.t s.n f closed.result s.rows.now closed.new.rows (omega arith) first.1 (rw few at closed.ensures.0),
      leaves_all s.tables.now s.t s.n f s.rows.now s.notes.now closed.new.notes (omega arith) (omega arith) first.1 (rw all closed.ensures.1),
    )
