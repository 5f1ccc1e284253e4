-- `file_ways::start_row` meets its contract: the whole row, and then its end, has one value. Assumes nothing.
use native.Mathlib.Omega.{arith}
use mathlib.Core.Path.{◌≡◌, ◌∙◌, ap, sym}
use Rattle.std.proofs.Common.{rules}
use mathlib.Core.List.{◌++◌}
use Prim.Native.Nat.{ℕ, ◌-◌}
use lib.ListN.{length, replicate}
use Rattle.file_tables.specs.Fills.{flat_all}
use Rattle.file_tables.specs.Walks.{row-start, row-none, first_of}
use Rattle.file_ways.proofs.start_row.Goals as goal

pub returns-then-n-gt0 : goal.returns-then-n-gt0
returns-then-n-gt0 c =
    let l = c.fill.new.self in
    let e : l ≡ replicate (length c.args.row.now) 127 = search rules in
    let r = (flat_all l c.args.row.now 128 127 e (omega arith)).0 in
    row-start l c.args.row.now c.byte.result (length l - 65) _ e (omega arith) (search rules) (omega arith)
    ∙ ap (λ (v : ℕ). replicate 65 127 ++ replicate 63 v) (c.byte.ensures.0 ∙ sym (first_of c.args.case.now c.args.n c.args.i c.if-n-gt0.true))

pub returns-else-n-gt0 : goal.returns-else-n-gt0
returns-else-n-gt0 c = row-none _ c.fill.new.self c.args.row.now c.args.n _ (search rules) (omega arith) (omega arith)
