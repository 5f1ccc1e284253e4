-- `passing::walk` meets its contract. The invariant: both outputs have what comes of the first i rows. Assumes nothing.
use Prim.Native.Nat.{◌-◌, ◌/◌, ◌≤◌}
use lib.ListN.{length}
use Rattle.rules.specs.Lists.{each}
use Rattle.theory_lists.specs.Every.{Every}
use Rattle.rows.specs.Rows.{words, rows_in}
use Rattle.asking.specs.Ask.{stirs_of}
use Rattle.serving.specs.Pass.{hold_by, enter_by, met_in, Went, Two}
use Rattle.passing.proofs.walk.Given as goal

abbrev pub invariant-loop-j : goal.invariant-loop-j
invariant-loop-j l =
    (l.i ≤ length l.src / 2)
    × Two l.initial.rows l.d (words (each (hold_by (stirs_of l.key l.minute l.u) (met_in l.meets.cap l.meets.first l.meets.met.now)) (rows_in l.i l.src))) l.ends.place l.rows l.initial.entering 0 (each (enter_by (stirs_of l.key l.minute l.u) (met_in l.meets.cap l.meets.first l.meets.met.now)) (rows_in l.i l.src)) l.ends.entering l.entering
    × Every (λ x. Went (hold_by (stirs_of l.key l.minute l.u) (met_in l.meets.cap l.meets.first l.meets.met.now) x) (enter_by (stirs_of l.key l.minute l.u) (met_in l.meets.cap l.meets.first l.meets.met.now) x) l.ends.moved x) (rows_in l.i l.src)

abbrev pub decreases-loop-j : goal.decreases-loop-j
decreases-loop-j l = length l.src / 2 - l.i
