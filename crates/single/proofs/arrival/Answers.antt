-- `single::arrival` meets its contract: the run of the choice to the last minute, and the minute that stands in its words. Assumes nothing.
use mathlib.Core.Path.{◌≡◌, ap, ◌∙◌}
use mathlib.Core.List.{List}
use Prim.Native.Nat.{ℕ, ◌+◌, ◌-◌, ◌≤◌}
use Rattle.std.specs.Prelude.{Option, Some, None, SomeIff, unwrap_or}
use Rattle.std.proofs.lemmas.Grind.{common_steps}
use native.Mathlib.Omega.{arith}
use lib.ListN.{get_or}
use Rattle.moving.specs.Words.{ran_in}
use Rattle.single_laws.specs.Trail.{left-first}
use Rattle.single_laws.specs.Runs.{Reads, ran-arrives}
use Rattle.single.proofs.arrival.Goals as goal

-- the word that is read
reads : (T x u : List ℕ) (k stop after : ℕ) → stop ≡ get_or T 1 0 → u ≡ ran_in T x stop → after ≡ get_or u (16 + k) 0
    → after ≡ get_or (ran_in T x (get_or T 1 0)) (16 + k) 0
reads T x u k stop after last ran read =
    read ∙ ap (λ (l : List ℕ). get_or l (16 + k) 0) ran ∙ ap (λ (m : ℕ). get_or (ran_in T x m) (16 + k) 0) last

-- one less than the word, where it is not 0
word-minute : (w v r : ℕ) (o : Option ℕ) → v ≡ w → SomeIff o (1 ≤ v) (v - 1) → r ≡ unwrap_or o 65535 → Reads w r
word-minute w v r None word sub read = record { none = λ h. grind (arith, common_steps); some = λ h. grind (arith, common_steps) }
word-minute w v r (Some x) word sub read = record { none = λ h. grind (arith, common_steps); some = λ h. grind (arith, common_steps) }

pub run_to-requires : goal.run_to-requires
run_to-requires c =
    let p = c.requires in
    (p.0, omega (arith, c.at-stop.ensures, p.2), left-first c.args.tables.now)

pub returns-clause-case : goal.returns-clause-case
returns-clause-case c =
    let a = c.args in
    let word = reads a.tables.now a.choice.now _ a.k c.at-stop.result c.at.result c.at-stop.ensures c.run_to.ensures.words c.at.ensures in
    ran-arrives a.tables.now a.choice.now a.k c.unwrap_or.result (word-minute _ c.at.result c.unwrap_or.result c.checked_sub.result word c.checked_sub.ensures c.unwrap_or.ensures)
