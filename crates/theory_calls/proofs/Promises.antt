-- Of the demands over the calls: the figures are counted over choices, and the run is refused 12 exactly where the list counts as full. Assumes nothing.
use Rattle.std.specs.Prelude.{◌≡◌, Bool, true, false, cond, ◌↔◌, List, [], ℕ, length, ltb}
use Rattle.std.proofs.Common.{ap, ◌∙◌, arith}
use Rattle.rules.specs.Refusals.Result.{answer}
use Rattle.rules.specs.Turns.{State}
use Rattle.rules.specs.Joint.{Entry}
use Rattle.rules.specs.Calls.{Run, stopped_run, train_run, Memory, run_call}
use Rattle.rules.specs.Figures.{figures}
use Rattle.rules.specs.Promised.{counted_figures, late_stop, RefusedWith, Full}
use Rattle.theory_sound.specs.Runs.{train-answer}
use Rattle.theory_calls.specs.Decided.{stopped_decided}
use Rattle.theory_calls.specs.Promises.{call-full}
use Rattle.theory_calls.proofs.Counted.{figures-counted}

-- the figures are all counted over choices
pub figures_are : (cs bk : List ℕ) (k : ℕ) (u : Run) → train_run cs bk k ≡ answer u → (L : ℕ) → figures u.of u.state.arrived k L ≡ counted_figures u.of k L
figures_are cs bk k u e L =
    let a = (train-answer cs bk k u e).0 in
    ap (λ (s : State Entry). figures u.of s.arrived k L) a.state ∙ figures-counted cs bk u.of a.accepted k L

-- the run to minute t
pub run-full : (cs bk : List ℕ) (t : ℕ) (m : Memory) → RefusedWith 12 (run_call cs bk t m).result ↔ Full 0 m cs bk (late_stop t) (λ C. t)
unfolding run_call
run-full cs bk t m =
    call-full 0 (λ u. length u.state.list) (λ u. []) m cs bk (late_stop t) (λ C. t) (λ C. other (ltb C.head.last_minute t)) (stopped_run cs bk t) (stopped_decided cs bk t)
  where
    other : (b : Bool) → ◌≡◌ {A = ℕ} (cond b 17 0) 12 → ⊥
    other true h = omega arith
    other false h = omega arith
