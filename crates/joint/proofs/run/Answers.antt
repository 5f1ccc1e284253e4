-- `joint::run` meets its contract: fresh memory is long enough and empty; then the first list, its minutes shown, and the minutes. Assumes nothing.
use mathlib.Core.Path.{refl, ap, sym, ◌∙◌}
use Prim.Native.Nat.{ℕ, ◌+◌}
use native.Mathlib.Omega.{arith}
use lib.ListN.{length, get_or, replicate, length-replicate}
use Rattle.theory_lists.specs.Writes.{put_length}
use Rattle.opening.specs.First.{first_rows}
use Rattle.visiting.specs.Visit.{guard}
use Rattle.entries.specs.Run.{minutes_of}
use Rattle.entries.specs.Answer.{ran-answers}
use Rattle.joint.specs.Opened.{begin-kept, begin-outcome, begin-due, cleared-flagged}
use Rattle.joint.proofs.run.Goals as goal

pub enrol-requires : goal.enrol-requires
enrol-requires c = cleared-flagged _ (length-replicate {A = ℕ} 6272 0) refl

pub minutes-requires : goal.minutes-requires
minutes-requires c =
    let s = c.args in
    let p = c.requires in
    let b = c.begin-w.ensures in
    let first = c.begin-w.new.rows in
    let enrols = c.enrol.ensures in
    let k = begin-kept s.tables.now first s.weights.now p.0 b in
    let long = put_length b in record {
      lent = record {
        rows_are = long ∙ p.0;
        tmp_long = omega (arith, long, p.1);
        met_long = omega (arith, long, p.1);
        held_long = omega (arith, long, p.1);
        entering_long = omega (arith, long, p.1);
      };
      stop_bound = p.2;
      kept = (k, enrols.flagged, begin-due s.tables.now p.3 p.4 first _ b k enrols);
    }

pub returns : goal.returns
returns c =
    let s = c.args in
    let p = c.requires in
    let b = c.begin-w.ensures in
    let m = c.minutes.ensures in
    let T = s.tables.now in
    let none = p.5 ∙ ap (λ (n : ℕ). replicate {A = ℕ} n 0) (sym (ap length p.5 ∙ length-replicate {A = ℕ} 5760 0)) in
    ran-answers (record {
      outcome = m.0
          ∙ ap (minutes_of T (s.stop + 1))
          (begin-outcome T c.begin-w.new.rows s.weights.now p.0 b ∙ ap (guard (get_or T 3 0) (first_rows T)) none);
      kept = m.1;
    })
