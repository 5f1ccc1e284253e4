-- What it means that a run was answered, or refused: the files, the arguments and the room, in this order. Each law takes the definition of a call apart
-- by the first result that decides it. Assumes nothing.
use Rattle.std.specs.Prelude.{◌≡◌, List, [], ◌∷◌, ℕ, ◌≤◌, ◌<◌, length, leb, ltb}
use Rattle.std.proofs.Common.{sym, ap, ◌∙◌, subst, arith, ltb-false, leb-false}
use Rattle.rules.specs.Refusals.{Rule, ◌when◌, verdict, nowhere, judged}
use Rattle.rules.specs.Refusals.Fault.{no_train, stop_too_late}
use Rattle.rules.specs.Refusals.Result.{answer}
use Rattle.rules.specs.Files.{Case, files}
use Rattle.rules.specs.Joint.{joint}
use Rattle.rules.specs.Calls.{case_for, no_such_train, Run, run_to, stopped_run, whole_run, train_run}
use Rattle.theory_sound.specs.Verdicts.{then-answer, unless_answer, Unbroken, verdict-unbroken}

-- the files were accepted, and the run went to minute m and met no refusal
pub record Answered (cs bk : List ℕ) (m : ℕ) (u : Run) : Type 0 where
  pub accepted : files cs bk ≡ answer u.of
  pub in_window : m ≤ u.of.head.last_minute
  pub unrefused : (joint u.of m).met ≡ 0
  pub state : u.state ≡ joint u.of m

-- a run to minute m that was answered
run-answer : (m : ℕ) (C : Case) (u : Run) → run_to m C ≡ answer u → (C ≡ u.of) × ((joint C m).met ≡ 0) × (u.state ≡ joint C m)
run-answer m C u e =
    let parts = unless_answer (joint C m).met nowhere (record { of = C; state = joint C m }) u e in
    (ap (λ (r : Run). r.of) parts.1, parts.0, sym (ap (λ (r : Run). r.state) parts.1))

answered : (cs bk : List ℕ) (m : ℕ) (C : Case) (u : Run) → files cs bk ≡ answer C → m ≤ C.head.last_minute → run_to m C ≡ answer u → Answered cs bk m u
answered cs bk m C u f l e =
    let parts = run-answer m C u e in
    record {
      accepted = f ∙ ap (λ (D : Case). answer D) parts.0;
      in_window = subst (λ (D : Case). m ≤ D.head.last_minute) parts.0 l;
      unrefused = subst (λ (D : Case). (joint D m).met ≡ 0) parts.0 parts.1;
      state = parts.2 ∙ ap (λ (D : Case). joint D m) parts.0;
    }

-- a case with arguments that were accepted: no rule of theirs is broken
case_for_lem : (cs bk : List ℕ) (arguments : Case → List Rule) (C : Case) → case_for cs bk arguments ≡ answer C → (files cs bk ≡ answer C) × Unbroken (arguments C)
case_for_lem cs bk arguments C e =
    let parts = then-answer (files cs bk) (λ D. judged (arguments D) nowhere D) C e in
    let rest = unless_answer (verdict (arguments parts.0)) nowhere parts.0 C parts.2 in
    (parts.1 ∙ ap (λ (D : Case). answer D) rest.1, subst (λ (D : Case). Unbroken (arguments D)) rest.1 (verdict-unbroken (arguments parts.0) rest.0))

pub stopped-answer : (cs bk : List ℕ) (m : ℕ) (u : Run) → stopped_run cs bk m ≡ answer u → Answered cs bk m u
unfolding stopped_run
stopped-answer cs bk m u e =
    let arguments : Case → List Rule = λ C. stop_too_late when ltb C.head.last_minute m ∷ [] in
    let parts = then-answer (case_for cs bk arguments) (run_to m) u e in
    let C = parts.0 in
    let sound = case_for_lem cs bk arguments C parts.1 in
    answered cs bk m C u sound.0 (ltb-false C.head.last_minute m sound.1.0) parts.2

pub whole-answer : (cs bk : List ℕ) (u : Run) → whole_run cs bk ≡ answer u → Answered cs bk u.of.head.last_minute u
unfolding whole_run
whole-answer cs bk u e =
    let parts = then-answer (files cs bk) (λ C. run_to C.head.last_minute C) u e in
    subst (λ (m : ℕ). Answered cs bk m u) (ap (λ (D : Case). D.head.last_minute) (run-answer parts.0.head.last_minute parts.0 u parts.2).0)
    (answered cs bk parts.0.head.last_minute parts.0 u parts.1 (omega arith) parts.2)

pub train-answer : (cs bk : List ℕ) (k : ℕ) (u : Run) → train_run cs bk k ≡ answer u → Answered cs bk u.of.head.last_minute u × (k < length u.of.trains)
unfolding train_run no_such_train
train-answer cs bk k u e =
    let arguments : Case → List Rule = λ C. no_train when leb (length C.trains) k ∷ [] in
    let parts = then-answer (case_for cs bk arguments) (λ C. run_to C.head.last_minute C) u e in
    let C = parts.0 in
    let sound = case_for_lem cs bk arguments C parts.1 in
    let same = (run-answer C.head.last_minute C u parts.2).0 in (
      subst (λ (m : ℕ). Answered cs bk m u) (ap (λ (D : Case). D.head.last_minute) same) (answered cs bk C.head.last_minute C u sound.0 (omega arith) parts.2),
      subst (λ (D : Case). k < length D.trains) same (leb-false (length C.trains) k sound.1.0),
    )
