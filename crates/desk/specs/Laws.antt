-- What the files and the arguments of a call come to, and the run after them. Each law goes by the cases of a result. Assumes nothing.
use Rattle.std.specs.Prelude.{◌≡◌, Bool, List, ℕ, ◌≤◌, length}
use Rattle.std.proofs.Math.Path.{refl, ap}
use Rattle.std.proofs.Common.{sym, ◌∙◌, subst, arith, ltb-false}
use Rattle.std.proofs.Math.Bool.{true, false}
use Rattle.std.proofs.Math.Dec.{leb, ltb}
use Rattle.rules.specs.Refusals.{Refusal, Result, then}
use Rattle.rules.specs.Refusals.Result.{refused, answer}
use Rattle.rules.specs.Files.{Case, files, word}
use Rattle.rules.specs.Calls.{run_to, no_such_train, stopped_run, whole_run, train_run}
use Rattle.theory_sound.specs.Places.{Told}
use Rattle.theory_sound.proofs.Places.{files-told}
use Rattle.file_lookup.specs.Told.{Files}
use Rattle.file_lookup.specs.Answers.{files_of}
use Rattle.file_arguments.specs.Arguments.{for_train, for_stop}
use Rattle.file_arguments.specs.Laws.{minute_agrees}
use Rattle.laying.specs.Steps.{Fits, Start, run_of}

-- ---- the files and the arguments

told-fits : (r : Refusal) → Told r → Fits r.number r.file r.place
told-fits r t = record {
  some = t.given.0;
  number = omega (arith, t.of_files.most);
  file = omega (arith, t.two_files);
  place = omega (arith, t.in_reach);
}

module _ (cs bk : List ℕ) where
  -- a result that is a refusal, or the files' case of which P holds
  pub data Judged (P : Case → Type 0) (R : Result Case) : Type 0 where
    stopped : (r : Refusal) → Fits r.number r.file r.place → R ≡ refused r → Judged P R
    goes : (C : Case) → files cs bk ≡ answer C → P C → R ≡ answer C → Judged P R

  pub refused-files : {P : Case → Type 0} {R : Result Case} (r : Refusal) → files cs bk ≡ refused r → R ≡ refused r → Judged P R
  refused-files r e q = stopped r (told-fits r (files-told cs bk r e)) q

  abbrev pub In : ℕ → Case → Type 0
  In m C = m ≤ C.head.last_minute

  judged-starts : {m : ℕ} {R : Result Case} → Judged (In m) R → Start cs bk m (files_of R)
  judged-starts {m} {R} (stopped r h q) = subst (λ (A : Result Case). Start cs bk m (files_of A)) (sym q) h
  judged-starts {m} {R} (goes C e h q) =
      subst (λ (A : Result Case). Start cs bk m (files_of A)) (sym q) (record { of = C; accepted = e; sizes = refl; within = h })

  judged_runs : {m : ℕ} {R : Result Case} → Judged (In m) R → run_of cs bk m (files_of R) ≡ then R (run_to m)
  judged_runs {m} {R} (stopped r h q) = ap (λ (A : Result Case). run_of cs bk m (files_of A)) q ∙ sym (ap (λ (A : Result Case). then A (run_to m)) q)
  judged_runs {m} {R} (goes C e h q) =
      ap (λ (A : Result Case). run_of cs bk m (files_of A)) q
      ∙ ap (λ (A : Result Case). then A (run_to m)) e
      ∙ sym (ap (λ (A : Result Case). then A (run_to m)) q)

  pub argument_fits : (n : ℕ) → 1 ≤ n → n ≤ 17 → Fits n 0 0
  argument_fits n p q = record { some = p; number = omega arith; file = omega arith; place = omega arith }

  -- ---- the run to a stop minute

  pub stop-judged : (m : ℕ) → Judged (In m) (for_stop cs bk m)
  unfolding for_stop
  stop-judged m = go (files cs bk) refl
    where
      late : (C : Case) → files cs bk ≡ answer C → (b : Bool) → ltb C.head.last_minute m ≡ b → Judged (In m) (for_stop cs bk m)
      late C e true h = stopped (record { number = 17; file = 0; place = 0 }) (argument_fits 17 (omega arith) (omega arith)) (rw (e, h))
      late C e false h = goes C e (ltb-false C.head.last_minute m h) (rw (e, h))

      go : (R : Result Case) → files cs bk ≡ R → Judged (In m) (for_stop cs bk m)
      go (refused r) e = refused-files r e (rw e)
      go (answer C) e = late C e (ltb C.head.last_minute m) refl

  stop-run : (m : ℕ) → then (for_stop cs bk m) (run_to m) ≡ stopped_run cs bk m
  unfolding for_stop stopped_run
  stop-run m = refl

  -- ---- the run over the whole window, from the last minute in the head's bytes

  whole-judged : Judged (In (word cs 3)) (files cs bk)
  whole-judged = go (files cs bk) refl
    where
      go : (R : Result Case) → files cs bk ≡ R → Judged (In (word cs 3)) (files cs bk)
      go (refused r) e = refused-files r e e
      go (answer C) e = goes C e (omega (arith, minute_agrees cs bk C e)) e

  whole_run_lem : then (files cs bk) (run_to (word cs 3)) ≡ whole_run cs bk
  unfolding whole_run
  whole_run_lem = go (files cs bk) refl
    where
      go : (R : Result Case) → files cs bk ≡ R → then R (run_to (word cs 3)) ≡ then R (λ C. run_to C.head.last_minute C)
      go (refused r) e = refl
      go (answer C) e = ap (λ (m : ℕ). run_to m C) (minute_agrees cs bk C e)

  train-judged : (k : ℕ) → Judged (In (word cs 3)) (for_train cs bk k)
  unfolding for_train no_such_train
  train-judged k = go (files cs bk) refl
    where
      none : (C : Case) → files cs bk ≡ answer C → (b : Bool) → leb (length C.trains) k ≡ b → Judged (In (word cs 3)) (for_train cs bk k)
      none C e true h = stopped (record { number = 16; file = 0; place = 0 }) (argument_fits 16 (omega arith) (omega arith)) (rw (e, h))
      none C e false h = goes C e (omega (arith, minute_agrees cs bk C e)) (rw (e, h))

      go : (R : Result Case) → files cs bk ≡ R → Judged (In (word cs 3)) (for_train cs bk k)
      go (refused r) e = refused-files r e (rw e)
      go (answer C) e = none C e (leb (length C.trains) k) refl

  train-run : (k : ℕ) → then (for_train cs bk k) (run_to (word cs 3)) ≡ train_run cs bk k
  unfolding for_train train_run
  train-run k = go (train-judged k)
    where
      go : Judged (In (word cs 3)) (for_train cs bk k) → then (for_train cs bk k) (run_to (word cs 3)) ≡ then (for_train cs bk k) (λ C. run_to C.head.last_minute C)
      go (stopped r h q) = rw q
      go (goes C e h q) = rw q (ap (λ (m : ℕ). run_to m C) (minute_agrees cs bk C e))

  -- ---- from what the code was told

  module _ {f : Files} where
    pub stop-starts : (m : ℕ) → f ≡ files_of (for_stop cs bk m) → Start cs bk m f
    stop-starts m e = subst (Start cs bk m) (sym e) (judged-starts (stop-judged m))

    pub stop_runs : (m : ℕ) → f ≡ files_of (for_stop cs bk m) → run_of cs bk m f ≡ stopped_run cs bk m
    stop_runs m e = ap (run_of cs bk m) e ∙ judged_runs (stop-judged m) ∙ stop-run m

    pub whole-starts : {m : ℕ} → m ≡ word cs 3 → f ≡ files_of (files cs bk) → Start cs bk m f
    whole-starts {m} q e = subst (λ (n : ℕ). Start cs bk n f) (sym q) (subst (Start cs bk (word cs 3)) (sym e) (judged-starts whole-judged))

    pub whole_runs : {m : ℕ} → m ≡ word cs 3 → f ≡ files_of (files cs bk) → run_of cs bk m f ≡ whole_run cs bk
    whole_runs {m} q e = ap (λ (n : ℕ). run_of cs bk n f) q ∙ ap (run_of cs bk (word cs 3)) e ∙ judged_runs whole-judged ∙ whole_run_lem

    pub train-starts : {m : ℕ} → m ≡ word cs 3 → (k : ℕ) → f ≡ files_of (for_train cs bk k) → Start cs bk m f
    train-starts {m} q k e = subst (λ (n : ℕ). Start cs bk n f) (sym q) (subst (Start cs bk (word cs 3)) (sym e) (judged-starts (train-judged k)))

    pub train_runs : {m : ℕ} → m ≡ word cs 3 → (k : ℕ) → f ≡ files_of (for_train cs bk k) → run_of cs bk m f ≡ train_run cs bk k
    train_runs {m} q k e = ap (λ (n : ℕ). run_of cs bk n f) q ∙ ap (run_of cs bk (word cs 3)) e ∙ judged_runs (train-judged k) ∙ train-run k
