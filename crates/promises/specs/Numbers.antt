-- The numbers that refused calls answer: never 0, which says that a call was answered, and never 13, which is retired; for all files, arguments and memory.
-- A call is refused for its memory, the files, its arguments or the room, each with a number of the table. Assumes nothing.
use Rattle.std.specs.Prelude.{◌≡◌, Bool, true, false, cond, List, [], ℕ, ◌≤◌, leb, ltb}
use Rattle.std.proofs.Common.{sym, ap, ◌∙◌, subst, arith}
use Rattle.std.proofs.Math.Option.{Option}
use Rattle.std.proofs.Math.ListN.{length}
use Rattle.rules.specs.Refusals.{Refusal, Result}
use Rattle.rules.specs.Refusals.Fault.{no_room, too_short, wrong_choice, no_train, stop_too_late}
use Rattle.rules.specs.Refusals.Result.{refused, answer}
use Rattle.rules.specs.Files.{Case}
use Rattle.rules.specs.Figures.{Figures, figures}
use Rattle.rules.specs.Viewer.{View, viewed}
use Rattle.rules.specs.Viewer.View.{field, ended, overruns}
use Rattle.rules.specs.Calls.{Run, Memory, Lent, text_bytes, text_of, call, single_run, stopped_run, whole_run, train_run, run_call, listing_call, figures_call}
use Rattle.rules.specs.Answers.{view_answer}
use Rattle.rules.specs.Promised.{refusal_of, late_stop, missing_train}
use Rattle.theory_sound.proofs.Places.{files-told}
use Rattle.theory_sound.specs.Verdicts.{refused-answer, refused-refused, Given, number-given}
use Rattle.theory_calls.specs.Decided.{Decided, stopped_decided, whole_decided, train_decided, SingleDecided, single_decided}
use Rattle.theory_calls.specs.Decided.{Decided as runs, SingleDecided as singles}
use Rattle.theory_calls.specs.Promises.{Comes, call_comes, Comes as comes}
use Rattle.laying.specs.declared.Answer.{Answer}
use Rattle.telling.specs.declared.TrainFigures.{TrainFigures}
use Rattle.desk.specs.declared.Viewed.{Viewed}
use Rattle.laying.specs.Answers.{answer_of}
use Rattle.telling.specs.Answers.{figures_of}
use Rattle.desk.specs.Answers.{single_answer, lent_two, lent_three, SingleGives, RunGives, ListingGives, FiguresGives, FieldGives}

-- ---- the definitions

-- the result is no refusal, or one with a number that a refusal can have
abbrev pub Numbered : {A : Type 0} → Result A → Type 0
Numbered (refused r) = Given r.number
Numbered (answer a) = Unit

-- ---- what decides a run

argument_given : (n : ℕ) → Given n → (b : Bool) → 1 ≤ cond b n 0 → Given (cond b n 0)
argument_given n g true h = g
argument_given n g false h = absurd (omega arith)

decided_given : (cs bk : List ℕ) (arguments stop : Case → ℕ) → ((C : Case) → 1 ≤ arguments C → Given (arguments C)) → (r : Result Run)
    → Decided cs bk arguments stop r → (f : Refusal) → r ≡ refused f → Given f.number
decided_given cs bk arguments stop given r d f e = go d
  where
    number_is : (g : Refusal) → r ≡ refused g → Given g.number → Given f.number
    number_is g q h = subst (λ (z : Refusal). Given z.number) (refused-refused g f (sym q ∙ e)) h

    go : Decided cs bk arguments stop r → Given f.number
    go (runs.by_files g a q) = number_is g q (files-told cs bk g a).given
    go (runs.by_arguments C a b q) = number_is (refusal_of (arguments C)) q (given C b)
    go (runs.by_room C a b p q) = number_is (refusal_of 12) q (number-given no_room)
    go (runs.by_run C a b p q) = absurd (refused-answer f _ (sym e ∙ q))

-- ---- the calls

call_numbered : {A : Type 0} (asked : ℕ) (value : Run → A) (text : Run → List ℕ) (m : Memory) (r : Result Run)
    → ((f : Refusal) → r ≡ refused f → Given f.number) → Numbered (call asked value text m r).result
call_numbered {A} asked value text m r h = go (call_comes asked value text m r)
  where
    go : {l : Lent A} → Comes asked value text m r l → Numbered l.result
    go (comes.short_of s q) = subst (λ (z : Lent A). Numbered z.result) (sym q) (number-given too_short)
    go (comes.refused_for f s e q) = subst (λ (z : Lent A). Numbered z.result) (sym q) (h f e)
    go (comes.answered_by u s e q) = subst (λ (z : Lent A). Numbered z.result) (sym q) tt

module _ (cs bk : List ℕ) where
  pub run_numbered : (t : ℕ) (m : Memory) → Numbered (run_call cs bk t m).result
  unfolding run_call
  run_numbered t m =
      call_numbered 0 (λ u. length u.state.list) (λ u. []) m (stopped_run cs bk t)
      (decided_given cs bk (late_stop t) (λ C. t) (λ C. argument_given 17 (number-given stop_too_late) (ltb C.head.last_minute t)) (stopped_run cs bk t)
      (stopped_decided cs bk t))

  pub listing_numbered : (m : Memory) → Numbered (listing_call cs bk m).result
  unfolding listing_call
  listing_numbered m =
      call_numbered text_bytes (λ u. length (text_of u)) text_of m (whole_run cs bk)
      (decided_given cs bk (λ C. 0) (λ C. C.head.last_minute) (λ C h. absurd (omega arith)) (whole_run cs bk) (whole_decided cs bk))

  pub figures_numbered : (k L : ℕ) (m : Memory) → Numbered (figures_call cs bk k L m).result
  unfolding figures_call
  figures_numbered k L m =
      call_numbered 0 (λ u. figures u.of u.state.arrived k L) (λ u. []) m (train_run cs bk k)
      (decided_given cs bk (missing_train k) (λ C. C.head.last_minute) (λ C. argument_given 16 (number-given no_train) (leb (length C.trains) k)) (train_run cs bk k)
      (train_decided cs bk k))

  pub single_numbered : (x : List ℕ) (k : ℕ) → Numbered (single_run cs bk x k)
  single_numbered x k = go (single_decided cs bk x k)
    where
      go : SingleDecided cs bk x k (single_run cs bk x k) → Numbered (single_run cs bk x k)
      go (singles.by_files f a q) = subst Numbered (sym q) (files-told cs bk f a).given
      go (singles.by_choice C a c q) = subst Numbered (sym q) (number-given wrong_choice)
      go (singles.by_train C a c l q) = subst Numbered (sym q) (number-given no_train)
      go (singles.by_run C a c l q) = subst Numbered (sym q) tt

-- ---- no exported function answers refusal 13: whatever the files, the arguments and the memory, and at every stop minute

answer-never : (r : Result ℕ) → Numbered r → (answer_of r).refusal ≡ 13 → ⊥
answer-never (refused f) h e = h.1 e
answer-never (answer v) h e = omega arith

single-never : (r : Result (Option ℕ)) → Numbered r → (single_answer r).refusal ≡ 13 → ⊥
single-never (refused f) h e = h.1 e
single-never (answer o) h e = omega arith

figures-never : (r : Result Figures) → Numbered r → (figures_of r).refusal ≡ 13 → ⊥
figures-never (refused f) h e = h.1 e
figures-never (answer v) h e = omega arith

pub single-never_13 : (cs bk x : List ℕ) (k : ℕ) {a : Answer} → SingleGives cs bk x k a → a.refusal ≡ 13 → ⊥
single-never_13 cs bk x k g e = single-never (single_run cs bk x k) (single_numbered cs bk x k) (sym (ap (λ (b : Answer). b.refusal) g) ∙ e)

pub run-never_13 : (cs bk : List ℕ) (stop : ℕ) (rows weights : List ℕ) {a : Answer} {rows' weights' : List ℕ} → RunGives cs bk stop rows weights a rows' weights'
    → a.refusal ≡ 13 → ⊥
run-never_13 cs bk stop rows weights g e =
    answer-never (run_call cs bk stop (lent_two rows weights)).result (run_numbered cs bk stop (lent_two rows weights))
    (sym (ap (λ (b : Answer). b.refusal) g.result) ∙ e)

pub listing-never_13 : (cs bk rows weights text : List ℕ) {a : Answer} {rows' weights' text' : List ℕ} → ListingGives cs bk rows weights text a rows' weights' text'
    → a.refusal ≡ 13 → ⊥
listing-never_13 cs bk rows weights text g e =
    answer-never (listing_call cs bk (lent_three rows weights text)).result (listing_numbered cs bk (lent_three rows weights text))
    (sym (ap (λ (b : Answer). b.refusal) g.two.result) ∙ e)

pub figures-never_13 : (cs bk : List ℕ) (k L : ℕ) (rows weights : List ℕ) {a : TrainFigures} {rows' weights' : List ℕ} → FiguresGives cs bk k L rows weights a rows' weights'
    → a.refusal ≡ 13 → ⊥
figures-never_13 cs bk k L rows weights g e =
    figures-never (figures_call cs bk k L (lent_two rows weights)).result (figures_numbered cs bk k L (lent_two rows weights))
    (sym (ap (λ (b : TrainFigures). b.refusal) g.result) ∙ e)

-- the field viewer knows refusal 1 alone
pub field-never_13 : (l : List ℕ) (i : ℕ) {a : Viewed} → FieldGives l i a → a.refusal ≡ 13 → ⊥
field-never_13 l i {a} g e = go (viewed l i) (sym (ap (λ (b : Viewed). b.refusal) g) ∙ e)
  where
    go : (v : View) → (view_answer i v).refusal ≡ 13 → ⊥
    go (field tag size end) h = omega arith
    go ended h = omega arith
    go overruns h = omega arith
