-- The three demands over the exported functions: what each returns and what lent memory holds afterwards. It is the file to open first.
-- Each theorem takes what the function ensures (`RunGives` and its like are the `ensures` of crates/desk/src/lib.rt) of any files, arguments and memory; the bytes of
-- the files are bytes, as those of every slice are. Each proof cites the crates below. Assumes nothing.
use Rattle.std.specs.Prelude.{◌≡◌, refl, ◌↔◌, ℕ, ◌≤◌, ◌<◌, take}
use Rattle.std.proofs.Common.{sym, ◌∙◌, arith}
use Rattle.std.proofs.Math.Path.{ap, subst}
use mathlib.Core.List.{List, []}
use Rattle.std.proofs.Math.Option.{Option, none, some}
use Rattle.std.proofs.Math.ListN.{length}
use Rattle.rules.specs.Refusals.{Refusal, Result}
use Rattle.rules.specs.Refusals.Result.{refused, answer}
use Rattle.rules.specs.Files.{Case, files}
use Rattle.rules.specs.Single.{arrival}
use Rattle.rules.specs.Joint.{joint}
use Rattle.rules.specs.Listing.{listing}
use Rattle.rules.specs.Figures.{plan, Figures, figures}
use Rattle.rules.specs.Calls.{Lent, text_bytes, text_of, short, single_run, stopped_run, whole_run, train_run, run_call, listing_call, figures_call}
use Rattle.theory_sound.proofs.Accepted.{accepted-sound}
use Rattle.rules.specs.Demands.{Choice}
use Rattle.rules.specs.Promised.{Outcome, Answers, Cleared, Meant, TextMeant, counted_listing, counted_figures, refusal_of, late_stop, missing_train, RefusedWith, Full, Bytes}
use Rattle.theory_calls.specs.Decided.{stopped_decided, whole_decided, train_decided, SingleDecided, single_decided}
use Rattle.theory_calls.specs.Decided.{SingleDecided as singles}
use Rattle.theory_calls.specs.Counted.{listing-counted}
use Rattle.theory_calls.proofs.Counted.{figures-counted}
use Rattle.theory_calls.specs.Promises.{listing_full, figures-full, handed-single, handed-run, handed-part, handed-figures}
use Rattle.theory_calls.proofs.Promises.{run-full}
use Rattle.theory_calls.specs.Plan.{arrival-plan, arrival-window}
use Rattle.out_listing.specs.Suffices.{listing-suffices}
use Rattle.laying.specs.declared.Answer.{Answer}
use Rattle.telling.specs.declared.TrainFigures.{TrainFigures}
use Rattle.laying.specs.Answers.{refused_with, answered, answer_of}
use Rattle.telling.specs.Answers.{figures_of}
use Rattle.desk.specs.Answers.{single_answer, lent_two, lent_three, Gives, GivesText, SingleGives, RunGives, ListingGives, FiguresGives}
use Rattle.promises.specs.Outcomes.{call-outcome, outcome-told, outcome-answers, filled-cleared, text_meant, run-answered, gives_same, gives_cleared, gives_meant, stop_in_lem}

-- ---- the single run

-- what `lampreysong_single` answers for a choice and a train
pub data SinglePromise (cs bk x : List ℕ) (k : ℕ) (a : Answer) : Type 0 where
  -- the first refusal of the files
  refuses_files : (f : Refusal) → files cs bk ≡ refused f → a ≡ refused_with f → SinglePromise cs bk x k a
  -- 15: the choice has a wrong count, or an index past its train's table
  refuses_choice : (C : Case) → files cs bk ≡ answer C → (Choice C x → ⊥) → a ≡ refused_with (refusal_of 15) → SinglePromise cs bk x k a
  -- 16: there is no such train
  refuses_train : (C : Case) → files cs bk ≡ answer C → Choice C x → length C.trains ≤ k → a ≡ refused_with (refusal_of 16) → SinglePromise cs bk x k a
  -- the minute in which the single run brings the train to its last station: of the window, and not before plan
  arrives : (C : Case) → files cs bk ≡ answer C → Choice C x → k < length C.trains → (t : ℕ) → arrival C x k ≡ some t → plan C k ≤ t → t ≤ C.head.last_minute
      → a ≡ answered t → SinglePromise cs bk x k a
  -- 65,535 where it brings it there in no minute up to T
  stays_out : (C : Case) → files cs bk ≡ answer C → Choice C x → k < length C.trains → arrival C x k ≡ none → a ≡ answered 65535 → SinglePromise cs bk x k a

pub single_promise : (cs bk x : List ℕ) (k : ℕ) {a : Answer} → SingleGives cs bk x k a → SinglePromise cs bk x k a
single_promise cs bk x k {a} g = go (single_decided cs bk x k)
  where
    told : {r : Result (Option ℕ)} → single_run cs bk x k ≡ r → a ≡ single_answer r
    told q = g ∙ ap single_answer q

    came : (C : Case) → files cs bk ≡ answer C → Choice C x → k < length C.trains → (o : Option ℕ) → arrival C x k ≡ o → a ≡ single_answer (answer o) → SinglePromise cs bk x k a
    came C e c l none q r = stays_out C e c l q r
    came C e c l (some t) q r = arrives C e c l t q (arrival-plan cs bk C e x k t q) (arrival-window cs bk C e x k t q) r

    go : SingleDecided cs bk x k (single_run cs bk x k) → SinglePromise cs bk x k a
    go (singles.by_files f e q) = refuses_files f e (told q)
    go (singles.by_choice C e c q) = refuses_choice C e c (told q)
    go (singles.by_train C e c l q) = refuses_train C e c l (told q)
    go (singles.by_run C e c l q) = came C e c l (arrival C x k) refl (told q)

-- ---- the run, the listing and the figures, for files of bytes

module _ (cs bk : List ℕ) where
  -- what `lampreysong_run` to minute `stop` answers: the number of entries; the rows are those of demand 3 and the weights those of demand 2
  abbrev pub RunAnswer : ℕ → List ℕ → List ℕ → Answer → List ℕ → List ℕ → Case → Type 0
  RunAnswer stop rows weights a rows' weights' C =
      (a ≡ answered (length (joint C stop).list)) × Meant C stop (length (joint C stop).list) rows weights rows' weights'

  -- refused 14, it touches nothing; refused otherwise, it tells the refusal, and the memory required is 0
  abbrev pub RunPromise : ℕ → List ℕ → List ℕ → Answer → List ℕ → List ℕ → Type 0
  RunPromise stop rows weights a rows' weights' =
      Outcome cs bk (short 0 (lent_two rows weights)) (late_stop stop) (λ C. stop)
      ((a ≡ refused_with (refusal_of 14)) × (rows' ≡ rows) × (weights' ≡ weights))
      (λ f. (a ≡ refused_with f) × (1 ≤ f.number) × Cleared 16384 rows rows' × Cleared 40320 weights weights')
      (RunAnswer stop rows weights a rows' weights')

  -- what `lampreysong_listing` answers: the number of bytes of the text, and the text is the listing counted over the choices; 32,768 bytes always suffice
  abbrev pub ListingAnswer : List ℕ → List ℕ → List ℕ → Answer → List ℕ → List ℕ → List ℕ → Case → Type 0
  ListingAnswer rows weights text a rows' weights' text' C =
      (a ≡ answered (length (counted_listing C))) × TextMeant (counted_listing C) text text'
      × Meant C C.head.last_minute (length (joint C C.head.last_minute).list) rows weights rows' weights'

  -- refused, as the run is, with the text
  abbrev pub ListingPromise : List ℕ → List ℕ → List ℕ → Answer → List ℕ → List ℕ → List ℕ → Type 0
  ListingPromise rows weights text a rows' weights' text' =
      Outcome cs bk (short text_bytes (lent_three rows weights text)) (λ C. 0) (λ C. C.head.last_minute)
      ((a ≡ refused_with (refusal_of 14)) × (rows' ≡ rows) × (weights' ≡ weights) × (text' ≡ text))
      (λ f. (a ≡ refused_with f) × (1 ≤ f.number) × Cleared 16384 rows rows' × Cleared 40320 weights weights' × Cleared 32768 text text')
      (ListingAnswer rows weights text a rows' weights' text')

  -- what `lampreysong_figures` of train k for a limit of L minutes answers: the figures counted over the choices, of which none brings the train in before plan
  abbrev pub FiguresAnswer : ℕ → ℕ → List ℕ → List ℕ → TrainFigures → List ℕ → List ℕ → Case → Type 0
  FiguresAnswer k L rows weights a rows' weights' C =
      (a ≡ figures_of (answer (counted_figures C k L))) × ((x : List ℕ) (t : ℕ) → arrival C x k ≡ some t → plan C k ≤ t)
      × Meant C C.head.last_minute (length (joint C C.head.last_minute).list) rows weights rows' weights'

  -- refused, as the run is, and all figures are 0
  abbrev pub FiguresPromise : ℕ → ℕ → List ℕ → List ℕ → TrainFigures → List ℕ → List ℕ → Type 0
  FiguresPromise k L rows weights a rows' weights' =
      Outcome cs bk (short 0 (lent_two rows weights)) (missing_train k) (λ C. C.head.last_minute)
      ((a ≡ figures_of (refused (refusal_of 14))) × (rows' ≡ rows) × (weights' ≡ weights))
      (λ f. (a ≡ figures_of (refused f)) × (1 ≤ f.number) × Cleared 16384 rows rows' × Cleared 40320 weights weights')
      (FiguresAnswer k L rows weights a rows' weights')

  module _ (p : Bytes cs) (q : Bytes bk) where
    pub run_promise : (stop : ℕ) (rows weights : List ℕ) {a : Answer} {rows' weights' : List ℕ} → RunGives cs bk stop rows weights a rows' weights'
        → RunPromise stop rows weights a rows' weights'
    unfolding run_call
    run_promise stop rows weights g =
        outcome-told
        (gives_same answer_of (lent_two rows weights) g)
        (gives_cleared answer_of (lent_two rows weights) g 0)
        (λ C e b r. gives_meant answer_of (lent_two rows weights) g cs bk p q C e stop (stop_in_lem stop C b) r 0 (length (joint C stop).list) (λ u. []))
        (call-outcome 0 (λ u. length u.state.list) (λ u. []) (lent_two rows weights) cs bk (late_stop stop) (λ C. stop) (stopped_run cs bk stop) (stopped_decided cs bk stop))

    pub listing_promise : (rows weights text : List ℕ) {a : Answer} {rows' weights' text' : List ℕ} → ListingGives cs bk rows weights text a rows' weights' text'
        → ListingPromise rows weights text a rows' weights' text'
    unfolding listing_call text_of
    listing_promise rows weights text {text' = text'} g =
        outcome-told
        (λ z. let s = gives_same answer_of (lent_three rows weights text) g.two z in (s.0, s.1, s.2, g.text_is ∙ ap (λ (l : Lent ℕ). l.memory.text) z))
        (λ f n z.
        let s = gives_cleared answer_of (lent_three rows weights text) g.two 32768 f n z in
        (s.0, s.1, s.2, s.3, subst (Cleared 32768 text) (sym (g.text_is ∙ ap (λ (l : Lent ℕ). l.memory.text) z)) (filled-cleared 32768 text)))
        (λ C e b r z.
        let m = gives_meant answer_of (lent_three rows weights text) g.two cs bk p q C e C.head.last_minute (omega arith) r 32768
        (length (listing C (joint C C.head.last_minute).arrived)) text_of z in
        let l = listing-counted cs bk C e in (
          m.0 ∙ ap (λ (t : List ℕ). answered (length t)) l,
          subst (λ (t : List ℕ). TextMeant t text text') l
              (text_meant (listing C (joint C C.head.last_minute).arrived) text (g.text_is ∙ ap (λ (l : Lent ℕ). l.memory.text) z)
              (listing-suffices C (accepted-sound cs bk C e) (run-answered cs bk p q C e C.head.last_minute (omega arith) r).unrefused)),
          m.1,
        ))
        (call-outcome 32768 (λ u. length (text_of u)) text_of (lent_three rows weights text) cs bk (λ C. 0) (λ C. C.head.last_minute) (whole_run cs bk) (whole_decided cs bk))

    pub figures_promise : (k L : ℕ) (rows weights : List ℕ) {a : TrainFigures} {rows' weights' : List ℕ} → FiguresGives cs bk k L rows weights a rows' weights'
        → FiguresPromise k L rows weights a rows' weights'
    unfolding figures_call
    figures_promise k L rows weights g =
        outcome-told
        (gives_same figures_of (lent_two rows weights) g)
        (gives_cleared figures_of (lent_two rows weights) g 0)
        (λ C e b r z.
        let m = gives_meant figures_of (lent_two rows weights) g cs bk p q C e C.head.last_minute (omega arith) r 0 (figures C (joint C C.head.last_minute).arrived k L) (λ u. []) z in
        (m.0 ∙ ap (λ f. figures_of (answer f)) (figures-counted cs bk C e k L), λ x t. arrival-plan cs bk C e x k t, m.1))
        (call-outcome 0 (λ u. figures u.of u.state.arrived k L) (λ u. []) (lent_two rows weights) cs bk (missing_train k) (λ C. C.head.last_minute) (train_run cs bk k)
        (train_decided cs bk k))

    -- an answer whose refusal is 0 is that of an answered call
    pub run-answers : (stop : ℕ) (rows weights : List ℕ) {a : Answer} {rows' weights' : List ℕ} → RunGives cs bk stop rows weights a rows' weights' → a.refusal ≡ 0
        → Answers cs bk (late_stop stop) (λ C. stop) (RunAnswer stop rows weights a rows' weights')
    run-answers stop rows weights g z =
        outcome-answers (λ s. omega (arith, ap (λ (b : Answer). b.refusal) s.0)) (λ f s. omega (arith, ap (λ (b : Answer). b.refusal) s.0, s.1))
        (run_promise stop rows weights g)

    pub listing-answers : (rows weights text : List ℕ) {a : Answer} {rows' weights' text' : List ℕ} → ListingGives cs bk rows weights text a rows' weights' text'
        → a.refusal ≡ 0 → Answers cs bk (λ C. 0) (λ C. C.head.last_minute) (ListingAnswer rows weights text a rows' weights' text')
    listing-answers rows weights text g z =
        outcome-answers (λ s. omega (arith, ap (λ (b : Answer). b.refusal) s.0)) (λ f s. omega (arith, ap (λ (b : Answer). b.refusal) s.0, s.1))
        (listing_promise rows weights text g)

    pub figures-answers : (k L : ℕ) (rows weights : List ℕ) {a : TrainFigures} {rows' weights' : List ℕ} → FiguresGives cs bk k L rows weights a rows' weights'
        → a.refusal ≡ 0 → Answers cs bk (missing_train k) (λ C. C.head.last_minute) (FiguresAnswer k L rows weights a rows' weights')
    figures-answers k L rows weights g z =
        outcome-answers (λ s. omega (arith, ap (λ (b : TrainFigures). b.refusal) s.0)) (λ f s. omega (arith, ap (λ (b : TrainFigures). b.refusal) s.0, s.1))
        (figures_promise k L rows weights g)

-- ---- refusal 12, exactly by the stated cutting rule

-- an answer's refusal is n, which is not 0, exactly where the call is refused with n
number_with : (n : ℕ) → 1 ≤ n → (r : Result ℕ) → ((answer_of r).refusal ≡ n) ↔ RefusedWith n r
number_with n h (refused f) = (λ e. e, λ e. e)
number_with n h (answer v) = (λ e. omega arith, λ e. absurd e)

figures_with : (n : ℕ) → 1 ≤ n → (r : Result Figures) → ((figures_of r).refusal ≡ n) ↔ RefusedWith n r
figures_with n h (refused f) = (λ e. e, λ e. e)
figures_with n h (answer v) = (λ e. omega arith, λ e. absurd e)

pub run_room : (cs bk : List ℕ) (stop : ℕ) (rows weights : List ℕ) {a : Answer} {rows' weights' : List ℕ} → RunGives cs bk stop rows weights a rows' weights'
    → (a.refusal ≡ 12) ↔ Full 0 (lent_two rows weights) cs bk (late_stop stop) (λ C. stop)
run_room cs bk stop rows weights g =
    let r = (run_call cs bk stop (lent_two rows weights)).result in
    let e = ap (λ (b : Answer). b.refusal) g.result in
    let w = number_with 12 (omega arith) r in
    let f = run-full cs bk stop (lent_two rows weights) in
    (λ h. f.0 (w.0 (sym e ∙ h)), λ h. e ∙ w.1 (f.1 h))

pub listing-room : (cs bk rows weights text : List ℕ) {a : Answer} {rows' weights' text' : List ℕ} → ListingGives cs bk rows weights text a rows' weights' text'
    → (a.refusal ≡ 12) ↔ Full text_bytes (lent_three rows weights text) cs bk (λ C. 0) (λ C. C.head.last_minute)
listing-room cs bk rows weights text g =
    let r = (listing_call cs bk (lent_three rows weights text)).result in
    let e = ap (λ (b : Answer). b.refusal) g.two.result in
    let w = number_with 12 (omega arith) r in
    let f = listing_full cs bk (lent_three rows weights text) in
    (λ h. f.0 (w.0 (sym e ∙ h)), λ h. e ∙ w.1 (f.1 h))

pub figures-room : (cs bk : List ℕ) (k L : ℕ) (rows weights : List ℕ) {a : TrainFigures} {rows' weights' : List ℕ} → FiguresGives cs bk k L rows weights a rows' weights'
    → (a.refusal ≡ 12) ↔ Full 0 (lent_two rows weights) cs bk (missing_train k) (λ C. C.head.last_minute)
figures-room cs bk k L rows weights g =
    let r = (figures_call cs bk k L (lent_two rows weights)).result in
    let e = ap (λ (b : TrainFigures). b.refusal) g.result in
    let w = figures_with 12 (omega arith) r in
    let f = figures-full cs bk k L (lent_two rows weights) in
    (λ h. f.0 (w.0 (sym e ∙ h)), λ h. e ∙ w.1 (f.1 h))

-- ---- the first 4,096 bytes of a file decide: what a function gives for them is what it gives for all

pub single-handed : (cs bk x : List ℕ) (k : ℕ) {a : Answer} → SingleGives (take 4096 cs) (take 4096 bk) x k a → SingleGives cs bk x k a
single-handed cs bk x k g = g ∙ ap single_answer (handed-single cs bk x k)

pub run-handed : (cs bk : List ℕ) (stop : ℕ) (rows weights : List ℕ) {a : Answer} {rows' weights' : List ℕ}
    → RunGives (take 4096 cs) (take 4096 bk) stop rows weights a rows' weights' → RunGives cs bk stop rows weights a rows' weights'
run-handed cs bk stop rows weights g = rw (handed-run cs bk stop (lent_two rows weights)) at g

pub listing-handed : (cs bk rows weights text : List ℕ) {a : Answer} {rows' weights' text' : List ℕ}
    → ListingGives (take 4096 cs) (take 4096 bk) rows weights text a rows' weights' text' → ListingGives cs bk rows weights text a rows' weights' text'
listing-handed cs bk rows weights text g = rw (handed-part cs bk (lent_three rows weights text)) at g

pub figures-handed : (cs bk : List ℕ) (k L : ℕ) (rows weights : List ℕ) {a : TrainFigures} {rows' weights' : List ℕ}
    → FiguresGives (take 4096 cs) (take 4096 bk) k L rows weights a rows' weights' → FiguresGives cs bk k L rows weights a rows' weights'
figures-handed cs bk k L rows weights g = rw (handed-figures cs bk k L (lent_two rows weights)) at g

-- ---- nothing is left open: of one call there is one answer, and one memory after it

pub gives_once : {A B : Type 0} {told : Result A → B} {l : Lent A} {a b : B} {rows weights rows' weights' : List ℕ}
    → Gives told l a rows weights → Gives told l b rows' weights' → (a ≡ b) × (rows ≡ rows') × (weights ≡ weights')
gives_once g h = (g.result ∙ sym h.result, g.rows_are ∙ sym h.rows_are, g.weights_are ∙ sym h.weights_are)

pub gives_text-once : {A B : Type 0} {told : Result A → B} {l : Lent A} {a b : B} {rows weights text rows' weights' text' : List ℕ}
    → GivesText told l a rows weights text → GivesText told l b rows' weights' text' → text ≡ text'
gives_text-once g h = g.text_is ∙ sym h.text_is
