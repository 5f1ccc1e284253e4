-- The ends of the calls, from their definitions: 14 where lent memory is too short, and otherwise what the run comes to, laid into memory.
-- Each law goes by the cases of the run's result. Assumes nothing.
use Rattle.std.specs.Prelude.{◌≡◌, Bool, true, false, ◌||◌, List, [], ℕ, ◌≤◌}
use Rattle.std.proofs.Math.Path.{refl, sym, ap}
use Rattle.std.proofs.Common.{◌∙◌, subst, arith}
use Rattle.std.proofs.Math.ListN.{length}
use borrow.Author.Tests.{le-ltb, ltb-false}
use Rattle.std.proofs.Math.Dec.{ltb}
use Rattle.rules.specs.Refusals.{nowhere, Result, refuse}
use Rattle.rules.specs.Refusals.Result.{refused, answer}
use Rattle.rules.specs.Figures as rules
use Rattle.rules.specs.Calls.{Run, stopped_run, whole_run, train_run, text_of, filled, Memory, short, Lent, lent, call, run_call, listing_call, figures_call}
use Rattle.theory_codes.specs.Tables as codes
use Rattle.out_images.specs.Rows.{Weighed}
use Rattle.out_figures.specs.declared.Figures.{Figures}
use Rattle.out_figures.specs.Answers.{figures_answer, no_figures}
use Rattle.out_figures.specs.Laws.{case-of}
use Rattle.std.specs.Prelude.{Result as Outcome, Ok, Err}
use Rattle.file_fields.specs.declared.refusals.Refusal.{Refusal}
use Rattle.laying.specs.declared.Answer.{Answer}
use Rattle.laying.specs.Told.{refusal_of, answer_to, Reached}
use Rattle.telling.specs.declared.TrainFigures.{TrainFigures}
use Rattle.laying.specs.Answers.{refused_with, answered, answer_of}
use Rattle.telling.specs.Answers.{train_figures, figures_of}
use Rattle.desk.specs.Answers.{lent_two, lent_three, Gives, GivesText}
use Rattle.laying.specs.Steps.{entries, rows_after, weights_after, InWords, Laid}

-- ---- lent memory

abbrev too_short_answer : Answer
too_short_answer = refused_with (record { number = 14; file = 0; place = 0 })

module _ (asked : ℕ) (rows weights text : List ℕ) where
  pub long : 16384 ≤ length rows → 40320 ≤ length weights → asked ≤ length text → short asked (lent_three rows weights text) ≡ false
  unfolding short
  long l m h = rw (le-ltb (length rows) 16384 l, le-ltb (length weights) 40320 m, le-ltb (length text) asked h)

-- memory that is long enough
module _ (asked : ℕ) (rows weights text : List ℕ) (h : short asked (lent_three rows weights text) ≡ false) where
  pub long-rows : 16384 ≤ length rows
  unfolding short
  long-rows = go (ltb (length rows) 16384) refl h
    where
      go : (b : Bool) → ltb (length rows) 16384 ≡ b → (b || ltb (length weights) 40320 || ltb (length text) asked) ≡ false → 16384 ≤ length rows
      go true e z = absurd (cc z)
      go false e z = ltb-false (length rows) 16384 e

  pub long-weights : 40320 ≤ length weights
  unfolding short
  long-weights = go (ltb (length rows) 16384) (ltb (length weights) 40320) refl h
    where
      go : (a b : Bool) → ltb (length weights) 40320 ≡ b → (a || b || ltb (length text) asked) ≡ false → 40320 ≤ length weights
      go true b e z = absurd (cc z)
      go false true e z = absurd (cc z)
      go false false e z = ltb-false (length weights) 40320 e

  pub long-text : asked ≤ length text
  unfolding short
  long-text = go (ltb (length rows) 16384) (ltb (length weights) 40320) (ltb (length text) asked) refl h
    where
      go : (a b d : Bool) → ltb (length text) asked ≡ d → (a || b || d) ≡ false → asked ≤ length text
      go true b d e z = absurd (cc z)
      go false true d e z = absurd (cc z)
      go false false true e z = absurd (cc z)
      go false false false e z = ltb-false (length text) asked e

module _ {A : Type 0} (asked : ℕ) (value : Run → A) (text : Run → List ℕ) (m : Memory) (U : Result Run) where
  call-short : short asked m ≡ true → call asked value text m U ≡ record { result = refuse 14 nowhere; memory = m }
  call-short h = rw (h, call)

  pub call_long : short asked m ≡ false → call asked value text m U ≡ lent asked value text m U
  call_long h = rw (h, call)

module _ {A : Type 0} (asked : ℕ) (value : Run → A) (text : Run → List ℕ) (m : Memory) where
  lent_rows : (U : Result Run) → rows_after U m.rows ≡ (lent asked value text m U).memory.rows
  lent_rows (refused r) = refl
  lent_rows (answer u) = refl

  lent-weights : (U : Result Run) → weights_after U m.weights ≡ (lent asked value text m U).memory.weights
  lent-weights (refused r) = refl
  lent-weights (answer u) = refl

-- memory too short
short_gives : {A B : Type 0} (told : Result A → B) (asked : ℕ) (value : Run → A) (text : Run → List ℕ) (m : Memory) (U : Result Run) {b : B}
    → b ≡ told (refuse 14 nowhere) → short asked m ≡ true → Gives told (call asked value text m U) b m.rows m.weights
short_gives {A} told asked value text m U q h =
    let z = call-short asked value text m U h in record {
      result = q ∙ sym (ap (λ (L : Lent A). told L.result) z);
      rows_are = sym (ap (λ (L : Lent A). L.memory.rows) z);
      weights_are = sym (ap (λ (L : Lent A). L.memory.weights) z);
    }

long-call : {A : Type 0} (asked : ℕ) (value : Run → A) (text : Run → List ℕ) (m : Memory) {U W : Result Run} → U ≡ W → short asked m ≡ false
    → lent asked value text m U ≡ call asked value text m W
long-call asked value text m {U} e h = sym (call_long asked value text m U h) ∙ ap (call asked value text m) e

-- memory long enough, with rows and weights laid
long_gives : {A B : Type 0} (told : Result A → B) (asked : ℕ) (value : Run → A) (text : Run → List ℕ) (m : Memory) {U W : Result Run} {b : B}
    {a : Answer} {tables ws rows' weights' : List ℕ} → U ≡ W → short asked m ≡ false → b ≡ told (lent asked value text m U).result
    → Laid U m.rows m.weights a tables ws rows' weights' → Gives told (call asked value text m W) b rows' weights'
long_gives {A} told asked value text m {U} e h q w =
    let z = long-call asked value text m e h in record {
      result = q ∙ ap (λ (L : Lent A). told L.result) z;
      rows_are = w.rows_are ∙ lent_rows asked value text m U ∙ ap (λ (L : Lent A). L.memory.rows) z;
      weights_are = w.weights_are ∙ lent-weights asked value text m U ∙ ap (λ (L : Lent A). L.memory.weights) z;
    }

-- ---- the run

module _ (cs bk : List ℕ) (m : ℕ) {rows weights : List ℕ} where
  pub run_short : {a : Answer} → a ≡ too_short_answer → short 0 (lent_two rows weights) ≡ true
      → Gives answer_of (run_call cs bk m (lent_two rows weights)) a rows weights
  unfolding run_call
  run_short q h = short_gives answer_of 0 (λ u. length u.state.list) (λ u. []) (lent_two rows weights) (stopped_run cs bk m) q h

  pub run-laid : {U : Result Run} {a b : Answer} {tables ws rows' weights' : List ℕ} → U ≡ stopped_run cs bk m → short 0 (lent_two rows weights) ≡ false
      → Laid U rows weights a tables ws rows' weights' → b ≡ a → Gives answer_of (run_call cs bk m (lent_two rows weights)) b rows' weights'
  unfolding run_call
  run-laid {U} e h w q = long_gives answer_of 0 (λ u. length u.state.list) (λ u. []) (lent_two rows weights) e h (q ∙ w.result ∙ result U) w
    where
      result : (W : Result Run) → answer_of (entries W) ≡ answer_of (lent 0 (λ u. length u.state.list) (λ u. []) (lent_two rows weights) W).result
      result (refused r) = refl
      result (answer u) = refl

-- ---- what the run came to, as the code has it

-- a refusal has a number
pub was_refused : {o : Outcome ℕ Refusal} {r : Refusal} → o ≡ Err r → Reached o → (answer_to o).refusal ≡ 0 → ⊥
was_refused e h z = omega (arith, (subst Reached e h).some, ap (λ (p : Outcome ℕ Refusal). (answer_to p).refusal) e)

-- and its answer
pub refusal_told : {o : Outcome ℕ Refusal} {r : Refusal} → o ≡ Err r → refused_with (refusal_of r) ≡ answer_to o
refusal_told e = sym (ap answer_to e)

pub was_answered : {o : Outcome ℕ Refusal} {n : ℕ} → o ≡ Ok n → (answer_to o).refusal ≡ 0
was_answered e = ap (λ (p : Outcome ℕ Refusal). (answer_to p).refusal) e

-- ---- an answered run

-- the run that is answered, and the words that hold it
pub record Stood (U : Result Run) (tables ws : List ℕ) : Type 0 where
  pub run : Run
  pub is : U ≡ answer run
  pub weighed : Weighed run.of run.state.arrived ws
  pub looked : tables ≡ codes.tables run.of

pub laid-stood : {U : Result Run} {rows weights : List ℕ} {a : Answer} {tables ws rows' weights' : List ℕ}
    → Laid U rows weights a tables ws rows' weights' → a.refusal ≡ 0 → Stood U tables ws
laid-stood {U} {a = a} {tables} {ws} h z = go U h.result h.words
  where
    go : (W : Result Run) → a ≡ answer_of (entries W) → InWords W tables ws → Stood W tables ws
    go (refused r) q w = absurd (omega (arith, ap (λ (b : Answer). b.refusal) q))
    go (answer u) q w = record { run = u; is = refl; weighed = w.0; looked = w.1 }

-- ---- the listing

module _ (cs bk : List ℕ) {rows weights : List ℕ} (text : List ℕ) where
  pub listing-short : {a : Answer} → a ≡ too_short_answer → short 32768 (lent_three rows weights text) ≡ true
      → GivesText answer_of (listing_call cs bk (lent_three rows weights text)) a rows weights text
  unfolding listing_call
  listing-short q h = record {
    two = short_gives answer_of 32768 (λ u. length (text_of u)) text_of (lent_three rows weights text) (whole_run cs bk) q h;
    text_is = sym (ap (λ (L : Lent ℕ). L.memory.text) (call-short 32768 (λ u. length (text_of u)) text_of (lent_three rows weights text) (whole_run cs bk) h));
  }

  module _ {U : Result Run} {a : Answer} {tables ws rows' weights' : List ℕ} (e : U ≡ whole_run cs bk) (h : short 32768 (lent_three rows weights text) ≡ false)
      (w : Laid U rows weights a tables ws rows' weights') where
    gives : {b : Answer} {text' : List ℕ} → b ≡ answer_of (lent 32768 (λ u. length (text_of u)) text_of (lent_three rows weights text) U).result
        → text' ≡ (lent 32768 (λ u. length (text_of u)) text_of (lent_three rows weights text) U).memory.text
        → GivesText answer_of (listing_call cs bk (lent_three rows weights text)) b rows' weights' text'
    unfolding listing_call
    gives q t = record {
      two = long_gives answer_of 32768 (λ u. length (text_of u)) text_of (lent_three rows weights text) e h q w;
      text_is = t ∙ ap (λ (L : Lent ℕ). L.memory.text) (long-call 32768 (λ u. length (text_of u)) text_of (lent_three rows weights text) e h);
    }

    -- refused, the text is cleared
    pub listing-refused : {b : Answer} {text' : List ℕ} → (a.refusal ≡ 0 → ⊥) → b ≡ a → text' ≡ filled 32768 [] text
        → GivesText answer_of (listing_call cs bk (lent_three rows weights text)) b rows' weights' text'
    listing-refused {b} {text'} some told t = go U refl w.result
      where
        go : (W : Result Run) → U ≡ W → a ≡ answer_of (entries W) → GivesText answer_of (listing_call cs bk (lent_three rows weights text)) b rows' weights' text'
        go (refused r) p q =
            gives (told ∙ q ∙ ap (λ (W : Result Run). answer_of (lent 32768 (λ u. length (text_of u)) text_of (lent_three rows weights text) W).result) (sym p))
            (t ∙ ap (λ (W : Result Run). (lent 32768 (λ u. length (text_of u)) text_of (lent_three rows weights text) W).memory.text) (sym p))
        go (answer u) p q = absurd (some (ap (λ (b : Answer). b.refusal) q))

    -- answered, it is printed
    pub listing-printed : (s : Stood U tables ws) {b : Answer} {text' : List ℕ}
        → (b ≡ answered (length (text_of s.run))) × (text' ≡ filled 32768 (text_of s.run) text)
        → GivesText answer_of (listing_call cs bk (lent_three rows weights text)) b rows' weights' text'
    listing-printed s z =
        gives (z.0 ∙ ap (λ (W : Result Run). answer_of (lent 32768 (λ u. length (text_of u)) text_of (lent_three rows weights text) W).result) (sym s.is))
        (z.1 ∙ ap (λ (W : Result Run). (lent 32768 (λ u. length (text_of u)) text_of (lent_three rows weights text) W).memory.text) (sym s.is))

-- ---- the figures

abbrev figures_on : ℕ → ℕ → Run → rules.Figures
figures_on k L u = rules.figures u.of u.state.arrived k L

-- the program's figures of an answered call are those of 01, as its answer has them
figures-told : (f : rules.Figures) → train_figures (answered 0) (figures_answer f) ≡ figures_of (answer f)
figures-told f = rw (case-of f.punctuality)

module _ (cs bk : List ℕ) (k L : ℕ) {rows weights : List ℕ} where
  pub figures-short : {a : Answer} {z : TrainFigures} → a ≡ too_short_answer → z ≡ train_figures a no_figures → short 0 (lent_two rows weights) ≡ true
      → Gives figures_of (figures_call cs bk k L (lent_two rows weights)) z rows weights
  unfolding figures_call
  figures-short q r h = short_gives figures_of 0 (figures_on k L) (λ u. []) (lent_two rows weights) (train_run cs bk k) (r ∙ ap (λ (a : Answer). train_figures a no_figures) q) h

  module _ {U : Result Run} {a : Answer} {tables ws rows' weights' : List ℕ} (e : U ≡ train_run cs bk k) (h : short 0 (lent_two rows weights) ≡ false)
      (w : Laid U rows weights a tables ws rows' weights') where
    gives_figures : {z : TrainFigures} → z ≡ figures_of (lent 0 (figures_on k L) (λ u. []) (lent_two rows weights) U).result
        → Gives figures_of (figures_call cs bk k L (lent_two rows weights)) z rows' weights'
    unfolding figures_call
    gives_figures q = long_gives figures_of 0 (figures_on k L) (λ u. []) (lent_two rows weights) e h q w

    pub figures-refused : {z : TrainFigures} → (a.refusal ≡ 0 → ⊥) → z ≡ train_figures a no_figures
        → Gives figures_of (figures_call cs bk k L (lent_two rows weights)) z rows' weights'
    figures-refused {z} some t = go U refl w.result
      where
        go : (W : Result Run) → U ≡ W → a ≡ answer_of (entries W) → Gives figures_of (figures_call cs bk k L (lent_two rows weights)) z rows' weights'
        go (refused r) p q =
            gives_figures (t ∙ ap (λ (b : Answer). train_figures b no_figures) q
            ∙ ap (λ (W : Result Run). figures_of (lent 0 (figures_on k L) (λ u. []) (lent_two rows weights) W).result) (sym p))
        go (answer u) p q = absurd (some (ap (λ (b : Answer). b.refusal) q))

    pub figures-answered : (s : Stood U tables ws) {f : Figures} {z : TrainFigures} → f ≡ figures_answer (figures_on k L s.run) → z ≡ train_figures (answered 0) f
        → Gives figures_of (figures_call cs bk k L (lent_two rows weights)) z rows' weights'
    figures-answered s {f} {z} q t =
        gives_figures (t
        ∙ ap (train_figures (answered 0)) q
        ∙ figures-told (figures_on k L s.run)
        ∙ ap (λ (W : Result Run). figures_of (lent 0 (figures_on k L) (λ u. []) (lent_two rows weights) W).result) (sym s.is))
