-- What a call comes to, and that memory filled with the images of an answered run means what is promised.
-- The outcome follows what decides a run; the meaning follows from reading the images back. Assumes nothing.
use Rattle.std.specs.Prelude.{◌≡◌, refl, Bool, true, false, ℕ, ◌-◌, ◌*◌, ◌^◌, ◌≤◌, ◌<◌, ltb}
use Rattle.std.proofs.Common.{sym, ◌∙◌, subst, arith, ltb-false}
use Rattle.std.proofs.Math.Path.{ap}
use Rattle.std.proofs.Math.Bool.{cond}
use mathlib.Core.List.{List, [], ◌++◌, append_assoc}
use Rattle.std.proofs.Math.ListN.{length, take, drop, replicate, length-append, length-replicate}
use Rattle.std.proofs.Math.Seq.{take-append_seam, drop-append_seam, take_at, drop_at}
use Rattle.rules.specs.Lists.{each, any}
use Rattle.rules.specs.Refusals.{Refusal, Result}
use Rattle.rules.specs.Refusals.Result.{refused, answer}
use Rattle.rules.specs.Files.{most_trains, Case, files}
use Rattle.rules.specs.Joint.{weight, joint, weight_at}
use Rattle.rules.specs.Calls.{Run, Memory, Lent, call, short, filled, row_image, weights_image, rows_bytes, weights_bytes}
use Rattle.theory_sound.proofs.Accepted.{accepted-sound}
use Rattle.theory_sound.proofs.Places.{files-told}
use Rattle.theory_sound.specs.Runs.{Answered}
use Rattle.rules.specs.Demands.{view}
use Rattle.rules.specs.Decoded.{entries_in, weight_in}
use Rattle.rules.specs.Promised.{Outcome, Answers, Cleared, Unused, Meant, TextMeant, Outcome as outcome, refusal_of, full, late_stop, Bytes}
use Rattle.theory_trace.specs.Room.{room-askers, list-fits}
use Rattle.theory_weights.specs.Most.{none_heavy}
use Rattle.theory_demands.specs.Demands.{demand_3, demand_2, demand_2_later, entries-light}
use Rattle.theory_calls.specs.Memory.{cleared, written, call-short, call-refused, call-answered}
use Rattle.theory_calls.specs.Decided.{Decided}
use Rattle.theory_calls.specs.Decided.{Decided as decided}
use Rattle.desk.specs.Answers.{Gives}
use Rattle.promises.specs.Images.{length-rows, entries_in_lem, length-weights, image_in}
use Rattle.promises.specs.Shown.{list-shown, run_weighable}

-- ---- what a call comes to

-- the joint run of a case to a minute
abbrev pub run_at : Case → ℕ → Run
run_at C m = record { of = C; state = joint C m }

pub call-outcome : {A : Type 0} (asked : ℕ) (value : Run → A) (text : Run → List ℕ) (m : Memory) (cs bk : List ℕ) (arguments stop : Case → ℕ) (r : Result Run)
    → Decided cs bk arguments stop r
    → Outcome cs bk (short asked m) arguments stop (call asked value text m r ≡ record { result = refused (refusal_of 14); memory = m })
    (λ f. call asked value text m r ≡ record { result = refused f; memory = cleared asked m })
    (λ C. call asked value text m r ≡ record { result = answer (value (run_at C (stop C))); memory = written asked text (run_at C (stop C)) m })
call-outcome asked value text m cs bk arguments stop r d = go (short asked m) refl d
  where
    go : (b : Bool) → short asked m ≡ b → Decided cs bk arguments stop r
        → Outcome cs bk (short asked m) arguments stop (call asked value text m r ≡ record { result = refused (refusal_of 14); memory = m })
        (λ f. call asked value text m r ≡ record { result = refused f; memory = cleared asked m })
        (λ C. call asked value text m r ≡ record { result = answer (value (run_at C (stop C))); memory = written asked text (run_at C (stop C)) m })
    go true h d = outcome.lacks_memory h (call-short asked value text m r h)
    go false h (decided.by_files f e q) = outcome.refuses_files h f e (call-refused asked value text m r f h q)
    go false h (decided.by_arguments C e b q) = outcome.refuses_arguments h C e b (call-refused asked value text m r (refusal_of (arguments C)) h q)
    go false h (decided.by_room C e b p q) = outcome.refuses_room h C e b p (call-refused asked value text m r (refusal_of 12) h q)
    go false h (decided.by_run C e b p q) = outcome.answers h C e b p (call-answered asked value text m r (run_at C (stop C)) h q)

-- what is said of each outcome may be said otherwise
pub outcome-told : {cs bk : List ℕ} {lacks : Bool} {arguments stop : Case → ℕ} {S T : Type 0} {R Q : Refusal → Type 0} {A B : Case → Type 0}
    → (S → T) → ((f : Refusal) → 1 ≤ f.number → R f → Q f) → ((C : Case) → files cs bk ≡ answer C → arguments C ≡ 0 → full C (stop C) ≡ false → A C → B C)
    → Outcome cs bk lacks arguments stop S R A → Outcome cs bk lacks arguments stop T Q B
outcome-told s r a (outcome.lacks_memory h z) = outcome.lacks_memory h (s z)
outcome-told {cs} {bk} s r a (outcome.refuses_files h f e z) = outcome.refuses_files h f e (r f (files-told cs bk f e).given.0 z)
outcome-told s r a (outcome.refuses_arguments h C e b z) = outcome.refuses_arguments h C e b (r _ b z)
outcome-told s r a (outcome.refuses_room h C e b p z) = outcome.refuses_room h C e b p (r (refusal_of 12) (omega arith) z)
outcome-told s r a (outcome.answers h C e b p z) = outcome.answers h C e b p (a C e b p z)

-- a call that neither lacks memory nor is refused is answered
pub outcome-answers : {cs bk : List ℕ} {lacks : Bool} {arguments stop : Case → ℕ} {S : Type 0} {R : Refusal → Type 0} {A : Case → Type 0}
    → (S → ⊥) → ((f : Refusal) → R f → ⊥) → Outcome cs bk lacks arguments stop S R A → Answers cs bk arguments stop A
outcome-answers s r (outcome.lacks_memory h z) = absurd (s z)
outcome-answers s r (outcome.refuses_files h f e z) = absurd (r f z)
outcome-answers s r (outcome.refuses_arguments h C e b z) = absurd (r _ z)
outcome-answers s r (outcome.refuses_room h C e b p z) = absurd (r (refusal_of 12) z)
outcome-answers s r (outcome.answers h C e b p z) = record { of = C; accepted = e; sound = b; fits = p; said = z }

-- ---- memory

module _ (n : ℕ) (image before : List ℕ) where
  -- memory filled with an image begins with it
  pub filled-starts : take (length image) (filled n image before) ≡ image
  unfolding filled
  filled-starts =
      ap (take (length image)) (append_assoc image (replicate {A = ℕ} (n - length image) 0) (drop n before))
      ∙ take-append_seam image (replicate {A = ℕ} (n - length image) 0 ++ drop n before)

  -- the rest of it is unused
  pub filled-unused : length image ≤ n → Unused n (length image) before (filled n image before)
  unfolding filled
  filled-unused h = record {
    zeros =
        ap (λ (l : List ℕ). take (n - length image) (drop (length image) l)) (append_assoc image (replicate {A = ℕ} (n - length image) 0) (drop n before))
        ∙ ap (take (n - length image)) (drop-append_seam image (replicate {A = ℕ} (n - length image) 0 ++ drop n before))
        ∙ take_at (replicate {A = ℕ} (n - length image) 0) (drop n before) (n - length image) (length-replicate {A = ℕ} (n - length image) 0);
    past =
        drop_at (image ++ replicate {A = ℕ} (n - length image) 0) (drop n before) n
        (omega (arith, length-append image (replicate {A = ℕ} (n - length image) 0), length-replicate {A = ℕ} (n - length image) 0));
  }

pub filled-cleared : (n : ℕ) (before : List ℕ) → Cleared n before (filled n [] before)
filled-cleared n before =
    let u = filled-unused n [] before (omega arith) in
    let all : n - 0 ≡ n = omega arith in
    record { zeros = subst (λ (i : ℕ). take i (filled n [] before) ≡ replicate i 0) all u.zeros; past = u.past }

pub text_meant : (printed text : List ℕ) {text' : List ℕ} → text' ≡ filled 32768 printed text → length printed ≤ 32768 → TextMeant printed text text'
text_meant printed text e h =
    subst (TextMeant printed text) (sym e) (record { starts = filled-starts 32768 printed text; unused = filled-unused 32768 printed text h })

-- ---- the meaning of an answered run's memory

module _ (cs bk : List ℕ) (p : Bytes cs) (q : Bytes bk) (C : Case) (accepted : files cs bk ≡ answer C) (m : ℕ) (in_window : m ≤ C.head.last_minute)
    (room : full C m ≡ false) where
  unrefused : (joint C m).met ≡ 0
  unfolding full
  unrefused = room-askers C m ∙ ap (λ (b : Bool). cond b 12 0) room

  pub run-answered : Answered cs bk m (run_at C m)
  run-answered = record { accepted = accepted; in_window = in_window; unrefused = unrefused; state = refl }

  rows_say : (before : List ℕ) → entries_in (length (joint C m).list) (filled rows_bytes (each row_image (joint C m).list) before) ≡ (joint C m).list
  unfolding filled
  rows_say before =
      ap (entries_in (length (joint C m).list))
      (append_assoc (each row_image (joint C m).list) (replicate {A = ℕ} (rows_bytes - length (each row_image (joint C m).list)) 0) (drop rows_bytes before))
      ∙ entries_in_lem (joint C m).list (list-shown cs bk p q m (run_at C m) run-answered)
      (replicate {A = ℕ} (rows_bytes - length (each row_image (joint C m).list)) 0 ++ drop rows_bytes before)

  weights_say : (before : List ℕ) (k t : ℕ) → k < most_trains → t < 720 → weight_in (filled weights_bytes (weights_image (run_at C m)) before) k t ≡ weight_at C (joint C m).arrived k t
  unfolding filled weights_image
  weights_say before k t l h =
      ap (λ (z : List ℕ). weight_in z k t)
      (append_assoc (weights_image (run_at C m)) (replicate {A = ℕ} (weights_bytes - length (weights_image (run_at C m))) 0) (drop weights_bytes before))
      ∙ image_in (weight_at C (joint C m).arrived) (run_weighable cs bk m (run_at C m) run-answered) k t l h
      (replicate {A = ℕ} (weights_bytes - length (weights_image (run_at C m))) 0 ++ drop weights_bytes before)

  -- rows and weights filled with the run's images mean what is promised
  pub memory_meant : {n : ℕ} {rows weights rows' weights' : List ℕ} → n ≡ length (joint C m).list → rows' ≡ filled rows_bytes (each row_image (joint C m).list) rows
      → weights' ≡ filled weights_bytes (weights_image (run_at C m)) weights → Meant C m n rows weights rows' weights'
  memory_meant {n} {rows} {weights} {rows'} {weights'} size r w =
      let says : entries_in n rows' ≡ (joint C m).list = rw (size, r) (rows_say rows) in
      let few : length (joint C m).list ≤ C.head.room = list-fits C m unrefused m (omega arith) in
      let long : length (each row_image (joint C m).list) ≡ n * 16 =
      omega (arith, length-rows (joint C m).list (list-shown cs bk p q m (run_at C m) run-answered)) in
      let unused : Unused 16384 (length (each row_image (joint C m).list)) rows (filled rows_bytes (each row_image (joint C m).list) rows) =
      filled-unused 16384 (each row_image (joint C m).list) rows (omega (arith, (accepted-sound cs bk C accepted).in_room)) in
      record {
        entries = says;
        seen = λ x c. ap (view x) says ∙ (demand_3 cs bk C accepted x c m).list;
        simulates = λ x c t l. demand_3 cs bk C accepted x c t;
        fits = omega arith;
        light = ap (any (λ r. ltb (10 ^ 14) (weight C r.cover))) says ∙ none_heavy C (joint C m).list (entries-light cs bk C accepted m).0;
        rows_unused = rw r (rw long at unused);
        weighs = λ k t l h. rw w (weights_say weights k t l (omega (arith, (accepted-sound cs bk C accepted).in_window)) ∙ demand_2 cs bk C accepted m in_window k t h);
        later = λ k t l h s. rw w (weights_say weights k t l s ∙ demand_2_later cs bk C accepted m k t h);
        weights_past = rw w (filled-unused 40320 (weights_image (run_at C m)) weights (omega (arith, length-weights (run_at C m)))).past;
      }

-- ---- what a function gives, by the outcome of its call

module _ {A B : Type 0} (told : Result A → B) (m : Memory) {l : Lent A} {b : B} {rows' weights' : List ℕ} (g : Gives told l b rows' weights') where
  pub gives_same : l ≡ record { result = refused (refusal_of 14); memory = m } → (b ≡ told (refused (refusal_of 14))) × (rows' ≡ m.rows) × (weights' ≡ m.weights)
  gives_same e = (
    g.result ∙ ap (λ (z : Lent A). told z.result) e,
    g.rows_are ∙ ap (λ (z : Lent A). z.memory.rows) e,
    g.weights_are ∙ ap (λ (z : Lent A). z.memory.weights) e,
  )

  pub gives_cleared : (asked : ℕ) (f : Refusal) → 1 ≤ f.number → l ≡ record { result = refused f; memory = cleared asked m }
      → (b ≡ told (refused f)) × (1 ≤ f.number) × Cleared 16384 m.rows rows' × Cleared 40320 m.weights weights'
  gives_cleared asked f n e = (
    g.result ∙ ap (λ (z : Lent A). told z.result) e,
    n,
    subst (Cleared 16384 m.rows) (sym (g.rows_are ∙ ap (λ (z : Lent A). z.memory.rows) e)) (filled-cleared 16384 m.rows),
    subst (Cleared 40320 m.weights) (sym (g.weights_are ∙ ap (λ (z : Lent A). z.memory.weights) e)) (filled-cleared 40320 m.weights),
  )

  module _ (cs bk : List ℕ) (p : Bytes cs) (q : Bytes bk) (C : Case) (accepted : files cs bk ≡ answer C) (stop : ℕ) (in_window : stop ≤ C.head.last_minute)
      (room : full C stop ≡ false) where
    pub gives_meant : (asked : ℕ) (v : A) (text : Run → List ℕ) → l ≡ record { result = answer v; memory = written asked text (run_at C stop) m }
        → (b ≡ told (answer v)) × Meant C stop (length (joint C stop).list) m.rows m.weights rows' weights'
    gives_meant asked v text e = (
      g.result ∙ ap (λ (z : Lent A). told z.result) e,
      memory_meant cs bk p q C accepted stop in_window room refl (g.rows_are ∙ ap (λ (z : Lent A). z.memory.rows) e)
          (g.weights_are ∙ ap (λ (z : Lent A). z.memory.weights) e),
    )

-- a stop minute that is not refused is in the window
pub stop_in_lem : (m : ℕ) (C : Case) → late_stop m C ≡ 0 → m ≤ C.head.last_minute
stop_in_lem m C h = go (ltb C.head.last_minute m) refl h
  where
    go : (b : Bool) → ltb C.head.last_minute m ≡ b → ◌≡◌ {A = ℕ} (cond b 17 0) 0 → m ≤ C.head.last_minute
    go true e h = absurd (omega arith)
    go false e h = ltb-false C.head.last_minute m e
