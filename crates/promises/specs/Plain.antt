-- The plain engine (request 2 of 02) over its two exported functions: what each returns and what the lent weights hold afterwards; that it fills the same weights as
-- the joint run wherever that answers; that it answers exactly where memory, files and stop minute are sound; and that parts that follow each other give the whole.
-- Each theorem takes what the function ensures (`PlainGives`, `PartGives`). Assumes nothing.
use Rattle.std.specs.Prelude.{◌≡◌, refl, Bool, true, false, cond, ◌↔◌, ℕ, zero, suc, ◌+◌, ◌-◌, ◌*◌, ◌^◌, ◌≤◌, ◌<◌, take, ltb}
use Rattle.std.proofs.Math.Path.{sym, ap, ap₂, subst}
use Rattle.std.proofs.Common.{◌∙◌, suc-mul, mul-le-mul_right, add-one, length-append, length-take, take_all, take_at, drop_at, take-add, drop-drop, ltb-true, ltb-false, lt-ltb, le-ltb}
use mathlib.Core.List.{List, [], ◌∷◌, ◌++◌}
use Rattle.std.proofs.Math.Nat.{pow-succ', pow-le-pow_right}
use native.Mathlib.Omega.{arith}
use Rattle.std.proofs.Math.ListN.{length, drop, replicate}
use Rattle.rules.specs.Lists.{sum}
use Rattle.rules.specs.Refusals.{Refusal, Result}
use Rattle.rules.specs.Refusals.Result.{refused, answer}
use Rattle.rules.specs.Files.{most_trains, Case, files}
use Rattle.rules.specs.Joint.{choices, joint, weight_at}
use Rattle.rules.specs.Calls.{Memory, Lent, stopped_run, image_by, filled, weights_bytes, weights_image, short, call, run_call}
use Rattle.rules.specs.Decoded.{number_in, weight_in}
use Rattle.rules.specs.Plain.{Plain, added_by, plain_of, plain_run, part_run, plain_image, part_image, capped, LentWeights, weighed, weighing, plain_call, part_call}
use Rattle.rules.specs.Promised.{Outcome, Outcome as runs, PlainOutcome, PlainOutcome as outcome, Cleared, Weighed, Added, combinations, refusal_of, late_stop, Bytes}
use Rattle.theory_lists.specs.Every.{Every}
use Rattle.theory_sound.specs.Facts.{Sound}
use Rattle.theory_sound.specs.Verdicts.{refused-answer}
use Rattle.theory_sound.proofs.Accepted.{accepted-sound}
use Rattle.theory_sound.proofs.Places.{files-told}
use Rattle.theory_weights.specs.Most.{total-most}
use Rattle.theory_calls.specs.Memory.{cleared, written}
use Rattle.theory_calls.specs.Decided.{stopped_decided}
use Rattle.theory_plain.specs.Numbered.{choices-count}
use Rattle.theory_plain.specs.Added.{added-parts, added-brought, added-later, added-joint, added-most, part-most}
use Rattle.theory_plain.specs.Decided.{plain_on, Numbered, weighing-long, plain_outcome, outcome-said, handed_plain, handed-part}
use Rattle.laying.specs.declared.Answer.{Answer}
use Rattle.laying.specs.Answers.{refused_with, answered, answer_of}
use Rattle.desk.specs.Answers.{lent_two, GivesWeights, PlainGives, PartGives, RunGives}
use Rattle.promises.specs.Images.{length_image, image_same, image_in}
use Rattle.promises.specs.Outcomes.{run_at, call-outcome, filled-cleared, stop_in_lem}

-- ---- weights filled into memory

module _ (w : ℕ → ℕ → ℕ) (fits : (k t : ℕ) → w k t < 256 ^ 8) (before : List ℕ) where
  -- the image takes the required bytes, all of them
  filled_image : filled weights_bytes (image_by w) before ≡ image_by w ++ drop weights_bytes before
  unfolding filled
  filled_image =
      let none : weights_bytes - length (image_by w) ≡ 0 = omega (arith, length_image w) in
      ap (λ (n : ℕ). image_by w ++ replicate {A = ℕ} n 0 ++ drop weights_bytes before) none

  pub filled_in : (k t : ℕ) → k < most_trains → t < 720 → weight_in (filled weights_bytes (image_by w) before) k t ≡ w k t
  filled_in k t l m = ap (λ (z : List ℕ). weight_in z k t) filled_image ∙ image_in w fits k t l m (drop weights_bytes before)

  pub filled-past : drop 40320 (filled weights_bytes (image_by w) before) ≡ drop 40320 before
  filled-past = ap (drop 40320) filled_image ∙ drop_at (image_by w) (drop weights_bytes before) 40320 (length_image w)

  pub filled-take : take 40320 (filled weights_bytes (image_by w) before) ≡ image_by w
  filled-take = ap (take 40320) filled_image ∙ take_at (image_by w) (drop weights_bytes before) 40320 (length_image w)

  pub filled-long : {after : List ℕ} → after ≡ filled weights_bytes (image_by w) before → 40320 ≤ length after
  filled-long {after} e =
      let laid : length after ≡ length (image_by w) + length (drop weights_bytes before) =
      ap (λ (l : List ℕ). length l) (e ∙ filled_image) ∙ length-append (image_by w) (drop weights_bytes before) in
      at_least (length after) (length (image_by w)) (length (drop weights_bytes before)) laid (length_image w)
    where
      at_least : (a i d : ℕ) → a ≡ i + d → i ≡ 40320 → 40320 ≤ a
      at_least a i d p q = omega arith

-- ---- what the two calls give, by the outcome of each

-- what the weights of choices come to fits in eight bytes
added-fits : (C : Case) → Sound C → (m first most k t : ℕ) → added_by C m (take most (drop first (choices C))) k t < 256 ^ 8
added-fits C sound m first most k t = omega (arith, part-most C m k t sound first most, total-most C sound)

whole-fits : (C : Case) → Sound C → (m k t : ℕ) → added_by C m (choices C) k t < 256 ^ 8
whole-fits C sound m k t = omega (arith, added-most C m k t sound, total-most C sound)

capped_fits : (n : ℕ) → capped n < 256 ^ 8
capped_fits n = go (ltb n (2 ^ 64)) refl
  where
    go : (b : Bool) → ltb n (2 ^ 64) ≡ b → cond b n (2 ^ 64 - 1) < 256 ^ 8
    go true q = omega (arith, ltb-true n (2 ^ 64) q)
    go false q = omega arith

-- eight bytes stand for a number below 256^8
number-low : (l : List ℕ) → Every (λ b. b < 256) l → number_in l < 256 ^ length l
number-low [] h = omega arith
number-low (b ∷ l) h =
    let head : (b + 1) * 256 ^ length l ≤ 256 * 256 ^ length l = mul-le-mul_right (256 ^ length l) (omega (arith, h.0)) in
    let more : (b + 1) * 256 ^ length l ≡ b * 256 ^ length l + 256 ^ length l = add-one_mul b (256 ^ length l) in
    omega (arith, head, more, number-low l h.1, pow-succ' 256 (length l))
  where
    add-one_mul : (b p : ℕ) → (b + 1) * p ≡ b * p + p
    add-one_mul b p = ap (λ (n : ℕ). n * p) (add-one b) ∙ suc-mul b p

bytes_every : (l : List ℕ) → Bytes l → Every (λ b. b < 256) l
bytes_every [] h = tt
bytes_every (b ∷ l) h = (h 0, bytes_every l (λ i. h (suc i)))

every_take : (n : ℕ) (l : List ℕ) → Every (λ b. b < 256) l → Every (λ b. b < 256) (take n l)
every_take zero l h = tt
every_take (suc n) [] h = tt
every_take (suc n) (b ∷ l) h = (h.0, every_take n l h.1)

every_drop : (n : ℕ) (l : List ℕ) → Every (λ b. b < 256) l → Every (λ b. b < 256) (drop n l)
every_drop zero l h = h
every_drop (suc n) [] h = tt
every_drop (suc n) (b ∷ l) h = every_drop n l h.1

weight-low : (l : List ℕ) → Bytes l → (k t : ℕ) → weight_in l k t < 256 ^ 8
unfolding weight_in
weight-low l h k t =
    let part = take 8 (drop ((k * 720 + t) * 8) l) in
    let short : length part ≤ 8 = omega (arith, length-take 8 (drop ((k * 720 + t) * 8) l)) in
    omega (arith, number-low part (every_take 8 (drop ((k * 720 + t) * 8) l) (every_drop ((k * 720 + t) * 8) l (bytes_every l h))), pow-le-pow_right {n = 256} (omega arith) short)

-- one result has one case
same_case : (C D : Case) → ◌≡◌ {A = Result Case} (answer C) (answer D) → C ≡ D
same_case C D e = cc e

capped-low : (n : ℕ) → n < 2 ^ 64 → capped n ≡ n
capped-low n h = ap (λ (b : Bool). cond b n (2 ^ 64 - 1)) (lt-ltb n (2 ^ 64) h)

module _ (cs bk : List ℕ) (stop : ℕ) (weights : List ℕ) where
  -- refused 14, it touches nothing
  abbrev pub Lacks : Answer → List ℕ → Type 0
  Lacks a weights' = (a ≡ refused_with (refusal_of 14)) × (weights' ≡ weights)

  -- refused otherwise, it tells the refusal, which is never 12, and the memory required is 0
  abbrev pub Refuses : Answer → List ℕ → Refusal → Type 0
  Refuses a weights' f = (a ≡ refused_with f) × Numbered f × Cleared 40320 weights weights'

  -- what `lampreysong_plain` answers: the number of choices, which is the product over the trains of the sizes of their tables; the weights are those of demand 2
  abbrev pub PlainAnswer : Answer → List ℕ → Case → Type 0
  PlainAnswer a weights' C = (a ≡ answered (combinations C)) × Weighed C stop weights weights'

  abbrev pub PlainPromise : Answer → List ℕ → Type 0
  PlainPromise a weights' = PlainOutcome cs bk stop weights (Lacks a weights') (Refuses a weights') (PlainAnswer a weights')

  -- what `lampreysong_plain_part` answers: the number of its choices, and the sum over them is added
  abbrev pub PartAnswer : ℕ → ℕ → Answer → List ℕ → Case → Type 0
  PartAnswer first most a weights' C =
      (a ≡ answered (length (take most (drop first (choices C))))) × Added C stop (take most (drop first (choices C))) weights weights'

  abbrev pub PartPromise : ℕ → ℕ → Answer → List ℕ → Type 0
  PartPromise first most a weights' = PlainOutcome cs bk stop weights (Lacks a weights') (Refuses a weights') (PartAnswer first most a weights')

  module _ {L : LentWeights} {a : Answer} {weights' : List ℕ} (g : GivesWeights L a weights') where
    gives_lacks : L ≡ record { result = refused (refusal_of 14); weights = weights } → Lacks a weights'
    gives_lacks e = (g.result ∙ ap (λ (l : LentWeights). answer_of l.result) e, g.weights_are ∙ ap (λ (l : LentWeights). l.weights) e)

    gives_refused : (f : Refusal) → Numbered f → L ≡ record { result = refused f; weights = filled weights_bytes [] weights } → Refuses a weights' f
    gives_refused f n e = (
      g.result ∙ ap (λ (l : LentWeights). answer_of l.result) e,
      n,
      subst (Cleared 40320 weights) (sym (g.weights_are ∙ ap (λ (l : LentWeights). l.weights) e)) (filled-cleared 40320 weights),
    )

    gives_answered : (n : ℕ) (image : List ℕ) → L ≡ record { result = answer n; weights = filled weights_bytes image weights }
        → (a ≡ answered n) × (weights' ≡ filled weights_bytes image weights)
    gives_answered n image e = (g.result ∙ ap (λ (l : LentWeights). answer_of l.result) e, g.weights_are ∙ ap (λ (l : LentWeights). l.weights) e)

  -- ---- every choice

  plain_weighs : {weights' : List ℕ} (C : Case) → files cs bk ≡ answer C → stop ≤ C.head.last_minute
      → weights' ≡ filled weights_bytes (image_by (added_by C stop (choices C))) weights → Weighed C stop weights weights'
  plain_weighs C e l z =
      let sound : Sound C = accepted-sound cs bk C e in
      let fits = whole-fits C sound stop in
      subst (Weighed C stop weights) (sym z) (record {
        weighs = λ k t h q.
            filled_in (added_by C stop (choices C)) fits weights k t h (omega (arith, sound.in_window)) ∙ added-brought C stop k t l q (choices C);
        later = λ k t h q r. filled_in (added_by C stop (choices C)) fits weights k t h r ∙ added-later C stop k t q (choices C);
        past = filled-past (added_by C stop (choices C)) fits weights;
      })

  pub plain_promise : {a : Answer} {weights' : List ℕ} → PlainGives cs bk stop weights a weights' → PlainPromise a weights'
  unfolding plain_call plain_run plain_image
  plain_promise g =
      outcome-said (gives_lacks g) (gives_refused g)
      (λ C e l h z.
      let said = gives_answered g (length (choices C)) (image_by (added_by C stop (choices C))) z in
      (said.0 ∙ ap answered (choices-count C (accepted-sound cs bk C e)), plain_weighs C e l said.1))
      (plain_outcome choices cs bk stop plain_image weights)

  -- ---- a part

  module _ (first most : ℕ) (C : Case) where
    abbrev ran : List (List ℕ)
    ran = take most (drop first (choices C))

    -- what a weight is after the part
    sums : ℕ → ℕ → ℕ
    sums k t = capped (weight_in weights k t + added_by C stop ran k t)

    sums_fit : (k t : ℕ) → sums k t < 256 ^ 8
    unfolding sums
    sums_fit k t = capped_fits (weight_in weights k t + added_by C stop ran k t)

    part-adds : {weights' : List ℕ} → Bytes weights → files cs bk ≡ answer C → stop ≤ C.head.last_minute → weights' ≡ filled weights_bytes (image_by sums) weights
        → Added C stop ran weights weights'
    unfolding sums
    part-adds bytes e l z =
        let sound : Sound C = accepted-sound cs bk C e in
        subst (Added C stop ran weights) (sym z) (record {
          weighs = λ k t h q.
              filled_in sums sums_fit weights k t h (omega (arith, sound.in_window))
              ∙ ap (λ (n : ℕ). capped (weight_in weights k t + n)) (added-brought C stop k t l q ran);
          later = λ k t h q r.
              filled_in sums sums_fit weights k t h r
              ∙ ap (λ (n : ℕ). capped (weight_in weights k t + n)) (added-later C stop k t q ran)
              ∙ capped-low (weight_in weights k t + 0) (omega (arith, weight-low weights bytes k t))
              ∙ plus_none (weight_in weights k t);
          past = filled-past sums sums_fit weights;
        })
      where
        plus_none : (n : ℕ) → n + 0 ≡ n
        plus_none n = omega arith

  pub part_promise : (first most : ℕ) {a : Answer} {weights' : List ℕ} → Bytes weights → PartGives cs bk stop first most weights a weights'
      → PartPromise first most a weights'
  unfolding part_call part_run part_image sums
  part_promise first most bytes g =
      outcome-said (gives_lacks g) (gives_refused g)
      (λ C e l h z. let said = gives_answered g (length (ran first most C)) (image_by (sums first most C)) z in (said.0, part-adds first most C bytes e l said.1))
      (plain_outcome (ran first most) cs bk stop (part_image weights) weights)

  -- ---- when it answers

  -- exactly where memory suffices, the files are accepted, which takes that each train's type has a table, and the minute is at most T
  pub plain_answers : {a : Answer} {weights' : List ℕ} → PlainGives cs bk stop weights a weights'
      → (a.refusal ≡ 0) ↔ ((40320 ≤ length weights) × ((C : Case) × (files cs bk ≡ answer C) × (stop ≤ C.head.last_minute)))
  plain_answers {a} {weights'} g = (λ z. to (plain_promise g) z, λ h. from (plain_promise g) h)
    where
      told : {b : Answer} → a ≡ b → a.refusal ≡ b.refusal
      told e = ap (λ (b : Answer). b.refusal) e

      to : PlainPromise a weights' → a.refusal ≡ 0 → (40320 ≤ length weights) × ((C : Case) × (files cs bk ≡ answer C) × (stop ≤ C.head.last_minute))
      to (outcome.lacks_memory h z) q = absurd (omega (arith, told z.0))
      to (outcome.refuses_files h f e z) q = absurd (omega (arith, told z.0, z.1.0))
      to (outcome.refuses_stop h C e l z) q = absurd (omega (arith, told z.0))
      to (outcome.answers h C e l z) q = (h, (C, e, l))

      from : PlainPromise a weights' → (40320 ≤ length weights) × ((C : Case) × (files cs bk ≡ answer C) × (stop ≤ C.head.last_minute)) → a.refusal ≡ 0
      from (outcome.lacks_memory h z) q = absurd (omega (arith, q.0))
      from (outcome.refuses_files h f e z) q = absurd (refused-answer _ _ (sym e ∙ q.1.1))
      from (outcome.refuses_stop h C e l z) q = absurd (omega (arith, q.1.2, ap (λ (D : Case). D.head.last_minute) (same_case C q.1.0 (sym e ∙ q.1.1))))
      from (outcome.answers h C e l z) q = told z.0

  -- never 12, whatever the room, and never 13, which is retired
  never : {a : Answer} {weights' : List ℕ} {A : Case → Type 0} → ((C : Case) → A C → a.refusal ≡ 0) → PlainOutcome cs bk stop weights (Lacks a weights') (Refuses a weights') A
      → (a.refusal ≡ 12 → ⊥) × (a.refusal ≡ 13 → ⊥)
  never {a} {weights'} {A} said h = (λ q. twelve h q, λ q. thirteen h q)
    where
      told : {b : Answer} → a ≡ b → a.refusal ≡ b.refusal
      told e = ap (λ (b : Answer). b.refusal) e

      twelve : PlainOutcome cs bk stop weights (Lacks a weights') (Refuses a weights') A → a.refusal ≡ 12 → ⊥
      twelve (outcome.lacks_memory h z) q = omega (arith, told z.0)
      twelve (outcome.refuses_files h f e z) q = z.1.1 (omega (arith, told z.0))
      twelve (outcome.refuses_stop h C e l z) q = omega (arith, told z.0)
      twelve (outcome.answers h C e l z) q = omega (arith, said C z)

      thirteen : PlainOutcome cs bk stop weights (Lacks a weights') (Refuses a weights') A → a.refusal ≡ 13 → ⊥
      thirteen (outcome.lacks_memory h z) q = omega (arith, told z.0)
      thirteen (outcome.refuses_files h f e z) q = z.1.2 (omega (arith, told z.0))
      thirteen (outcome.refuses_stop h C e l z) q = omega (arith, told z.0)
      thirteen (outcome.answers h C e l z) q = omega (arith, said C z)

  pub plain_never : {a : Answer} {weights' : List ℕ} → PlainGives cs bk stop weights a weights' → (a.refusal ≡ 12 → ⊥) × (a.refusal ≡ 13 → ⊥)
  plain_never {a} g = never (λ C z. ap (λ (b : Answer). b.refusal) z.0) (plain_promise g)

  pub part-never : (first most : ℕ) {a : Answer} {weights' : List ℕ} → Bytes weights → PartGives cs bk stop first most weights a weights'
      → (a.refusal ≡ 12 → ⊥) × (a.refusal ≡ 13 → ⊥)
  part-never first most bytes g = never (λ C z. ap (λ (b : Answer). b.refusal) z.0) (part_promise first most bytes g)

-- ---- beside the joint run

-- the weights that the joint run has are those that the plain engine adds, so they have one image
run_image : (C : Case) → Sound C → (m : ℕ) → weights_image (run_at C m) ≡ image_by (added_by C m (choices C))
unfolding weights_image
run_image C sound m = image_same (weight_at C (joint C m).arrived) (added_by C m (choices C)) (λ k t l h. sym (added-joint C m k t sound))

-- a joint run that answers has filled its weights
run-filled : (cs bk : List ℕ) (stop : ℕ) (rows weights : List ℕ) {a : Answer} {rows' weights' : List ℕ} → RunGives cs bk stop rows weights a rows' weights'
    → a.refusal ≡ 0 → (C : Case) × (files cs bk ≡ answer C) × (stop ≤ C.head.last_minute) × (weights' ≡ filled weights_bytes (weights_image (run_at C stop)) weights)
unfolding run_call
run-filled cs bk stop rows weights {a} {rows'} {weights'} g z =
    go (call-outcome 0 (λ u. length u.state.list) (λ u. []) m cs bk (late_stop stop) (λ C. stop) (stopped_run cs bk stop) (stopped_decided cs bk stop))
  where
    m : Memory
    m = lent_two rows weights

    came : Lent ℕ
    came = call 0 (λ u. length u.state.list) (λ u. []) (lent_two rows weights) (stopped_run cs bk stop)

    told : {n : ℕ} {l : Lent ℕ} → came ≡ l → (answer_of l.result).refusal ≡ n → n ≡ 0
    told e q = sym q ∙ sym (ap (λ (l : Lent ℕ). (answer_of l.result).refusal) e) ∙ sym (ap (λ (b : Answer). b.refusal) g.result) ∙ z

    go : Outcome cs bk (short 0 (lent_two rows weights)) (late_stop stop) (λ C. stop) (came ≡ record { result = refused (refusal_of 14); memory = lent_two rows weights })
        (λ f. came ≡ record { result = refused f; memory = cleared 0 (lent_two rows weights) })
        (λ C. came ≡ record { result = answer (length (joint C stop).list); memory = written 0 (λ u. []) (run_at C stop) (lent_two rows weights) })
        → (C : Case) × (files cs bk ≡ answer C) × (stop ≤ C.head.last_minute) × (weights' ≡ filled weights_bytes (weights_image (run_at C stop)) weights)
    go (runs.lacks_memory h e) = absurd (omega (arith, told e refl))
    go (runs.refuses_files h f q e) = absurd (omega (arith, told e refl, (files-told cs bk f q).given.0))
    go (runs.refuses_arguments h C q b e) = absurd (omega (arith, told e refl))
    go (runs.refuses_room h C q b r e) = absurd (omega (arith, told e refl))
    go (runs.answers h C q b r e) = (C, q, stop_in_lem stop C b, g.weights_are ∙ ap (λ (l : Lent ℕ). l.memory.weights) e)

-- an accepted case and a minute of its window, with memory that suffices
pub record Ready (cs bk : List ℕ) (stop : ℕ) (weights : List ℕ) : Type 0 where
  pub of : Case
  pub accepted : files cs bk ≡ answer of
  pub within : stop ≤ of.head.last_minute
  pub suffices : 40320 ≤ length weights

-- then a call fills the weights with its image
filled-ready : (which : Case → List (List ℕ)) (image : Plain → List ℕ) {cs bk : List ℕ} {stop : ℕ} {weights : List ℕ} (r : Ready cs bk stop weights)
    → weighing image weights (plain_of which cs bk stop)
    ≡ record { result = answer (length (which r.of)); weights = filled weights_bytes (image (plain_on r.of stop (which r.of))) weights }
filled-ready which image {cs} {bk} {stop} {weights} r =
    let came : plain_of which cs bk stop ≡ answer (plain_on r.of stop (which r.of)) = rw (r.accepted, le-ltb r.of.head.last_minute stop r.within) in
    weighing-long image weights (plain_of which cs bk stop) r.suffices ∙ ap (weighed image weights) came

module _ {cs bk : List ℕ} {stop : ℕ} {weights : List ℕ} (r : Ready cs bk stop weights) {a : Answer} {weights' : List ℕ} where
  plain_filled : PlainGives cs bk stop weights a weights'
      → (a ≡ answered (length (choices r.of))) × (weights' ≡ filled weights_bytes (image_by (added_by r.of stop (choices r.of))) weights)
  unfolding plain_call plain_run plain_image
  plain_filled g =
      gives_answered cs bk stop weights g (length (choices r.of)) (image_by (added_by r.of stop (choices r.of))) (filled-ready choices plain_image r)

  part_filled : (first most : ℕ) → PartGives cs bk stop first most weights a weights'
      → (a ≡ answered (length (ran cs bk stop weights first most r.of))) × (weights' ≡ filled weights_bytes (image_by (sums cs bk stop weights first most r.of)) weights)
  unfolding part_call part_run part_image sums
  part_filled first most g =
      gives_answered cs bk stop weights g (length (ran cs bk stop weights first most r.of)) (image_by (sums cs bk stop weights first most r.of))
      (filled-ready (ran cs bk stop weights first most) (part_image weights) r)

-- after a part the weights still suffice
part-ready : {cs bk : List ℕ} {stop : ℕ} {weights : List ℕ} (r : Ready cs bk stop weights) (first most : ℕ) {a : Answer} {weights' : List ℕ}
    → PartGives cs bk stop first most weights a weights' → Ready cs bk stop weights'
part-ready {cs} {bk} {stop} {weights} r first most g =
    record {
      of = r.of;
      accepted = r.accepted;
      within = r.within;
      suffices = filled-long (sums cs bk stop weights first most r.of) (sums_fit cs bk stop weights first most r.of) weights (part_filled r first most g).1;
    }

-- wherever the joint run answers, both fill the same weights
pub plain_as_run : (cs bk : List ℕ) (stop : ℕ) (rows weights weights₂ : List ℕ) {a b : Answer} {rows' weights' weights₂' : List ℕ}
    → RunGives cs bk stop rows weights a rows' weights' → a.refusal ≡ 0 → 40320 ≤ length weights₂ → PlainGives cs bk stop weights₂ b weights₂'
    → (b.refusal ≡ 0) × (take 40320 weights₂' ≡ take 40320 weights')
plain_as_run cs bk stop rows weights weights₂ g z long h =
    let ran = run-filled cs bk stop rows weights g z in
    let C = ran.0 in
    let sound : Sound C = accepted-sound cs bk C ran.1 in
    let ready : Ready cs bk stop weights₂ = record { of = C; accepted = ran.1; within = ran.2; suffices = long } in
    let plain = plain_filled ready h in
    let fits = whole-fits C sound stop in (
      ap (λ (b : Answer). b.refusal) plain.0,
      ap (take 40320) plain.1
          ∙ filled-take (added_by C stop (choices C)) fits weights₂
          ∙ sym (filled-take (added_by C stop (choices C)) fits weights)
          ∙ ap (λ (image : List ℕ). take 40320 (filled weights_bytes image weights)) (sym (run_image C sound stop))
          ∙ ap (take 40320) (sym ran.3),
    )

-- ---- parts

-- a sum that has stopped at 2^64 − 1 stays there
capped_top : (m : ℕ) → capped (2 ^ 64 - 1 + m) ≡ 2 ^ 64 - 1
capped_top m = go (ltb (2 ^ 64 - 1 + m) (2 ^ 64)) refl
  where
    go : (b : Bool) → ltb (2 ^ 64 - 1 + m) (2 ^ 64) ≡ b → cond b (2 ^ 64 - 1 + m) (2 ^ 64 - 1) ≡ 2 ^ 64 - 1
    go true q = let low : 2 ^ 64 - 1 + m < 2 ^ 64 = ltb-true (2 ^ 64 - 1 + m) (2 ^ 64) q in omega arith
    go false q = refl

capped-more : (n m : ℕ) → capped (capped n + m) ≡ capped (n + m)
capped-more n m = go (ltb n (2 ^ 64)) refl
  where
    go : (b : Bool) → ltb n (2 ^ 64) ≡ b → capped (capped n + m) ≡ capped (n + m)
    go true q = ap (λ (b : Bool). capped (cond b n (2 ^ 64 - 1) + m)) q
    go false q =
        let past : 2 ^ 64 ≤ n = ltb-false n (2 ^ 64) q in
        ap (λ (b : Bool). capped (cond b n (2 ^ 64 - 1) + m)) q
        ∙ capped_top m
        ∙ sym (ap (λ (b : Bool). cond b (n + m) (2 ^ 64 - 1)) (le-ltb (n + m) (2 ^ 64) (omega arith)))

module _ {cs bk : List ℕ} {stop : ℕ} {weights : List ℕ} (r : Ready cs bk stop weights) (first n m : ℕ) where
  abbrev C : Case
  C = r.of

  -- the choices of both
  both-count : length (ran cs bk stop weights first (n + m) C) ≡ length (ran cs bk stop weights first n C) + length (ran cs bk stop weights (first + n) m C)
  both-count =
      ap (λ (xs : List (List ℕ)). length xs) (take-add n m (drop first (choices C)))
      ∙ length-append (take n (drop first (choices C))) (take m (drop n (drop first (choices C))))
      ∙ ap (λ (xs : List (List ℕ)). length (take n (drop first (choices C))) + length (take m xs)) (drop-drop n first (choices C))

  -- what both add to a weight
  both_sums : (w₁ : List ℕ) → w₁ ≡ filled weights_bytes (image_by (sums cs bk stop weights first n C)) weights → (k t : ℕ) → k < most_trains → t < 720
      → sums cs bk stop w₁ (first + n) m C k t ≡ sums cs bk stop weights first (n + m) C k t
  unfolding sums
  both_sums w₁ e k t l h =
      let x = weight_in weights k t in
      let one = added_by C stop (take n (drop first (choices C))) k t in
      let two = added_by C stop (take m (drop (first + n) (choices C))) k t in
      let here : weight_in w₁ k t ≡ capped (x + one) =
      ap (λ (l : List ℕ). weight_in l k t) e ∙ filled_in (sums cs bk stop weights first n C) (sums_fit cs bk stop weights first n C) weights k t l h in
      let all : x + one + two ≡ x + (one + two) = omega arith in
      ap (λ (v : ℕ). capped (v + two)) here
      ∙ capped-more (x + one) two
      ∙ ap capped all
      ∙ ap (λ (v : ℕ). capped (x + v)) (sym (added-parts C stop k t first n m (choices C)))

  -- two parts that follow each other come to one
  pub parts_follow : {a b c : Answer} {w₁ w₂ w₃ : List ℕ} → PartGives cs bk stop first n weights a w₁ → PartGives cs bk stop (first + n) m w₁ b w₂
      → PartGives cs bk stop first (n + m) weights c w₃ → (w₂ ≡ w₃) × (c.value ≡ a.value + b.value)
  unfolding part-ready
  parts_follow {a} {b} {c} {w₁} {w₂} {w₃} g h i =
      let one = part_filled r first n g in
      let next : Ready cs bk stop w₁ = part-ready r first n g in
      let two = part_filled next (first + n) m h in
      let all = part_filled r first (n + m) i in (
        two.1
            ∙ filled_image (sums cs bk stop w₁ (first + n) m C) (sums_fit cs bk stop w₁ (first + n) m C) w₁
            ∙ ap₂ (λ (s t : List ℕ). s ++ t)
            (image_same (sums cs bk stop w₁ (first + n) m C) (sums cs bk stop weights first (n + m) C) (both_sums w₁ one.1))
            (ap (drop weights_bytes) one.1 ∙ filled-past (sums cs bk stop weights first n C) (sums_fit cs bk stop weights first n C) weights)
            ∙ sym (filled_image (sums cs bk stop weights first (n + m) C) (sums_fit cs bk stop weights first (n + m) C) weights)
            ∙ sym all.1,
        ap (λ (z : Answer). z.value) all.0 ∙ both-count ∙ sym (ap₂ (λ (y z : Answer). y.value + z.value) one.0 two.0),
      )

-- what the first part adds to weights of 0, where it has all choices
first-sums : (cs bk : List ℕ) (stop : ℕ) (weights : List ℕ) (C : Case) → Sound C → (all : ℕ) → take all (choices C) ≡ choices C → (k t : ℕ) → weight_in weights k t ≡ 0
    → sums cs bk stop weights 0 all C k t ≡ added_by C stop (choices C) k t
unfolding sums
first-sums cs bk stop weights C sound all whole k t none =
    let alone : 0 + added_by C stop (choices C) k t ≡ added_by C stop (choices C) k t = omega arith in
    ap₂ (λ (x : ℕ) (xs : List (List ℕ)). capped (x + added_by C stop xs k t)) none whole
    ∙ ap capped alone
    ∙ capped-low (added_by C stop (choices C) k t) (omega (arith, whole-fits C sound stop k t))

-- parts that follow each other, from `first` on: one of n choices at most, then one of each of these numbers
abbrev pub InParts : List ℕ → List ℕ → ℕ → ℕ → ℕ → List ℕ → List ℕ → List ℕ → Type 0
InParts cs bk stop first n [] weights weights' = (a : Answer) × PartGives cs bk stop first n weights a weights'
InParts cs bk stop first n (m ∷ ms) weights weights' =
    (a : Answer) × (w₁ : List ℕ) × PartGives cs bk stop first n weights a w₁ × InParts cs bk stop (first + n) m ms w₁ weights'

-- a part comes to what its call says
part-called : (cs bk : List ℕ) (stop first most : ℕ) (weights : List ℕ)
    → PartGives cs bk stop first most weights (answer_of (part_call cs bk stop first most weights).result) (part_call cs bk stop first most weights).weights
part-called cs bk stop first most weights = record { result = refl; weights_are = refl }

-- they come to one part
pub parts-one : {cs bk : List ℕ} {stop : ℕ} (first n : ℕ) (ms : List ℕ) {weights : List ℕ} → Ready cs bk stop weights → {c : Answer} {w' w'' : List ℕ}
    → InParts cs bk stop first n ms weights w' → PartGives cs bk stop first (n + sum (λ i. i) ms) weights c w'' → w' ≡ w''
parts-one {cs} {bk} {stop} first n [] {weights} r {c} {w'} {w''} h g =
    let alone : n + 0 ≡ n = omega arith in
    h.1.weights_are ∙ sym (subst (λ (i : ℕ). w'' ≡ (part_call cs bk stop first i weights).weights) alone g.weights_are)
parts-one {cs} {bk} {stop} first n (m ∷ ms) {weights} r h g =
    let rest = m + sum (λ i. i) ms in
    let w₁ = h.1 in
    parts-one (first + n) m ms (part-ready r first n h.2) h.3 (part-called cs bk stop (first + n) rest w₁)
    ∙ (parts_follow r first n rest h.2 (part-called cs bk stop (first + n) rest w₁) g).0

-- and, from weights of 0 on, over all choices, to the whole
pub parts_whole : {cs bk : List ℕ} {stop : ℕ} {weights : List ℕ} (r : Ready cs bk stop weights) → ((k t : ℕ) → k < most_trains → t < 720 → weight_in weights k t ≡ 0)
    → (n : ℕ) (ms : List ℕ) → combinations r.of ≤ n + sum (λ i. i) ms → {b : Answer} {w' w'' : List ℕ} → InParts cs bk stop 0 n ms weights w'
    → PlainGives cs bk stop weights b w'' → w' ≡ w''
parts_whole {cs} {bk} {stop} {weights} r zeros n ms enough h g =
    let C = r.of in
    let sound : Sound C = accepted-sound cs bk C r.accepted in
    let all = n + sum (λ i. i) ms in
    let whole : take all (choices C) ≡ choices C = take_all all (choices C) (omega (arith, choices-count C sound)) in
    let part = part-called cs bk stop 0 all weights in
    parts-one 0 n ms r h part
    ∙ (part_filled r 0 all part).1
    ∙ ap (λ (image : List ℕ). filled weights_bytes image weights) (image_same (sums cs bk stop weights 0 all C) (added_by C stop (choices C)) (same C sound all whole))
    ∙ sym (plain_filled r g).1
  where
    same : (C : Case) → Sound C → (all : ℕ) → take all (choices C) ≡ choices C → (k t : ℕ) → k < most_trains → t < 720
        → sums cs bk stop weights 0 all C k t ≡ added_by C stop (choices C) k t
    same C sound all whole k t l h = first-sums cs bk stop weights C sound all whole k t (zeros k t l h)

-- ---- the first 4,096 bytes of a file decide

pub plain_handed : (cs bk : List ℕ) (stop : ℕ) (weights : List ℕ) {a : Answer} {weights' : List ℕ}
    → PlainGives (take 4096 cs) (take 4096 bk) stop weights a weights' → PlainGives cs bk stop weights a weights'
plain_handed cs bk stop weights {a} {weights'} g = subst (λ (L : LentWeights). GivesWeights L a weights') (handed_plain cs bk stop weights) g

pub part-handed : (cs bk : List ℕ) (stop first most : ℕ) (weights : List ℕ) {a : Answer} {weights' : List ℕ}
    → PartGives (take 4096 cs) (take 4096 bk) stop first most weights a weights' → PartGives cs bk stop first most weights a weights'
part-handed cs bk stop first most weights {a} {weights'} g = subst (λ (L : LentWeights). GivesWeights L a weights') (handed-part cs bk stop first most weights) g

-- ---- nothing is left open: of one call there is one answer, and one memory after it

pub plain_once : {L : LentWeights} {a b : Answer} {w v : List ℕ} → GivesWeights L a w → GivesWeights L b v → (a ≡ b) × (w ≡ v)
plain_once g h = (g.result ∙ sym h.result, g.weights_are ∙ sym h.weights_are)
