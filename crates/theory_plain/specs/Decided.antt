-- What decides the plain engine: lent memory, the files, the stop minute, and nothing else; so it answers exactly where these are sound, whatever the room. And
-- what each outcome leaves in the weights that it is lent. The definitions are taken apart by the first test that decides. Assumes nothing.
use Rattle.std.specs.Prelude.{◌≡◌, refl, Bool, true, false, List, [], ℕ, ◌≤◌, ◌<◌, length, take, ltb}
use Rattle.std.proofs.Common.{ap, ◌∙◌, arith, ltb-true, ltb-false, lt-ltb, le-ltb}
use Rattle.rules.specs.Refusals.{number, Refusal, nowhere, Result, refuse}
use Rattle.rules.specs.Refusals.Fault.{too_short}
use Rattle.rules.specs.Refusals.Result.{refused, answer}
use Rattle.rules.specs.Files.{Case, files}
use Rattle.rules.specs.Calls.{filled, weights_bytes}
use Rattle.rules.specs.Plain.{Plain, plain_of, plain_run, part_run, LentWeights, weighed, weighing, plain_call, part_call}
use Rattle.rules.specs.Promised.{PlainOutcome, PlainOutcome as outcome, refusal_of}
use Rattle.theory_sound.proofs.Places.{files-told}
use Rattle.theory_sound.proofs.Window.{files-window}

-- ---- the answers

-- these choices of case C, to minute m
abbrev pub plain_on : Case → ℕ → List (List ℕ) → Plain
plain_on C m xs = record { of = C; stop = m; ran = xs }

module _ (image : Plain → List ℕ) (weights : List ℕ) (r : Result Plain) where
  abbrev pick : Bool → LentWeights
  pick b = elim b [ true ↦ record { result = refuse (number too_short) nowhere; weights = weights } | false ↦ weighed image weights r ]

  -- 14 comes first, and writes nothing
  pub weighing-short : length weights < 40320 → weighing image weights r ≡ record { result = refuse (number too_short) nowhere; weights = weights }
  weighing-short h = ap pick (lt-ltb (length weights) 40320 h)

  -- otherwise the result decides
  pub weighing-long : 40320 ≤ length weights → weighing image weights r ≡ weighed image weights r
  weighing-long h = ap pick (le-ltb (length weights) 40320 h)

module _ (which : Case → List (List ℕ)) (cs bk : List ℕ) (m : ℕ) (image : Plain → List ℕ) (weights : List ℕ) where
  abbrev given : Result Plain → LentWeights
  given r = weighing image weights r

  -- what a call comes to
  pub plain_outcome : PlainOutcome cs bk m weights
      (given (plain_of which cs bk m) ≡ record { result = refused (refusal_of 14); weights = weights })
      (λ f. given (plain_of which cs bk m) ≡ record { result = refused f; weights = filled weights_bytes [] weights })
      (λ C. given (plain_of which cs bk m) ≡ record { result = answer (length (which C)); weights = filled weights_bytes (image (plain_on C m (which C))) weights })
  plain_outcome = long (ltb (length weights) weights_bytes) refl
    where
      Came : Type 0
      Came = PlainOutcome cs bk m weights
          (given (plain_of which cs bk m) ≡ record { result = refused (refusal_of 14); weights = weights })
          (λ f. given (plain_of which cs bk m) ≡ record { result = refused f; weights = filled weights_bytes [] weights })
          (λ C. given (plain_of which cs bk m) ≡ record { result = answer (length (which C)); weights = filled weights_bytes (image (plain_on C m (which C))) weights })

      late : 40320 ≤ length weights → (C : Case) → files cs bk ≡ answer C → (b : Bool) → ltb C.head.last_minute m ≡ b → Came
      late h C e true q = outcome.refuses_stop h C e (ltb-true C.head.last_minute m q) (weighing-long image weights (plain_of which cs bk m) h ∙ rw (e, q))
      late h C e false q = outcome.answers h C e (ltb-false C.head.last_minute m q) (weighing-long image weights (plain_of which cs bk m) h ∙ rw (e, q))

      read : 40320 ≤ length weights → (R : Result Case) → files cs bk ≡ R → Came
      read h (refused f) e = outcome.refuses_files h f e (weighing-long image weights (plain_of which cs bk m) h ∙ rw e)
      read h (answer C) e = late h C e (ltb C.head.last_minute m) refl

      long : (b : Bool) → ltb (length weights) weights_bytes ≡ b → Came
      long true h =
          let lacks : length weights < 40320 = ltb-true (length weights) weights_bytes h in
          outcome.lacks_memory lacks (weighing-short image weights (plain_of which cs bk m) lacks)
      long false h = read (ltb-false (length weights) weights_bytes h) (files cs bk) refl

-- a refusal of the plain engine has a number, and it is never 12, nor 13, which is retired
abbrev pub Numbered : Refusal → Type 0
Numbered f = (1 ≤ f.number) × (f.number ≡ 12 → ⊥) × (f.number ≡ 13 → ⊥)

files_numbered : (cs bk : List ℕ) (f : Refusal) → files cs bk ≡ refused f → Numbered f
files_numbered cs bk f e =
    let told = files-told cs bk f e in
    (told.given.0, λ q. omega (arith, told.of_files.not_of_calls (omega arith)), λ q. omega (arith, told.of_files.not_of_calls (omega arith)))

-- what is said of each outcome may be said otherwise
pub outcome-said : {cs bk : List ℕ} {m : ℕ} {weights : List ℕ} {S T : Type 0} {R Q : Refusal → Type 0} {A B : Case → Type 0}
    → (S → T) → ((f : Refusal) → Numbered f → R f → Q f) → ((C : Case) → files cs bk ≡ answer C → m ≤ C.head.last_minute → 40320 ≤ length weights → A C → B C)
    → PlainOutcome cs bk m weights S R A → PlainOutcome cs bk m weights T Q B
outcome-said s r a (outcome.lacks_memory h z) = outcome.lacks_memory h (s z)
outcome-said {cs} {bk} s r a (outcome.refuses_files h f e z) = outcome.refuses_files h f e (r f (files_numbered cs bk f e) z)
outcome-said s r a (outcome.refuses_stop h C e l z) = outcome.refuses_stop h C e l (r (refusal_of 17) (omega arith, λ q. omega arith, λ q. omega arith) z)
outcome-said s r a (outcome.answers h C e l z) = outcome.answers h C e l (a C e l h z)

-- ---- the first 4,096 bytes of a file decide

pub handed_plain : (cs bk : List ℕ) (m : ℕ) (weights : List ℕ) → plain_call (take 4096 cs) (take 4096 bk) m weights ≡ plain_call cs bk m weights
unfolding plain_call plain_run
handed_plain cs bk m weights = rw (files-window cs bk)

pub handed-part : (cs bk : List ℕ) (m first most : ℕ) (weights : List ℕ) → part_call (take 4096 cs) (take 4096 bk) m first most weights ≡ part_call cs bk m first most weights
unfolding part_call part_run
handed-part cs bk m first most weights = rw (files-window cs bk)
