-- Refusal 15 and the word choice say the same, both ways: the single run refuses x with 15 exactly when x is no choice of the case.
-- A choice has an index for each train, each below its table's length; `unbroken-choice` is the other way. Assumes nothing.
use Rattle.std.specs.Prelude.{◌≡◌, refl, Bool, List, [], ℕ, get_or}
use Rattle.std.proofs.Common.{sym, ◌∙◌, arith}
use Rattle.std.proofs.Math.Path.{ap}
use Rattle.std.proofs.Math.Bool.{true, false}
use Rattle.std.proofs.lemmas.Bool.{false≢true}
use Rattle.std.proofs.Math.ListN.{length}
use Rattle.std.proofs.Math.Dec.{leb}
use borrow.Author.Tests.{eq-eqb, lt-leb}
use Rattle.rules.specs.Lists.{below}
use Rattle.rules.specs.Refusals.{number, first_of, Refusal, nowhere, refuse, then, answer_unless}
use Rattle.rules.specs.Refusals.Fault.{wrong_choice}
use Rattle.rules.specs.Refusals.Result.{answer}
use Rattle.rules.specs.Files.{Case, files}
use Rattle.rules.specs.Single.{arrival}
use Rattle.rules.specs.Joint.{whole}
use Rattle.rules.specs.Calls.{choice_broken, no_such_train, single_run}
use Rattle.rules.specs.Demands.{Choice}
use Rattle.theory_lists.specs.Every.{every_more, any_none}
use Rattle.theory_lists.specs.Below.{every_below}
use Rattle.theory_sound.specs.Facts.{Sound}
use Rattle.theory_sound.proofs.Accepted.{accepted-sound}
use Rattle.theory_sound.specs.Verdicts.{refused-answer, refused-refused}
use Rattle.theory_simulation.specs.Covers.{covers-length}
use Rattle.theory_simulation.specs.Start.{whole_length, choice-at}
use Rattle.theory_simulation.specs.Choices.{unbroken-choice}

-- ---- the rule

module _ (C : Case) (sound : Sound C) (x : List ℕ) where
  -- a choice does not break the rule of refusal 15
  pub choice-unbroken : Choice C x → choice_broken C x ≡ false
  unfolding choice_broken
  choice-unbroken h =
      let counted : length x ≡ length C.trains = omega (arith, covers-length (whole C) x h, whole_length C, sound.tabled) in
      rw (eq-eqb (length x) (length C.trains) counted)
      (any_none (λ k. leb (length (get_or C.tables k [])) (get_or x k 0)) (below (length C.trains))
      (every_more _ _ (λ k l. lt-leb (length (get_or C.tables k [])) (get_or x k 0) (choice-at C sound x h k l)) (below (length C.trains)) (every_below (length C.trains))))

  -- what breaks it is no choice
  pub broken_no_choice : choice_broken C x ≡ true → Choice C x → ⊥
  broken_no_choice b h = false≢true (sym (choice-unbroken h) ∙ b)

  -- and what is no choice breaks it
  pub no_choice-broken : (Choice C x → ⊥) → choice_broken C x ≡ true
  no_choice-broken n = go (choice_broken C x) refl
    where
      go : (b : Bool) → choice_broken C x ≡ b → choice_broken C x ≡ true
      go true e = e
      go false e = absurd (n (unbroken-choice C sound x e))

-- ---- the call

module _ (cs bk : List ℕ) (C : Case) (accepted : files cs bk ≡ answer C) (x : List ℕ) (k : ℕ) where
  -- the single run refuses what is no choice with 15, whatever the train
  pub no_choice-refused : (Choice C x → ⊥) → single_run cs bk x k ≡ refuse (number wrong_choice) nowhere
  unfolding single_run
  no_choice-refused n = rw (accepted, no_choice-broken C (accepted-sound cs bk C accepted) x n)

  -- and it refuses no choice with 15
  pub refused_no_choice : single_run cs bk x k ≡ refuse (number wrong_choice) nowhere → Choice C x → ⊥
  unfolding single_run
  refused_no_choice e h = go (no_such_train C k) (rw (accepted, choice-unbroken C (accepted-sound cs bk C accepted) x h) at e)
    where
      go : (b : Bool) → then (answer_unless (first_of b 16 0) nowhere C) (λ D. answer (arrival D x k)) ≡ refuse 15 nowhere → ⊥
      go true e = omega (arith, ap (λ (r : Refusal). r.number) (refused-refused _ _ e))
      go false e = refused-answer _ _ (sym e)
