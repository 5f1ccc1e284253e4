-- The single run: refused with its files and arguments, or the minute that its words give. It goes by the cases of the files and of the arguments.
-- Assumes nothing.
use Rattle.std.specs.Prelude.{◌≡◌, Bool, List, ℕ, ◌<◌, length, get_or}
use Rattle.std.proofs.Math.Path.{refl}
use Rattle.std.proofs.Common.{sym, ap, ◌∙◌, subst, arith}
use Rattle.std.proofs.Math.Bool.{true, false}
use Rattle.std.proofs.Math.Dec.{leb}
use borrow.Author.Tests.{leb-false}
use Rattle.rules.specs.Refusals.{Result, then}
use Rattle.rules.specs.Refusals.Result.{refused, answer}
use Rattle.rules.specs.Files.{Case, files}
use Rattle.rules.specs.Single.{arrival}
use Rattle.rules.specs.Calls.{choice_broken, no_such_train, single_run}
use Rattle.rules.specs.Promised.{Bytes}
use Rattle.theory_sound.specs.Facts.{Sound}
use Rattle.theory_sound.proofs.Accepted.{accepted-sound}
use Rattle.theory_codes.specs.Tables.{tables}
use Rattle.theory_passes.specs.Bounds.{ByteDelays}
use Rattle.file_lookup.specs.declared.Sizes.{Sizes}
use Rattle.file_lookup.specs.Told.{Files}
use Rattle.file_lookup.specs.Told.Files.{Sound as SoundFiles, Unsound as UnsoundFiles}
use Rattle.file_lookup.specs.Answers.{sizes_of, files_of}
use Rattle.file_lookup.specs.Laws.{sound_unsound}
use Rattle.file_arguments.specs.Arguments.{for_single}
use Rattle.single_laws.specs.Runs.{Arrives}
use Rattle.single_laws.specs.Plan.{Planned, tables-planned}
use Rattle.single_laws.specs.Low.{tables-last}
use Rattle.laying.specs.declared.Answer.{Answer}
use Rattle.laying.specs.Answers.{answered}
use Rattle.desk.specs.Answers.{single_answer}
use Rattle.laying.specs.Steps.{files_answer, Tells}
use Rattle.desk.specs.Laws.{Judged, refused-files, argument_fits}
use Rattle.desk.specs.Laws.Judged.{stopped, goes}
use Rattle.laying.specs.Delays.{byte-delays}

-- the choice is one of the case, and the train too
pub record Chosen (x : List ℕ) (k : ℕ) (C : Case) : Type 0 where
  pub choice : choice_broken C x ≡ false
  pub known : k < length C.trains

module _ (cs bk x : List ℕ) (k : ℕ) where
  single-run : then (for_single cs bk x k) (λ D. answer (arrival D x k)) ≡ single_run cs bk x k
  unfolding for_single single_run
  single-run = refl

  single-judged : Judged cs bk (Chosen x k) (for_single cs bk x k)
  unfolding for_single no_such_train
  single-judged = go (files cs bk) refl
    where
      none : (C : Case) → files cs bk ≡ answer C → choice_broken C x ≡ false → (b : Bool) → leb (length C.trains) k ≡ b → Judged cs bk (Chosen x k) (for_single cs bk x k)
      none C e p true h = stopped (record { number = 16; file = 0; place = 0 }) (argument_fits cs bk 16 (omega arith) (omega arith)) (rw (e, p, h))
      none C e p false h = goes C e (record { choice = p; known = leb-false (length C.trains) k h }) (rw (e, p, h))

      wrong : (C : Case) → files cs bk ≡ answer C → (b : Bool) → choice_broken C x ≡ b → Judged cs bk (Chosen x k) (for_single cs bk x k)
      wrong C e true h = stopped (record { number = 15; file = 0; place = 0 }) (argument_fits cs bk 15 (omega arith) (omega arith)) (rw (e, h))
      wrong C e false h = none C e h (leb (length C.trains) k) refl

      go : (R : Result Case) → files cs bk ≡ R → Judged cs bk (Chosen x k) (for_single cs bk x k)
      go (refused r) e = refused-files cs bk r e (rw e)
      go (answer C) e = wrong C e (choice_broken C x) refl

  module _ {f : Files} (e : f ≡ files_of (for_single cs bk x k)) where
    pub single_tells : Tells f
    single_tells = go single-judged
      where
        go : Judged cs bk (Chosen x k) (for_single cs bk x k) → Tells f
        go (stopped r h q) = subst Tells (sym (e ∙ ap files_of q)) h
        go (goes C h c q) = subst Tells (sym (e ∙ ap files_of q)) tt

    pub single-refused : {n i p : ℕ} {a : Answer} → f ≡ UnsoundFiles n i p → a ≡ files_answer f → a ≡ single_answer (single_run cs bk x k)
    single-refused {a = a} u w = go single-judged
      where
        go : Judged cs bk (Chosen x k) (for_single cs bk x k) → a ≡ single_answer (single_run cs bk x k)
        go (stopped r h q) =
            w ∙ ap files_answer (e ∙ ap files_of q) ∙ ap (λ (R : Result Case). single_answer (then R (λ D. answer (arrival D x k)))) (sym q) ∙ ap single_answer single-run
        go (goes C h c q) = absurd (sound_unsound _ _ _ _ (sym (sym u ∙ e ∙ ap files_of q)))

    -- the case that the run is of
    pub record Ready (s : Sizes) : Type 0 where
      pub of : Case
      pub accepted : files cs bk ≡ answer of
      pub sizes : s ≡ sizes_of of
      pub chosen : Chosen x k of
      pub told_as : for_single cs bk x k ≡ answer of

    pub single-ready : {s : Sizes} → f ≡ SoundFiles s → Ready s
    single-ready {s} u = go single-judged
      where
        go : Judged cs bk (Chosen x k) (for_single cs bk x k) → Ready s
        go (stopped r h q) = absurd (sound_unsound _ _ _ _ (sym u ∙ e ∙ ap files_of q))
        go (goes C h c q) = let t = sym u ∙ e ∙ ap files_of q in record { of = C; accepted = h; sizes = cc t; chosen = c; told_as = q }

    module _ {s : Sizes} (ready : Ready s) (tb : List ℕ) (looked : tb ≡ tables ready.of) where
      -- what the single run on words asks of its tables
      pub single-small : Bytes cs → Bytes bk → Planned tb × (k < 4294967296) × (get_or tb 1 0 < 65535)
      single-small p q =
          let sound : Sound ready.of = accepted-sound cs bk ready.of ready.accepted in
          let bytes : ByteDelays ready.of = byte-delays cs bk ready.of p q ready.accepted in (
            subst Planned (sym looked) (tables-planned ready.of sound bytes),
            omega (arith, ready.chosen.known, sound.few_trains),
            subst (λ (l : List ℕ). get_or l 1 0 < 65535) (sym looked) (tables-last ready.of sound bytes),
          )

      pub single-answered : {r : ℕ} {a : Answer} → Arrives tb x k r → a ≡ answered r → a ≡ single_answer (single_run cs bk x k)
      single-answered h w =
          w
          ∙ ap answered (h ready.of (accepted-sound cs bk ready.of ready.accepted) looked ready.chosen.choice ready.chosen.known)
          ∙ ap (λ (R : Result Case). single_answer (then R (λ D. answer (arrival D x k)))) (sym ready.told_as)
          ∙ ap single_answer single-run
