-- What the two plain calls come to, from their definitions: 14 where the weights are too short; refused as the files and the stop minute are; or the choices that
-- were run, and what they add, laid into the weights. Each law goes by the cases of a result. Assumes nothing.
use Rattle.std.specs.Prelude.{◌≡◌, ℕ, ◌+◌, ◌-◌, ◌≤◌, ◌<◌, replicate}
use Rattle.std.proofs.Math.Path.{refl, ap}
use Rattle.std.proofs.Common.{sym, ◌∙◌, subst, arith, take_all}
use mathlib.Core.List.{List, []}
use Rattle.std.proofs.Math.ListN.{length}
use Rattle.rules.specs.Lists.{fold}
use Rattle.rules.specs.Refusals.{Result, then}
use Rattle.rules.specs.Refusals.Result.{refused, answer}
use Rattle.rules.specs.Files.{Case, files}
use Rattle.rules.specs.Joint.{choices}
use Rattle.rules.specs.Calls.{image_by, filled}
use Rattle.rules.specs.Decoded.{weight_in}
use Rattle.rules.specs.Plain.{Plain, added_by, capped, plain_of, plain_image, part_image, LentWeights, weighed, weighing}
use Rattle.rules.specs.Promised.{Bytes}
use Rattle.theory_sound.specs.Facts.{Sound}
use Rattle.theory_sound.proofs.Accepted.{accepted-sound}
use Rattle.theory_codes.specs.Tables.{tables}
use Rattle.theory_plain.specs.Numbered.{times, choices-count, combinations-most}
use Rattle.theory_plain.specs.Decided.{plain_on, weighing-short, weighing-long}
use Rattle.file_lookup.specs.Told.{Files}
use Rattle.file_lookup.specs.Told.Files.{Sound as SoundFiles, Unsound as UnsoundFiles}
use Rattle.file_lookup.specs.declared.Sizes.{Sizes}
use Rattle.file_lookup.specs.Answers.{files_of}
use Rattle.file_lookup.specs.Laws.{sound_unsound}
use Rattle.file_arguments.specs.Arguments.{for_stop}
use Rattle.words.specs.Spans.{onward}
use Rattle.plain.specs.Words.{Plotted, sizes_in, added_in, past_in}
use Rattle.plain.specs.Counting.{Tallied, part, tallied_first}
use Rattle.plain.specs.Whole.{tables_plotted, part_count, part_tallied}
use Rattle.out_images.specs.Rows.{Weighs}
use Rattle.laying.specs.declared.Answer.{Answer}
use Rattle.laying.specs.Answers.{refused_with, answered}
use Rattle.laying.specs.Steps.{Begins, Start, Tells, files_answer}
use Rattle.laying.specs.Delays.{byte-delays}
use Rattle.desk.specs.Answers.{GivesWeights}
use Rattle.desk.specs.Laws.{Judged, In, stop-judged}
use Rattle.desk.specs.Laws.Judged.{stopped, goes}

-- r choices of the part were run, and the words are what they add
abbrev pub Ran : List ℕ → List ℕ → ℕ → ℕ → ℕ → ℕ → List ℕ → Type 0
Ran cs bk m first most r ws =
    (C : Case) → files cs bk ≡ answer C → (r ≡ length (part C first most)) × Weighs (added_by C m (part C first most)) ws

-- ---- the run on words

module _ (cs bk : List ℕ) (m : ℕ) {s : Sizes} (b : Begins cs bk m s) (tb : List ℕ) (looked : tb ≡ tables b.of) where
  -- what the plain engine asks of its tables
  pub plain_plotted : Bytes cs → Bytes bk → Plotted tb m
  plain_plotted p q =
      subst (λ (l : List ℕ). Plotted l m) (sym looked)
      (tables_plotted b.of (accepted-sound cs bk b.of b.accepted) m b.within (byte-delays cs bk b.of p q b.accepted))

  tallied_weighs : {xs : List (List ℕ)} {ws : List ℕ} → Tallied b.of m xs ws → Weighs (added_by b.of m xs) ws
  tallied_weighs h = record { long = omega (arith, h.size); words = λ k t l q. h.words k t (omega arith) q }

  pub plain_ran : (first most r : ℕ) (ws : List ℕ) {ws' : List ℕ} → ws ≡ replicate {A = ℕ} 5760 0 → r ≡ past_in (times (sizes_in tb)) first most - first
      → ws' ≡ fold (added_in tb m) (onward (past_in (times (sizes_in tb)) first most) first) ws → Ran cs bk m first most r ws'
  plain_ran first most r ws {ws'} zeros counts adds C e =
      let sound : Sound b.of = accepted-sound cs bk b.of b.accepted in
      let same : b.of ≡ C = cc (sym b.accepted ∙ e) in
      subst (λ (D : Case). (r ≡ length (part D first most)) × Weighs (added_by D m (part D first most)) ws') same (
        counts ∙ ap (λ (l : List ℕ). past_in (times (sizes_in l)) first most - first) looked ∙ part_count b.of sound m b.within first most,
        tallied_weighs
            (subst (Tallied b.of m (part b.of first most))
            (sym (adds ∙ ap (λ (l : List ℕ). fold (added_in l m) (onward (past_in (times (sizes_in l)) first most) first) ws) looked))
            (part_tallied b.of sound m b.within first most ws (tallied_first b.of sound m ws zeros))),
      )

-- ---- the ends of a call

pub start_tells : (cs bk : List ℕ) (m : ℕ) (f : Files) → Start cs bk m f → Tells f
start_tells cs bk m (SoundFiles s) h = tt
start_tells cs bk m (UnsoundFiles n i p) h = h

-- the case that the run is of
pub start_begins : (cs bk : List ℕ) (m : ℕ) {f : Files} {s : Sizes} → f ≡ SoundFiles s → Start cs bk m f → Begins cs bk m s
start_begins cs bk m e h = subst (Start cs bk m) e h

module _ (which : Case → List (List ℕ)) (image : Plain → List ℕ) (cs bk : List ℕ) (m : ℕ) (weights : List ℕ) where
  -- the files and the stop minute, and then the choices
  plain_stop : then (for_stop cs bk m) (λ C. answer (plain_on C m (which C))) ≡ plain_of which cs bk m
  unfolding for_stop
  plain_stop = refl

  pub plain_short : {a : Answer} → a ≡ refused_with (record { number = 14; file = 0; place = 0 }) → length weights < 40320
      → GivesWeights (weighing image weights (plain_of which cs bk m)) a weights
  plain_short {a} q h =
      subst (λ (L : LentWeights). GivesWeights L a weights) (sym (weighing-short image weights (plain_of which cs bk m) h)) (record { result = q; weights_are = refl })

  module _ {f : Files} (e : f ≡ files_of (for_stop cs bk m)) (long : 40320 ≤ length weights) where
    pub plain_refused : {n i p : ℕ} {a : Answer} {weights' : List ℕ} → f ≡ UnsoundFiles n i p → a ≡ files_answer f → weights' ≡ filled 40320 [] weights
        → GivesWeights (weighing image weights (plain_of which cs bk m)) a weights'
    plain_refused {a = a} {weights' = weights'} u w c = go (stop-judged cs bk m)
      where
        go : Judged cs bk (In cs bk m) (for_stop cs bk m) → GivesWeights (weighing image weights (plain_of which cs bk m)) a weights'
        go (stopped r h q) =
            let came : plain_of which cs bk m ≡ refused r = sym plain_stop ∙ ap (λ (R : Result Case). then R (λ C. answer (plain_on C m (which C)))) q in
            subst (λ (L : LentWeights). GivesWeights L a weights')
            (sym (weighing-long image weights (plain_of which cs bk m) long ∙ ap (weighed image weights) came))
            (record { result = w ∙ ap files_answer (e ∙ ap files_of q); weights_are = c })
        go (goes C h l q) = absurd (sound_unsound _ _ _ _ (sym (sym u ∙ e ∙ ap files_of q)))

    pub plain_answered : {s : Sizes} {n : ℕ} {a : Answer} {weights' : List ℕ} → f ≡ SoundFiles s → a ≡ answered n
        → ((C : Case) → files cs bk ≡ answer C → (n ≡ length (which C)) × (weights' ≡ filled 40320 (image (plain_on C m (which C))) weights))
        → GivesWeights (weighing image weights (plain_of which cs bk m)) a weights'
    plain_answered {n = n} {a = a} {weights' = weights'} u w ran = go (stop-judged cs bk m)
      where
        go : Judged cs bk (In cs bk m) (for_stop cs bk m) → GivesWeights (weighing image weights (plain_of which cs bk m)) a weights'
        go (stopped r h q) = absurd (sound_unsound _ _ _ _ (sym u ∙ e ∙ ap files_of q))
        go (goes C h l q) =
            let came : plain_of which cs bk m ≡ answer (plain_on C m (which C)) = sym plain_stop ∙ ap (λ (R : Result Case). then R (λ C. answer (plain_on C m (which C)))) q in
            subst (λ (L : LentWeights). GivesWeights L a weights')
            (sym (weighing-long image weights (plain_of which cs bk m) long ∙ ap (weighed image weights) came))
            (record { result = w ∙ ap answered (ran C h).0; weights_are = (ran C h).1 })

-- ---- every choice

module _ (cs bk : List ℕ) (m : ℕ) (weights : List ℕ) where
  -- all of them are one part
  whole_part : (C : Case) → files cs bk ≡ answer C → part C 0 18446744073709551615 ≡ choices C
  whole_part C e =
      let sound : Sound C = accepted-sound cs bk C e in
      take_all 18446744073709551615 (choices C) (omega (arith, choices-count C sound, combinations-most C sound))

  pub whole-ran : {n : ℕ} {ws weights' : List ℕ} → Ran cs bk m 0 18446744073709551615 n ws
      → ((weight : ℕ → ℕ → ℕ) → Weighs weight ws → weights' ≡ filled 40320 (image_by weight) weights)
      → (C : Case) → files cs bk ≡ answer C → (n ≡ length (choices C)) × (weights' ≡ filled 40320 (plain_image (plain_on C m (choices C))) weights)
  unfolding plain_image
  whole-ran {ws = ws} ran put C e =
      let all = whole_part C e in (
        (ran C e).0 ∙ ap (λ (xs : List (List ℕ)). length xs) all,
        put (added_by C m (choices C)) (subst (λ (xs : List (List ℕ)). Weighs (added_by C m xs) ws) all (ran C e).1),
      )

  pub part-ran : (first most : ℕ) {n : ℕ} {ws weights' : List ℕ} → Ran cs bk m first most n ws
      → ((weight : ℕ → ℕ → ℕ) → Weighs weight ws → weights' ≡ filled 40320 (image_by (λ k t. capped (weight_in weights k t + weight k t))) weights)
      → (C : Case) → files cs bk ≡ answer C
      → (n ≡ length (part C first most)) × (weights' ≡ filled 40320 (part_image weights (plain_on C m (part C first most))) weights)
  unfolding part_image
  part-ran first most ran add C e = ((ran C e).0, add (added_by C m (part C first most)) (ran C e).1)
