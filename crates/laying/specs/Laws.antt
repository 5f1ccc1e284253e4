-- The run after the files and the arguments, refused or laid into memory. Each law goes by the cases of a result. Assumes nothing.
use Rattle.std.specs.Prelude.{◌≡◌, List, [], Option, None, Some, ℕ, ◌≤◌, length}
use Rattle.std.proofs.Common.{sym, ap, ◌∙◌, subst, arith}
use Rattle.rules.specs.Refusals.{nowhere, Result, refuse, then, answer_unless}
use Rattle.rules.specs.Refusals.Result.{refused, answer}
use Rattle.rules.specs.Files.{Case}
use Rattle.rules.specs.Joint.{joint}
use Rattle.rules.specs.Calls.{Run, run_to, filled}
use Rattle.file_lookup.specs.declared.Sizes.{Sizes}
use Rattle.file_lookup.specs.Told.{Files}
use Rattle.file_lookup.specs.Told.Files.{Sound, Unsound}
use Rattle.out_images.specs.Rows.{Held}
use Rattle.laying.specs.declared.Answer.{Answer}
use Rattle.laying.specs.Answers.{refused_with, answered, answer_of}
use Rattle.laying.specs.Steps.{Begins, Start, run_of, files_answer, Tells, Came, Ran, Filled, entries, rows_after, weights_after, InWords, Laid}
use Rattle.laying.specs.Steps.Came.{over, stands}

pub start_tells : (cs bk : List ℕ) (m : ℕ) (f : Files) → Start cs bk m f → Tells f
start_tells cs bk m (Sound s) h = tt
start_tells cs bk m (Unsound n f p) h = h

-- the run of an accepted case
runs : (cs bk : List ℕ) (m : ℕ) {f : Files} {s : Sizes} → f ≡ Sound s → (b : Begins cs bk m s) → run_of cs bk m f ≡ run_to m b.of
runs cs bk m e b = ap (run_of cs bk m) e ∙ ap (λ (R : Result Case). then R (run_to m)) b.accepted

-- an answered run has few entries
pub ran-few : (C : Case) (m : ℕ) {r : Option ℕ} {n : ℕ} {list ws tables : List ℕ} → Ran C m r list ws tables → r ≡ Some n → n ≤ 1024
ran-few C m {r} {n} {list} {ws} ran e = go ran.came
  where
    go : Came C m r list ws → n ≤ 1024
    go (over met h) = absurd (cc (sym h ∙ e))
    go (stands {n = l} met h long few held weighed) = let same : l ≡ n = cc (sym h ∙ e) in omega arith

module _ (cs bk : List ℕ) (m : ℕ) {f : Files} {rows weights : List ℕ} {a : Answer} {tables ws rows' weights' : List ℕ} where
  -- the files or the arguments are refused
  pub laid-refused : {n i p : ℕ} → f ≡ Unsound n i p → Tells f → a ≡ files_answer f → rows' ≡ filled 16384 [] rows → weights' ≡ filled 40320 [] weights
      → Laid (run_of cs bk m f) rows weights a tables ws rows' weights'
  laid-refused e t q r w =
      let U : run_of cs bk m f ≡ refused _ = ap (run_of cs bk m) e in record {
        result = q ∙ ap files_answer e ∙ sym (ap (λ (W : Result Run). answer_of (entries W)) U);
        rows_are = r ∙ sym (ap (λ (W : Result Run). rows_after W rows) U);
        weights_are = w ∙ sym (ap (λ (W : Result Run). weights_after W weights) U);
        words = subst (λ (W : Result Run). InWords W tables ws) (sym U) (subst Tells e t).some;
      }

  module _ {s : Sizes} (e : f ≡ Sound s) (b : Begins cs bk m s) where
    -- the run meets refusal 12
    pub laid-over : {r : Option ℕ} {list : List ℕ} → Ran b.of m r list ws tables → r ≡ None → a ≡ refused_with (record { number = 12; file = 0; place = 0 })
        → rows' ≡ filled 16384 [] rows → weights' ≡ filled 40320 [] weights → Laid (run_of cs bk m f) rows weights a tables ws rows' weights'
    laid-over {r} {list} ran full q z w = go ran.came
      where
        go : Came b.of m r list ws → Laid (run_of cs bk m f) rows weights a tables ws rows' weights'
        go (over met h) =
            let U : run_of cs bk m f ≡ refuse 12 nowhere = runs cs bk m e b ∙ ap (λ (n : ℕ). answer_unless n nowhere (record { of = b.of; state = joint b.of m })) met in record {
              result = q ∙ sym (ap (λ (W : Result Run). answer_of (entries W)) U);
              rows_are = z ∙ sym (ap (λ (W : Result Run). rows_after W rows) U);
              weights_are = w ∙ sym (ap (λ (W : Result Run). weights_after W weights) U);
              words = subst (λ (W : Result Run). InWords W tables ws) (sym U) (omega arith);
            }
        go (stands met h long few held weighed) = absurd (cc (sym h ∙ full))

    -- the run is answered
    pub laid-stands : {r : Option ℕ} {n : ℕ} {list : List ℕ} → Ran b.of m r list ws tables → r ≡ Some n → a ≡ answered n
        → Filled n s.trains list ws rows weights rows' weights' → Laid (run_of cs bk m f) rows weights a tables ws rows' weights'
    laid-stands {r} {n} {list} ran some q fills = go ran.came
      where
        go : Came b.of m r list ws → Laid (run_of cs bk m f) rows weights a tables ws rows' weights'
        go (over met h) = absurd (cc (sym h ∙ some))
        go (stands {n = l} met h long few held weighed) =
            let same : l ≡ n = cc (sym h ∙ some) in
            let u : Run = record { of = b.of; state = joint b.of m } in
            let U : run_of cs bk m f ≡ answer u = runs cs bk m e b ∙ ap (λ (n : ℕ). answer_unless n nowhere u) met in
            let trains : length b.of.trains ≡ s.trains = sym (ap (λ (z : Sizes). z.trains) b.sizes) in
            let z = fills u (long ∙ same) (subst (λ (n : ℕ). Held n (joint b.of m).list list) trains held) weighed in record {
              result = q ∙ ap answered (sym (long ∙ same)) ∙ sym (ap (λ (W : Result Run). answer_of (entries W)) U);
              rows_are = z.0 ∙ sym (ap (λ (W : Result Run). rows_after W rows) U);
              weights_are = z.1 ∙ sym (ap (λ (W : Result Run). weights_after W weights) U);
              words = subst (λ (W : Result Run). InWords W tables ws) (sym U) (weighed, ran.looked);
            }
