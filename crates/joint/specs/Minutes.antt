-- Laws of the loop over the minutes: one more minute, and a minute after its clearing. A refused outcome stays refused. Assumes nothing.
use Rattle.std.specs.Prelude.{◌≡◌, refl, ℕ, zero, suc, ◌+◌, ◌≤◌, ◌<◌, length, take, get_or}
use Rattle.std.proofs.Math.Path.{ap, sym}
use Rattle.std.proofs.Common.{◌∙◌, arith}
use mathlib.Core.List.{List}
use Rattle.rows.specs.Rows.{Row, rows_of}
use Rattle.waiting.specs.Notes.{Flagged}
use Rattle.visiting.specs.Visit.{Outcome, pass_of, read, Kept, Seen}
use Rattle.visiting.specs.Visit.Outcome.{refused, stands}
use Rattle.visiting.specs.Visiting.{read_in, read_out}
use Rattle.visiting.specs.Unmoved.{pass-over}
use Rattle.elements.specs.Elements.{up_to, element_of, elements_of}
use Rattle.clearing.specs.Clear.{Due, Cleared}
use Rattle.clearing.specs.Clearing.{noted-due}
use Rattle.entries.specs.Run.{cleared_of, minute_of, minutes_of}

-- ---- one more

pub minutes-none : (T : List ℕ) (o : Outcome) → minutes_of T 0 o ≡ o
unfolding minutes_of
minutes-none T o = refl

pub minutes-more : (T : List ℕ) (t : ℕ) (o : Outcome) → minutes_of T (t + 1) o ≡ minute_of T t (minutes_of T t o)
unfolding minutes_of
minutes-more T t o = let z : t + 1 ≡ suc t = omega arith in ap (λ (y : ℕ). up_to (minute_of T) y o) z

-- ---- a minute

elements-over : (T : List ℕ) (t m : ℕ) → elements_of T t m refused ≡ refused
unfolding elements_of element_of
elements-over T t m = go m
  where
    passes : (e n : ℕ) → up_to (λ j. pass_of T t e (get_or T (8 + j) 0)) n refused ≡ refused
    passes e zero = refl
    passes e (suc n) = ap (pass_of T t e (get_or T (8 + n) 0)) (passes e n) ∙ pass-over T t e (get_or T (8 + n) 0)

    go : (m : ℕ) → up_to (λ e. up_to (λ j. pass_of T t e (get_or T (8 + j) 0)) (get_or T 0 0)) m refused ≡ refused
    go zero = refl
    go (suc m) = ap (up_to (λ j. pass_of T t m (get_or T (8 + j) 0)) (get_or T 0 0)) (go m) ∙ passes m (get_or T 0 0)

-- what a minute leaves: its outcome, whole rows, and what is noted of them before the next
pub record Passes (T : List ℕ) (t : ℕ) (o : Outcome) (r : ℕ) (rows weights notes : List ℕ) : Type 0 where
  pub outcome : read r rows weights ≡ o
  pub kept : Kept r rows
  pub flagged : Flagged notes
  pub due : r < length rows → Due T (t + 1) notes (rows_of (take r rows))

module _ (T : List ℕ) (t w : ℕ) (rows weights : List ℕ) (kept : Kept w rows) where
  pub minute-over : (N : List ℕ) → Flagged N → length rows ≤ w → Passes T t (minute_of T t (read w rows weights)) w rows weights N
  unfolding minute_of cleared_of
  minute-over N F h = record {
    outcome = read_out w rows weights h ∙ sym (ap (λ (o : Outcome). elements_of T t 65 (cleared_of t o)) (read_out w rows weights h) ∙ elements-over T t 65);
    kept = kept;
    flagged = F;
    due = λ less. absurd (omega arith);
  }

  -- after clearing the first v words are left
  pub minute-all : (v r : ℕ) (rows' M rows'' weights'' N'' : List ℕ) → w < length rows → length rows' ≡ length rows → Cleared T t (rows_of (take w rows)) w v rows' M
      → Seen T t (elements_of T t 65 (read v rows' weights)) r rows'' weights'' N''
      → Passes T t (minute_of T t (read w rows weights)) r rows'' weights'' N''
  unfolding minute_of cleared_of
  minute-all v r rows' M rows'' weights'' N'' h same c s = record {
    outcome = s.outcome
        ∙ ap (elements_of T t 65) (read_in v rows' weights (omega (arith, c.less)) ∙ ap (λ (l : List Row). stands l weights) c.list ∙ sym (ap (cleared_of t) (read_in w rows weights h)));
    kept = s.kept;
    flagged = s.flagged;
    due = λ less. noted-due T t N'' (rows_of (take r rows'')) (s.noted less);
  }
