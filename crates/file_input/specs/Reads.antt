-- What a read's answer means, and what a file's reading promises of the buffer. Assumes nothing: these are definitions.
use Rattle.std.specs.Prelude.{◌≡◌, ◌↔◌, IsTrue, Bool, false, cond, List, ℕ, ◌+◌, ◌≤◌, min, eqb, ℤ, pos, negsuc, Result, Ok, Err}
use Rattle.std.specs.Counts.{IsPrefixLen}
use Rattle.std.specs.IoError.{error_kind}
use Rattle.std.specs.declared.io.Error.{Error}
use Rattle.std.specs.declared.io.ErrorKind.{ErrorKind}
use Rattle.std.specs.declared.ops.ControlFlow.{ControlFlow}
use Rattle.std.specs.declared.ops.ControlFlow.TheVariants.{Continue, Break}
use Rattle.file_input.specs.declared.ReadFailed.{ReadFailed}

-- what one read came to: so many bytes, none of them where a signal came first; the end of the file; or a failure
pub data Step : Type 0 where
  More : ℕ → Step
  Ended : Step
  Broken : Step

-- what reading a file came to: so many bytes, up to the file's end or as many as there was room for; or a read failed before that
pub data Reading : Type 0 where
  Whole : ℕ → Reading
  Failed : Reading

-- the same, from the code's answers
abbrev pub told_step : ControlFlow (Result (Unit {0}) ReadFailed) ℕ → Step
told_step (Continue n) = More n
told_step (Break (Ok u)) = Ended
told_step (Break (Err e)) = Broken

abbrev pub told : Result ℕ ReadFailed → Reading
told (Ok n) = Whole n
told (Err e) = Failed

-- a read that was handed room for n bytes: below 0 it was interrupted or failed, 0 is the end of the file, and else it brought so many bytes
unfoldable pub step_of : ℤ → Bool → ℕ → Step
step_of (pos k) interrupted n = cond (eqb (min k n) 0) Ended (More (min k n))
step_of (negsuc k) interrupted n = cond interrupted (More 0) Broken

-- what the result of a read that was handed room for n bytes means: a count is an answer from 0 on, and an error one below 0, interrupted if its
-- kind says so
abbrev pub Means : Result ℕ Error → ℕ → Step → Type 0
Means (Ok k) n s = s ≡ step_of (pos k) false n
Means (Err e) n s = (i : Bool) × (IsTrue i ↔ (error_kind e ≡ ErrorKind.Interrupted)) × (s ≡ step_of (negsuc 0) i n)

-- only the end of the file, after so many bytes, makes a reading whole
abbrev pub reading_of : Step → ℕ → Reading
reading_of (More k) done = Failed
reading_of Ended done = Whole done
reading_of Broken done = Failed

-- a step that reads from a place on brings no more bytes than there is room for
abbrev pub Fitting : Step → ℕ → ℕ → Type 0
Fitting (More k) from n = from + k ≤ n
Fitting Ended from n = Unit {0}
Fitting Broken from n = Unit {0}

-- the bytes that were read stand at the start of the buffer
abbrev pub Holds : Reading → List ℕ → Type 0
Holds (Whole n) bytes = IsPrefixLen n bytes
Holds Failed bytes = Unit {0}
