-- What a read's answer means by its sign, and why a reading stays within its buffer: a step brings no more bytes than there was room for.
-- Assumes nothing.
use Rattle.std.specs.Prelude.{◌≡◌, ◌↔◌, IsTrue, refl, Bool, true, false, cond, List, ℕ, ◌+◌, ◌≤◌, min, T, eqb, ℤ, pos, negsuc, length, Result, Ok, Err}
use Rattle.std.proofs.Common.{sym, ap, subst, arith, length-take-le, ltb-true}
use Rattle.std.specs.Int.Signed.{lt_z}
use Rattle.std.specs.Counts.{IsPrefixLen, clamp_len}
use Rattle.std.specs.IoError.{error_kind}
use Rattle.std.specs.declared.io.Error.{Error}
use Rattle.std.specs.declared.io.ErrorKind.{ErrorKind}
use Rattle.file_input.specs.Reads.{Step, step_of, Means, Reading, reading_of, Fitting, Holds}
use Rattle.file_input.specs.Reads.Step.{More, Ended, Broken}
use Rattle.file_input.specs.Reads.Reading.{Whole}

-- ---- what a read's answer means

pub step_negative : (got : ℤ) (i : Bool) (n : ℕ) → lt_z got (pos 0) ≡ true → cond i (More 0) Broken ≡ step_of got i n
unfolding step_of
step_negative (pos k) i n e = absurd (let less = ltb-true k 0 e in omega arith)
step_negative (negsuc k) i n e = refl

pub step-counted : (got : ℤ) (i : Bool) (n m : ℕ) → lt_z got (pos 0) ≡ false → m ≡ clamp_len got n → cond (eqb m 0) Ended (More m) ≡ step_of got i n
unfolding step_of
step-counted (pos k) i n m e q = ap (λ (j : ℕ). cond (eqb j 0) Ended (More j)) q
step-counted (negsuc k) i n m e q = absurd (subst T e tt)

pub counted-means : (got : Result ℕ Error) (k n m : ℕ) → got ≡ Ok k → m ≡ min k n → Means got n (cond (eqb m 0) Ended (More m))
unfolding step_of
counted-means got k n m h q = subst (λ (r : Result ℕ Error). Means r n (cond (eqb m 0) Ended (More m))) (sym h) (ap (λ (j : ℕ). cond (eqb j 0) Ended (More j)) q)

pub failed-means : (got : Result ℕ Error) (e : Error) (n : ℕ) (i : Bool) → got ≡ Err e → (IsTrue i ↔ (error_kind e ≡ ErrorKind.Interrupted)) → Means got n (cond i (More 0) Broken)
failed-means got e n i h k = subst (λ (r : Result ℕ Error). Means r n (cond i (More 0) Broken)) (sym h) (i, k, step_negative (negsuc 0) i n refl)

-- ---- a reading stays within its buffer

pub step_fits : (got : ℤ) (i : Bool) (room from n : ℕ) → from + room ≤ n → Fitting (step_of got i room) from n
unfolding step_of
step_fits (pos k) i room from n h = go (eqb (min k room) 0)
  where
    go : (b : Bool) → Fitting (cond b Ended (More (min k room))) from n
    go true = tt
    go false = omega arith
step_fits (negsuc k) true room from n h = omega arith
step_fits (negsuc k) false room from n h = tt

pub means-fits : (got : Result ℕ Error) (room from n : ℕ) (s : Step) → Means got room s → from + room ≤ n → Fitting s from n
means-fits (Ok k) room from n s m h = subst (λ (t : Step). Fitting t from n) (sym m) (step_fits (pos k) false room from n h)
means-fits (Err e) room from n s (i, k, q) h = subst (λ (t : Step). Fitting t from n) (sym q) (step_fits (negsuc 0) i room from n h)

pub step-brought : (s : Step) (k from n : ℕ) → s ≡ More k → Fitting s from n → from + k ≤ n
step-brought s k from n e h = subst (λ (t : Step). Fitting t from n) e h

pub reading-holds : (s : Step) (done : ℕ) (bytes : List ℕ) → done ≤ length bytes → Holds (reading_of s done) bytes
reading-holds (More k) done bytes h = tt
reading-holds Ended done bytes h = (h, sym (length-take-le done bytes h))
reading-holds Broken done bytes h = tt

pub whole-counts : (r : Reading) (n : ℕ) (bytes : List ℕ) → r ≡ Whole n → Holds r bytes → IsPrefixLen n bytes
whole-counts r n bytes e h = subst (λ (s : Reading). Holds s bytes) e h
