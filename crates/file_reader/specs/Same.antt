-- The code's answer tells all that the reading's does, and the reading's all that the code's does: answers that are told alike are the same.
-- Assumes nothing.
use Rattle.std.specs.Prelude.{◌≡◌, refl, cond, ℕ, Result, Ok, Err, eqb}
use Rattle.std.proofs.Common.{ap, sym, ◌∙◌}
use Rattle.file_fields.specs.declared.refusals.Fault.{Fault}
use Rattle.file_fields.specs.declared.refusals.Fault.TheVariants.{Overrun, UnknownTag, Misplaced, WrongLength, WrongCount, OutOfRange, WrongEnds, WrongPath, WrongTimes, WrongTable, NoTable, NoRoom, TooShort, WrongChoice, NoTrain, StopTooLate, WrongCouple}
use Rattle.file_fields.specs.Faults.{number_of}
use Rattle.file_reader.specs.declared.Counts.{Counts}
use Rattle.file_reader.specs.declared.Misread.{Misread}
use Rattle.file_reader.specs.Told.{told}

-- the fault with a number
unfoldable numbered : ℕ → Fault
numbered n =
    cond (eqb n 1) Overrun
    (cond (eqb n 2) UnknownTag
    (cond (eqb n 3) Misplaced
    (cond (eqb n 4) WrongLength
    (cond (eqb n 5) WrongCount
    (cond (eqb n 6) OutOfRange
    (cond (eqb n 7) WrongEnds
    (cond (eqb n 8) WrongPath
    (cond (eqb n 9) WrongTimes
    (cond (eqb n 10) WrongTable
    (cond (eqb n 11) NoTable
    (cond (eqb n 12) NoRoom
    (cond (eqb n 14) TooShort
    (cond (eqb n 15) WrongChoice
    (cond (eqb n 16) NoTrain
    (cond (eqb n 17) StopTooLate
    WrongCouple)))))))))))))))

numbered_back : (f : Fault) → numbered (number_of f) ≡ f
unfolding numbered
numbered_back Overrun = refl
numbered_back UnknownTag = refl
numbered_back Misplaced = refl
numbered_back WrongLength = refl
numbered_back WrongCount = refl
numbered_back OutOfRange = refl
numbered_back WrongEnds = refl
numbered_back WrongPath = refl
numbered_back WrongTimes = refl
numbered_back WrongTable = refl
numbered_back NoTable = refl
numbered_back NoRoom = refl
numbered_back TooShort = refl
numbered_back WrongChoice = refl
numbered_back NoTrain = refl
numbered_back StopTooLate = refl
numbered_back WrongCouple = refl

-- faults with one number are one
pub same_fault : (f g : Fault) → number_of f ≡ number_of g → f ≡ g
same_fault f g h = sym (numbered_back f) ∙ ap numbered h ∙ numbered_back g

pub same_told : (r s : Result Counts Misread) → told r ≡ told s → r ≡ s
same_told (Ok c) (Ok d) h = let e : c ≡ d = cc in ap Ok e
same_told (Ok c) (Err n) h = cc
same_told (Err m) (Ok d) h = cc
same_told (Err m) (Err n) h =
    let f = same_fault m.fault n.fault (cc) in
    let p : m.place ≡ n.place = cc in
    let e : m ≡ n = rw (f, p) in
    ap Err e
