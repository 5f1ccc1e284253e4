-- What the code calls the paper's faults, and their numbers.
-- Assumes nothing: these are definitions.
use Rattle.std.specs.Prelude.{ℕ, Result, Ok, Err}
use Rattle.rules.specs.Refusals as rules
use Rattle.file_fields.specs.declared.refusals.Fault.{Fault}
use Rattle.file_fields.specs.declared.refusals.Fault.TheVariants.{Overrun, UnknownTag, Misplaced, WrongLength, WrongCount, OutOfRange, WrongEnds, WrongPath, WrongTimes, WrongTable, NoTable, NoRoom, TooShort, WrongChoice, NoTrain, StopTooLate, WrongCouple}

-- the paper's fault
abbrev pub fault_of : Fault → rules.Fault
fault_of Overrun = rules.Fault.overrun
fault_of UnknownTag = rules.Fault.unknown_tag
fault_of Misplaced = rules.Fault.misplaced
fault_of WrongLength = rules.Fault.wrong_length
fault_of WrongCount = rules.Fault.wrong_count
fault_of OutOfRange = rules.Fault.out_of_range
fault_of WrongEnds = rules.Fault.wrong_ends
fault_of WrongPath = rules.Fault.wrong_path
fault_of WrongTimes = rules.Fault.wrong_times
fault_of WrongTable = rules.Fault.wrong_table
fault_of NoTable = rules.Fault.no_table
fault_of NoRoom = rules.Fault.no_room
fault_of TooShort = rules.Fault.too_short
fault_of WrongChoice = rules.Fault.wrong_choice
fault_of NoTrain = rules.Fault.no_train
fault_of StopTooLate = rules.Fault.stop_too_late
fault_of WrongCouple = rules.Fault.wrong_couple

-- its number in the paper
abbrev pub number_of : Fault → ℕ
number_of f = rules.number (fault_of f)

-- the number of what is wrong, 0 if nothing is
abbrev pub number_in : Result (Unit {0}) Fault → ℕ
number_in (Ok _) = 0
number_in (Err f) = number_of f
