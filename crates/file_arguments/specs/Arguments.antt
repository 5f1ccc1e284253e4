-- The sound case of a call, or the first refusal of the files and of the call's arguments; and the test of a choice in a form that runs by
-- offset. Assumes nothing: these are definitions.
use Rattle.std.specs.Prelude.{Bool, true, cond, List, [], ◌∷◌, ℕ, ◌+◌, ◌-◌, ◌/◌, length, leb, ltb, eqb}
use Rattle.rules.specs.Refusals.{Result, ◌when◌}
use Rattle.rules.specs.Refusals.Fault.{wrong_choice, no_train, stop_too_late}
use Rattle.rules.specs.Files.{Case, byte}
use Rattle.rules.specs.Calls.{case_for, choice_broken, no_such_train}
use Rattle.file_fields.specs.declared.refusals.Fault.{Fault}
use Rattle.file_fields.specs.declared.refusals.Refusal.{Refusal}
use Rattle.file_bodies.specs.Bodies.{any_below}
use Rattle.file_lookup.specs.Lookup.{table_bytes, train_place}

-- the single run takes a choice and a train
unfoldable pub for_single : List ℕ → List ℕ → List ℕ → ℕ → Result Case
for_single cs bk x k = case_for cs bk (λ C. wrong_choice when choice_broken C x ∷ no_train when no_such_train C k ∷ [])

-- the figures take a train
unfoldable pub for_train : List ℕ → List ℕ → ℕ → Result Case
for_train cs bk k = case_for cs bk (λ C. no_train when no_such_train C k ∷ [])

-- the run takes a stop minute
unfoldable pub for_stop : List ℕ → List ℕ → ℕ → Result Case
for_stop cs bk m = case_for cs bk (λ C. stop_too_late when ltb C.head.last_minute m ∷ [])

-- the number of pairs of train k's table is at most its index in the choice
unfoldable pub past_table : List ℕ → List ℕ → List ℕ → ℕ → Bool
past_table cs bk x k = leb ((length (table_bytes cs bk (byte cs (train_place cs k + 4))) - 1) / 2) (byte x k)

-- the choice x has not n indices, or one past its train's table
unfoldable pub choice_wrong : List ℕ → List ℕ → ℕ → List ℕ → Bool
choice_wrong cs bk n x = cond (eqb (length x) n) (any_below (past_table cs bk x) n) true

-- the code's refusal that points nowhere
abbrev pub nowhere : Fault → Refusal
nowhere f = record { fault = f; file = 0; place = 0 }
