-- 01, "Refusal numbers": each refusal named once, with its number in 01 or 02, and which refusal comes of several broken rules: that of the first.
-- Assumes nothing: these are definitions.
use Rattle.std.specs.Prelude.{Bool, true, false, List, [], ◌∷◌, ℕ, zero, suc}

infix 70 ◌when◌
pub data Fault : Type 0 where
  overrun unknown_tag misplaced wrong_length wrong_count out_of_range wrong_ends wrong_path wrong_times wrong_table no_table : Fault
  no_room too_short wrong_choice no_train stop_too_late wrong_couple : Fault

abbrev pub number : Fault → ℕ
number overrun = 1  -- a field's header or body runs past the end
number unknown_tag = 2  -- tag 0 or above 6
number misplaced = 3  -- in a case: first field no head, a second head or a falling tag; in a book: a tag other than 5
number wrong_length = 4  -- length not possible for the tag
number wrong_count = 5  -- one station, track, train, table or couple too many; at the end of a case, no head, station or train
number out_of_range = 6  -- T, safety time, room or capacity out of range
number wrong_ends = 7  -- track with an unknown end, equal ends, or the ends of an earlier track
number wrong_path = 8  -- path with an unknown or repeated station or a missing track
number wrong_times = 9  -- times out of order or past T
number wrong_table = 10  -- delay table breaks a rule
number no_table = 11  -- a train's type has no table
number no_room = 12  -- list of entries passes the room
-- 13 is retired and not used again (request 10 of 02): no refusal has it (`number-given`, crate `theory_sound`)
number too_short = 14  -- lent memory too short
number wrong_choice = 15  -- choice with a wrong count or an index past the table
number no_train = 16  -- no such train
number stop_too_late = 17  -- stop minute above T
number wrong_couple = 18  -- couple with an unknown track, ends that don't mirror, unequal capacities, or a track already coupled

-- a rule: what it is refused for, and whether it is broken
pub record Rule : Type 0 where
  pub fault : Fault
  pub broken : Bool

-- the rule that is broken if b
abbrev pub ◌when◌ : Fault → Bool → Rule
f when b = record { fault = f; broken = b }

-- n if it is so, and otherwise m
abbrev pub first_of : Bool → ℕ → ℕ → ℕ
first_of true n m = n
first_of false n m = m

-- the number of the first broken rule, 0 if none is broken
abbrev pub verdict : List Rule → ℕ
verdict [] = 0
verdict (r ∷ rs) = first_of r.broken (number r.fault) (verdict rs)

-- an answer of refusal: the number, the file (0 case, 1 book) and a place
pub record Refusal : Type 0 where
  pub number : ℕ
  pub file : ℕ
  pub place : ℕ

-- what a reading or a call comes to
pub data Result (A : Type 0) : Type 0 where
  refused : Refusal → Result A
  answer : A → Result A

-- where a refusal points: the file (0 case, 1 book) and a place in it
pub record Spot : Type 0 where
  pub file : ℕ
  pub place : ℕ

-- of a refusal that is about no field
abbrev pub nowhere : Spot
nowhere = record { file = 0; place = 0 }

-- the refusal with number n at the spot
abbrev pub refuse : {A : Type 0} → ℕ → Spot → Result A
refuse n s = refused (record { number = n; file = s.file; place = s.place })

-- a refusal stays; an answer goes on
abbrev pub then : {A B : Type 0} → Result A → (A → Result B) → Result B
then (refused r) go = refused r
then (answer a) go = go a

-- a number that was met refuses at the spot; if none was met, which is 0, a is answered
abbrev pub answer_unless : {A : Type 0} → ℕ → Spot → A → Result A
answer_unless zero s a = answer a
answer_unless (suc n) s a = refuse (suc n) s

-- the first broken rule refuses at the spot; if none is broken, a is answered
abbrev pub judged : {A : Type 0} → List Rule → Spot → A → Result A
judged rules s a = answer_unless (verdict rules) s a
