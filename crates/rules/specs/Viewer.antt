-- 01, "Files": the field viewer "holds a file's bytes and its place and gives one field after another. It judges no tag and no length: it
-- gives a field, or says that the file has ended, or gives refusal 1 and stays." Assumes nothing: these are definitions.
use Rattle.std.specs.Prelude.{cond, List, ℕ, zero, suc, ◌+◌, length, leb, ltb}
use Rattle.rules.specs.Refusals.{number}
use Rattle.rules.specs.Refusals.Fault.{overrun}
use Rattle.rules.specs.Files.{byte, word}

-- what a viewer gives
pub data View : Type 0 where
  field : ℕ → ℕ → ℕ → View  -- a field: its tag, its body's length, and the offset at which it ends
  ended : View  -- the file has ended
  overruns : View  -- refusal 1

-- the number of the refusal that it gives, 0 for none
abbrev pub refusal_of : View → ℕ
refusal_of (field tag size end) = 0
refusal_of ended = 0
refusal_of overruns = number overrun

-- where the field at offset i ends: one byte tag, two bytes length, body
abbrev pub field_end : List ℕ → ℕ → ℕ
field_end l i = i + 3 + word l (i + 1)

-- what a viewer of the file l gives at place i: the end; refusal 1 if the header or the body runs past the end; or else the field
unfoldable pub viewed : List ℕ → ℕ → View
viewed l i =
    cond (leb (length l) i) ended
    (cond (ltb (length l) (i + 3)) overruns
    (cond (ltb (length l) (field_end l i)) overruns
    (field (byte l i) (word l (i + 1)) (field_end l i))))

-- its place then: past a field; at the end and with refusal 1 it stays
abbrev pub next_place : ℕ → View → ℕ
next_place i (field tag size end) = end
next_place i ended = i
next_place i overruns = i

-- its place after it has given n times, if it stood at i
unfoldable pub place_from : ℕ → List ℕ → ℕ → ℕ
place_from zero l i = i
place_from (suc n) l i = place_from n l (next_place i (viewed l i))

-- its place after it has given n times, if it started at the file's start
abbrev pub place_of : List ℕ → ℕ → ℕ
place_of l n = place_from n l 0
