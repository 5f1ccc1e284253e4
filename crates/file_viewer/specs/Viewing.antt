-- The viewer's answers in the code's words, by 01's definitions; and what a file holds by the fields that a viewer gives.
-- Assumes nothing: these are definitions.
use Rattle.std.specs.Prelude.{List, ℕ, zero, suc, ◌+◌, take, drop}
use Rattle.rules.specs.Files.{Contents, kind_of, more}
use Rattle.rules.specs.Viewer.{View, viewed, next_place, place_of}
use Rattle.rules.specs.Viewer.View.{field, ended, overruns}
use Rattle.file_fields.specs.declared.Field.{Field}
use Rattle.file_fields.specs.declared.Field.TheVariants.{Whole, Ended, Overrun}
use Rattle.file_fields.specs.Fields.{field_of}
use Rattle.file_viewer.specs.declared.Viewing.{Viewing}

-- the place after the code's answer at i: past a field; at the end and with refusal 1 the viewer stays
abbrev pub place_after : ℕ → Field → ℕ
place_after i (Whole tag size end) = end
place_after i Ended = i
place_after i Overrun = i

-- where a viewer that started at the file's start stands once it has given n times, and what it gives then
abbrev pub viewing : List ℕ → ℕ → Viewing
viewing l n = record { place = place_of l n; field = field_of (viewed l (place_of l n)) }

-- ---- what a file holds by the fields that a viewer gives

-- with what was given at i
abbrev pub with_given : List ℕ → ℕ → Contents → View → Contents
with_given l i c (field tag size end) = more c i (kind_of tag) (take size (drop (i + 3) l))
with_given l i c ended = c
with_given l i c overruns = c

-- with what a viewer at i gives the next n times
unfoldable pub held_from : ℕ → List ℕ → ℕ → Contents → Contents
held_from zero l i c = c
held_from (suc n) l i c = held_from n l (next_place i (viewed l i)) (with_given l i c (viewed l i))
