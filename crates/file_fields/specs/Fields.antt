-- What a viewer gives at a place, as the code's answer, and walks over whole fields. Assumes nothing: these are definitions.
use Rattle.std.specs.Prelude.{Bool, false, cond, List, [], ◌∷◌, ℕ, zero, suc, ◌+◌, length, take, drop, leb, ltb}
use Rattle.rules.specs.Files.{word}
use Rattle.rules.specs.Viewer.{View, field_end, viewed}
use Rattle.rules.specs.Viewer.View.{field, ended, overruns}
use Rattle.file_fields.specs.declared.Field.{Field}
use Rattle.file_fields.specs.declared.Field.TheVariants.{Whole, Ended, Overrun}

-- where the field at i ends
abbrev pub past : List ℕ → ℕ → ℕ
past l i = field_end l i

-- a whole field stands at i
unfoldable pub whole : List ℕ → ℕ → Bool
whole l i = cond (ltb (length l) (i + 3)) false (leb (past l i) (length l))

-- the body of the field at i, nothing where there is no whole field
unfoldable pub body_at : List ℕ → ℕ → List ℕ
body_at l i = cond (whole l i) (take (word l (i + 1)) (drop (i + 3) l)) []

-- the offsets at which whole fields follow each other, at most n of them, from i on
unfoldable pub places_from : ℕ → List ℕ → ℕ → List ℕ
places_from zero l i = []
places_from (suc n) l i = cond (whole l i) (i ∷ places_from n l (past l i)) []

-- and from the first byte on: a field has at least three bytes, so there are never more fields than bytes
unfoldable pub places : List ℕ → List ℕ
places l = places_from (suc (length l)) l 0

-- what a viewer gives, as the code's answer
abbrev pub field_of : View → Field
field_of (field tag size end) = Whole tag size end
field_of ended = Ended
field_of overruns = Overrun

abbrev pub field_at : List ℕ → ℕ → Field
field_at l i = field_of (viewed l i)
