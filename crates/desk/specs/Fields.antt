-- What the field viewer's export answers for each thing that can stand at a place, and that a field's tag and length fit their places in the answer:
-- a tag is a byte and a length two. Assumes nothing.
use Rattle.std.specs.Prelude.{◌≡◌, refl, Bool, cond, List, ℕ, ◌+◌, ◌<◌, length, leb, ltb}
use Rattle.std.proofs.Common.{sym, ap, ◌∙◌, arith}
use Rattle.std.proofs.Math.Path.{subst}
use Rattle.std.proofs.Math.Bool.{true, false}
use Rattle.rules.specs.Files.{byte, word}
use Rattle.rules.specs.Viewer.{View, field_end, viewed}
use Rattle.rules.specs.Viewer.View.{field, ended, overruns}
use Rattle.rules.specs.Answers.{view_answer}
use Rattle.file_fields.specs.declared.Field.{Field}
use Rattle.file_fields.specs.declared.Field.TheVariants.{Whole, Ended, Overrun}
use Rattle.file_fields.specs.Fields.{field_of, field_at}
use Rattle.desk.specs.declared.Viewed.{Viewed}
use Rattle.desk.specs.Answers.{viewed_struct, FieldGives}

-- no field at a place, and why: 0 at the file's end
abbrev pub none_given : ℕ → ℕ → Viewed
none_given refusal i = record { refusal = refusal; given = 0; tag = 0; size = 0; next = i }

-- the answer for what stands at place i
abbrev pub told_of : ℕ → Field → Viewed
told_of i (Whole tag size end) = record { refusal = 0; given = 1; tag = tag; size = size; next = end }
told_of i Ended = none_given 0 i
told_of i Overrun = none_given 1 i

told-viewed : (i : ℕ) (v : View) → told_of i (field_of v) ≡ viewed_struct (view_answer i v)
told-viewed i (field tag size end) = refl
told-viewed i ended = refl
told-viewed i overruns = refl

module _ (l : List ℕ) (i : ℕ) where
  pub field_gives : {f g : Field} → f ≡ field_at l i → f ≡ g → FieldGives l i (told_of i g)
  field_gives h e = ap (told_of i) (sym e ∙ h) ∙ told-viewed i (viewed l i)

  -- tag and length of a field that stands there, if there is one, are each below 65,536
  abbrev pub Small : Field → Type 0
  Small (Whole tag size end) = (tag < 65536) × (size < 65536)
  Small Ended = Unit
  Small Overrun = Unit

  pub field-small : {f g : Field} → f ≡ field_at l i → f ≡ g → ((j : ℕ) → byte l j < 256) → Small g
  unfolding viewed
  field-small h e b = subst Small (sym h ∙ e) (go (leb (length l) i) (ltb (length l) (i + 3)) (ltb (length l) (field_end l i)))
    where
      go : (p q r : Bool) → Small (field_of (cond p ended (cond q overruns (cond r overruns (field (byte l i) (word l (i + 1)) (field_end l i))))))
      go true q r = tt
      go false true r = tt
      go false false true = tt
      go false false false = (omega (arith, b i), omega (arith, b (i + 1), b (i + 1 + 1)))
