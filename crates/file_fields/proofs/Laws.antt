-- The cases of what stands at a place of a file, as the code tells them apart: by how many bytes are left. Assumes nothing.
use mathlib.Core.Path.{◌≡◌, ap, ap₂, sym, ◌∙◌}
use mathlib.Core.List.{List}
use Prim.Native.Nat.{ℕ, ◌+◌, ◌-◌, ◌≤◌, ◌<◌}
use native.Mathlib.Omega.{arith}
use lib.ListN.{length, get_or}
use Rattle.rules.specs.Files.{word}
use Rattle.file_fields.specs.declared.Field.TheVariants.{Whole, Ended, Overrun}
use Rattle.file_fields.specs.Fields.{field_of, field_at}
use Rattle.file_fields.specs.At as at

pub field-ended : (l : List ℕ) (i : ℕ) → length l ≤ i → field_at l i ≡ Ended
field-ended l i h = ap field_of (at.viewed-ended l i h)

module _ (l : List ℕ) (i : ℕ) (h : i < length l) where
  pub field-short : length l - i < 3 → field_at l i ≡ Overrun
  field-short k = ap field_of (at.viewed-overrun l i h (omega arith))

  module _ (k : 3 ≤ length l - i) where
    pub field_cut : {n : ℕ} → n ≡ word l (i + 1) → length l - i - 3 < n → field_at l i ≡ Overrun
    field_cut e m = ap field_of (at.viewed-overrun l i h (omega (arith, e)))

    pub field-whole : {t n : ℕ} → t ≡ get_or l i 0 → n ≡ word l (i + 1) → n ≤ length l - i - 3 → field_at l i ≡ Whole t n (i + 3 + n)
    field-whole d e m = ap field_of (at.viewed-field l i (omega (arith, e))) ∙ ap₂ (λ (t n : ℕ). Whole t n (i + 3 + n)) (sym d) (sym e)
