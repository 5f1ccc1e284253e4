-- Where a viewer stands that has some left to give. Assumes nothing.
use Rattle.std.specs.Prelude.{◌≡◌, refl, List, ℕ, zero, suc, ◌-◌, ◌<◌}
use Rattle.std.proofs.Common.{ap, arith}
use Rattle.file_fields.specs.declared.Field.{Field}
use Rattle.rules.specs.Viewer.{View, viewed, next_place, place_from, place_of}
use Rattle.rules.specs.Viewer.View.{field, ended, overruns}
use Rattle.file_fields.specs.Fields.{field_of, field_at}
use Rattle.file_viewer.specs.declared.Viewing.{Viewing}
use Rattle.file_viewer.specs.Viewing.{place_after, viewing}

-- the code's place after its answer is 01's
pub after_next : (i : ℕ) (v : View) → place_after i (field_of v) ≡ next_place i v
after_next i (field tag size end) = refl
after_next i ended = refl
after_next i overruns = refl

-- the place of the nth viewing, and what stands there, are the viewing
pub viewing-here : (l : List ℕ) (n i : ℕ) (f : Field) → f ≡ field_at l i → i ≡ place_of l n → ◌≡◌ {A = Viewing} (record { place = i; field = f }) (viewing l n)
viewing-here l n i f h e = rw (h, e)

-- a viewer that is to give no more is where it was to come
pub place-come : (left : ℕ) (l : List ℕ) (i : ℕ) → left ≡ 0 → place_from left l i ≡ i
unfolding place_from
place-come zero l i h = refl
place-come (suc left) l i h = absurd (omega arith)

-- once it has given it has one less to give
pub place-onward : (left : ℕ) (l : List ℕ) (i : ℕ) → 0 < left → place_from left l i ≡ place_from (left - 1) l (next_place i (viewed l i))
unfolding place_from
place-onward zero l i k = absurd (omega arith)
place-onward (suc left) l i k = let e : left ≡ suc left - 1 = omega arith in ap (λ (m : ℕ). place_from m l (next_place i (viewed l i))) e
