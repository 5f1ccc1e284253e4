-- What each accepted field keeps at its place of the file holds at the end of an accepted file: the bytes that are left are always those
-- from the place on. Assumes nothing.
use Rattle.std.specs.Prelude.{◌≡◌, refl, List, ℕ, ◌+◌, length, drop}
use Rattle.std.proofs.Common.{ap, ◌∙◌, drop-drop}
use Rattle.rules.specs.Refusals.{verdict}
use Rattle.rules.specs.Refusals.Result.{answer}
use Rattle.rules.specs.Files.{File, Contents, size, field_rules, end_rules, empty, read}
use Rattle.theory_sound.specs.Verdicts.{Unbroken, rest, with_field}
use Rattle.theory_sound.specs.Verdicts.{past as pastFront}
use Rattle.theory_sound.specs.Reading.{read_follows}
use Rattle.file_fields.specs.Fields.{past}
use Rattle.file_fields.specs.At.{past-here}

module _ (f : File) (w : List ℕ) (P : ℕ → Contents → Type 0)
    (step : (c : Contents) (at : ℕ) → verdict (field_rules f c at (drop at w)) ≡ 0 → P at c → P (past w at) (with_field c at (drop at w))) where
  pub read_along : (k : Contents) → P 0 empty → read f w ≡ answer k → P (length w) k × Unbroken (end_rules f k)
  read_along k p e =
      let q = read_follows f (λ at l c. (l ≡ drop at w) × P at c) go w k (refl, p) e in
      (q.0.1, q.1)
    where
      go : (c : Contents) (at : ℕ) (l : List ℕ) → verdict (field_rules f c at l) ≡ 0 → (l ≡ drop at w) × P at c
          → (rest l ≡ drop (pastFront at l) w) × P (pastFront at l) (with_field c at l)
      go c at l v p =
          rw (p.0, past-here w at)
          (drop-drop (3 + size (drop at w)) at w ∙ ap (λ (m : ℕ). drop m w) (past-here w at), step c at (rw p.0 at v) p.1)
