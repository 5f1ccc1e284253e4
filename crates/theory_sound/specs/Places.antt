-- What a refusal of two files may be: a number from 1 to 11, or 18, file 0 or 1, and a place of at most 919.
-- The place is the offset of a field or of the end, and these are within 919 as far as fields were accepted. Assumes nothing.
use Rattle.std.specs.Prelude.{◌≡◌, ℕ, ◌≤◌, ◌<◌}
use Rattle.rules.specs.Refusals.{Refusal}
use Rattle.theory_sound.specs.Verdicts.{Given}

-- a number that a refusal of the files can have, or 0: those from 12 to 17 are given by the calls
pub record OfFiles (n : ℕ) : Type 0 where
  pub most : n ≤ 18
  pub not_of_calls : 11 < n → n ≡ 18

-- a refusal of the files
pub record Told (r : Refusal) : Type 0 where
  pub given : Given r.number
  pub of_files : OfFiles r.number
  pub two_files : r.file ≤ 1
  pub in_reach : r.place ≤ 919
