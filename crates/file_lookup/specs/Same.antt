-- What the code answers of case and book is determined by what it says: two answers that say the same are the same. Assumes nothing.
use Rattle.std.specs.Prelude.{◌≡◌, Result, Ok, Err}
use Rattle.std.proofs.Common.{ap}
use Rattle.file_fields.specs.declared.refusals.Refusal.{Refusal}
use Rattle.file_reader.specs.Same.{same_fault}
use Rattle.file_lookup.specs.declared.Sizes.{Sizes}
use Rattle.file_lookup.specs.Told.{told}

pub same_told : (r s : Result Sizes Refusal) → told r ≡ told s → r ≡ s
same_told (Ok a) (Ok b) h = let e : a ≡ b = cc in ap Ok e
same_told (Ok a) (Err n) h = cc
same_told (Err m) (Ok b) h = cc
same_told (Err m) (Err n) h =
    let f = same_fault m.fault n.fault (cc) in
    let i : m.file ≡ n.file = cc in
    let p : m.place ≡ n.place = cc in
    let e : m ≡ n = rw (f, i, p) in
    ap Err e
