-- `out_images::put_word` meets its contract: the bytes of the number, the highest first, are those of `bytes`. Assumes nothing.
use Rattle.std.proofs.Common.{◌≡◌, refl, ap, ap₂, sym, ◌∙◌, ℕ, ◌+◌, ◌-◌, ◌/◌, ◌%◌, List, [], ◌∷◌, rules}
use native.Mathlib.Nat.{div-one}
use Rattle.std.proofs.Math.Seq.{sets}
use Rattle.rules.specs.Calls.{bytes}
use Rattle.out_images.proofs.Laws.{part_sets}
use Rattle.out_images.proofs.put_word.Goals as goal

pub returns : goal.returns
returns c =
    let a = c.args in
    part_sets a.at (a.at + 8) a.out.now c.copy_from_slice.new.self (bytes 8 a.x) (c.copy_from_slice.ensures.after ∙ c.to_be_bytes.ensures ∙ rw (div-one a.x) refl) refl c.requires
