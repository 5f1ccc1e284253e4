-- `rows::copy` meets its contract: what fits of the part stands where it was to go. Assumes nothing.
use Rattle.std.proofs.Common.{◌≡◌, ℕ, List, ◌++◌, ◌+◌, ◌-◌, ◌≤◌, min, length, take, drop, ap, sym, ◌∙◌, arith, append_assoc, drop-drop}
use Rattle.std.proofs.Math.Decide.{dec_le}
use Rattle.std.proofs.Math.Seq.{slice, length-slice}
use Rattle.std.proofs.lemmas.List.Edits.{sets-eq}
use Rattle.std.proofs.lemmas.Slice.{between_is}
use borrow.Rule.Slice.PartMut.{put_mid}
use Rattle.theory_lists.specs.Writes.{Put}
use Rattle.rows.specs.Written.{put_filled}
use Rattle.rows.proofs.copy.Goals as goal

-- n words from a on that stand in the place of as many from d on
module _ (a n z d : ℕ) (from out ys : List ℕ) (ends : a + n ≤ z) (long : z ≤ length from) (fits : d + n ≤ length out) (are : ys ≡ slice a (a + n) from) where
  copied-long : length (slice a (a + n) from) ≡ n
  copied-long = omega (arith, length-slice a (a + n) from (omega arith))

  copied-there : Put out d (slice a (a + n) from) (d + n) (put_mid d (d + n - d) out ys)
  copied-there =
      let k : d + length (slice a (a + n) from) ≡ d + (d + n - d) = omega (arith, copied-long) in
      record {
        place = omega (arith, copied-long);
        list = ap (λ (l : List ℕ). put_mid d (d + n - d) out l) are
            ∙ ap (λ (l : List ℕ). take d out ++ (slice a (a + n) from ++ l)) (drop-drop (d + n - d) d out ∙ ap (λ (m : ℕ). drop m out) (sym k))
            ∙ sym (append_assoc (take d out) (slice a (a + n) from) (drop (d + length (slice a (a + n) from)) out))
            ∙ sym (sets-eq (slice a (a + n) from) out d (omega (arith, copied-long)));
      }

  copied : n ≡ min (z - a) (length out - d) → a ≤ z → Put out d (slice a z from) (d + n) (put_mid d (d + n - d) out ys)
  copied least some = go (dec_le (z - a) n)
    where
      go : Dec (z - a ≤ n) → Put out d (slice a z from) (d + n) (put_mid d (d + n - d) out ys)
      go (yes h) = let e : a + n ≡ z = omega arith in rw e at copied-there
      go (no h) = put_filled a (a + n) z from (omega arith) ends long copied-there (omega arith)

pub returns : goal.returns
returns c =
    let s = c.args in
    copied s.a c.min-n.result s.z s.d s.from.now s.out.now c.copy_from_slice.new.self
    (omega (arith, c.min-n.ensures)) c.requires.1 (omega (arith, c.min-n.ensures))
    (c.copy_from_slice.ensures.after ∙ between_is s.from.now s.a (s.a + c.min-n.result)) c.min-n.ensures c.requires.0
