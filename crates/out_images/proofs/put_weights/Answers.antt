-- `out_images::put_weights` meets its contract. The loop keeps the first `i` words written, a word at each multiple of 8; 5,040 of them fill the required part. Assumes nothing.
use mathlib.Core.Path.{◌≡◌, ap, ◌∙◌}
use mathlib.Core.List.{List}
use Prim.Native.Nat.{ℕ, ◌*◌}
use native.Mathlib.Omega.{arith}
use lib.ListN.{get_or}
use lib.Seq.{sets}
use Rattle.rules.specs.Calls.{bytes}
use Rattle.out_images.proofs.Laws.{first_words, words_more, words-filled, words_weigh}
use Rattle.out_images.proofs.put_weights.Goals as goal

pub loop-i-preserved : goal.loop-i-preserved
loop-i-preserved c =
    let at = c.loop-i in
    let a = c.args in (
      omega arith,
      c.put_word.ensures
          ∙ ap (λ (l : List ℕ). sets l (at.i * 8) (bytes 8 (get_or a.weights.now at.i 0))) at.invariant.1
          ∙ words_more a.weights.now a.out.now at.i,
      c.put_word.auto.out ∙ at.invariant.2,
    )

pub returns : goal.returns
returns c =
    let a = c.args in
    let n : c.loop-i.i ≡ 5040 = omega arith in
    let filled-words =
    c.loop-i.invariant.1
    ∙ ap (λ (i : ℕ). sets a.out.now 0 (first_words i a.weights.now)) n
    ∙ words-filled a.weights.now a.out.now c.requires.0 c.requires.1 in
    record { out_after = filled-words; by_index = λ weight h. filled-words ∙ words_weigh weight a.weights.now a.out.now h }
