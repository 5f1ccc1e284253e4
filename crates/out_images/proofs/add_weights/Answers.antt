-- `out_images::add_weights` meets its contract. The loop keeps the first `w` sums written; the word at `w` is still the one that was lent,
-- so what is put there is the sum of the lent weight and the added one, and 5,040 of them fill the required part. Assumes nothing.
use mathlib.Core.Path.{◌≡◌, ap, ◌∙◌}
use Prim.Native.Nat.{ℕ, ◌*◌, ◌≤◌}
use native.Mathlib.Omega.{arith}
use lib.ListN.{length}
use lib.Seq.{sets}
use Rattle.out_images.specs.Rows.{image_of_sums}
use Rattle.out_images.proofs.Laws.{sums_none, capped-min, sums-more, sums-filled, sums_weigh}
use Rattle.out_images.proofs.add_weights.Goals as goal

pub loop-w-init : goal.loop-w-init
loop-w-init c =
    let a = c.args in
    (omega arith, sums_none a.weights.now a.out.now, omega arith)

pub loop-w-preserved : goal.loop-w-preserved
loop-w-preserved c =
    let put = c.put_word in
    let sum = c.saturating_add in
    let got = c.get_word-lent in
    let at = c.loop-w in
    let a = c.args in
    let long : at.w * 8 ≤ length a.out.now = omega arith in
    let one_more = sums-more a.weights.now a.out.now at.out at.w got.result sum.result long at.invariant.1 got.ensures (sum.ensures ∙ capped-min _) in
    (omega arith, put.ensures ∙ one_more, put.auto.out ∙ at.invariant.2)

pub returns : goal.returns
returns c =
    let a = c.args in
    let all : c.loop-w.w ≡ 5040 = omega arith in
    let filled-sums =
    c.loop-w.invariant.1
    ∙ ap (λ (w : ℕ). sets a.out.now 0 (image_of_sums w a.weights.now a.out.now)) all
    ∙ sums-filled a.weights.now a.out.now c.requires.1 in
    record { out_after = filled-sums; by_index = λ weight h. filled-sums ∙ sums_weigh weight a.weights.now a.out.now h }
