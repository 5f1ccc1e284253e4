-- `plain::add_part` meets its contract: the choices still to come are added to what the choices before them have left. Assumes nothing.
use Rattle.std.proofs.Common.{◌≡◌, ℕ, ◌+◌, ◌-◌, sym, refl, ap, ◌∙◌, arith}
use Rattle.rules.specs.Lists.{fold}
use Rattle.words.specs.Spans.{onward, fold_next, fold_end}
use Rattle.single_laws.specs.Trail.{left-first}
use Rattle.theory_plain.specs.Numbered.{times}
use Rattle.plain.specs.Words.{sizes_in, added_in, past_in}
use Rattle.plain.specs.Adding.{past-within}
use Rattle.plain.proofs.add_part.Goals as goal

pub combinations-requires : goal.combinations-requires
combinations-requires c = c.requires.sized

pub loop-i-init : goal.loop-i-init
loop-i-init c = (omega arith, refl, left-first c.args.tables.now, refl)

pub slice_bounds-add_choice-end : goal.slice_bounds-add_choice-end
slice_bounds-add_choice-end c = sym c.loop-i.invariant.2.size

pub slice_bounds-add_choice-end-in-loop-i : goal.slice_bounds-add_choice-end-in-loop-i
slice_bounds-add_choice-end-in-loop-i c = sym c.loop-i.invariant.2.room

pub add_choice-requires : goal.add_choice-requires
add_choice-requires c =
    let all = times (sizes_in c.args.tables.now) in
    let loop = c.loop-i in
    let end = c.past-end.result in
    let ends : end ≡ past_in all c.args.first c.args.most =
    c.past-end.ensures ∙ ap (λ (n : ℕ). past_in n c.args.first c.args.most) c.combinations.ensures in
    let within = past-within all c.args.first c.args.most in
    (c.requires, omega (arith, c.loop-i-test.true, loop.invariant.0, ends, within.1 (omega (arith, c.loop-i-test.true, loop.invariant.0, ends))), loop.invariant.2)

pub loop-i-preserved : goal.loop-i-preserved
loop-i-preserved c =
    let loop = c.loop-i in
    let add-choice = c.add_choice in
    let step = added_in c.args.tables.now c.args.stop in
    let end = c.past-end.result in (
      omega (arith, loop.invariant.0),
      omega (arith, loop.invariant.1),
      add-choice.ensures.0,
      ap (fold step (onward end (loop.i + 1))) add-choice.ensures.1
          ∙ sym (fold_next step end loop.i loop.ws c.loop-i-test.true)
          ∙ loop.invariant.3,
    )

pub overflow_sub-result : goal.overflow_sub-result
overflow_sub-result c =
    let all = times (sizes_in c.args.tables.now) in
    let ends : c.past-end.result ≡ past_in all c.args.first c.args.most =
    c.past-end.ensures ∙ ap (λ (n : ℕ). past_in n c.args.first c.args.most) c.combinations.ensures in
    omega (arith, ends, (past-within all c.args.first c.args.most).0)

pub shape_of-ws : goal.shape_of-ws
shape_of-ws c = c.loop-i.invariant.1

pub returns : goal.returns
returns c =
    let all = times (sizes_in c.args.tables.now) in
    let end = c.past-end.result in
    let loop = c.loop-i in
    let step = added_in c.args.tables.now c.args.stop in
    let ends : end ≡ past_in all c.args.first c.args.most =
    c.past-end.ensures ∙ ap (λ (n : ℕ). past_in n c.args.first c.args.most) c.combinations.ensures in (
      ap (λ (n : ℕ). n - c.args.first) ends,
      sym (fold_end step end loop.i loop.ws c.loop-i-test.false)
          ∙ loop.invariant.3
          ∙ ap (λ (n : ℕ). fold step (onward n c.args.first) c.args.ws.now) ends,
    )
