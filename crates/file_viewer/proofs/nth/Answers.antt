-- `file_viewer::nth` meets its contract: what is left to give, from the place reached, leads to the place that is asked for. Assumes nothing.
use Rattle.std.proofs.Common.{◌≡◌, ℕ, ◌+◌, ◌-◌, ap, sym, ◌∙◌, arith, Bor, List}
use Rattle.file_fields.specs.Fields.{field_at}
use Rattle.file_viewer.specs.Laws.{viewing-here, place-come, place-onward}
use Rattle.file_viewer.proofs.nth.Goals as goal

pub loop-preserved : goal.loop-preserved
loop-preserved c =
    let s = c.loop.invariant.same_bytes in
    let left : c.args.n - (c.loop.counter + 1) ≡ c.args.n - c.loop.counter - 1 = omega arith in
    record {
      same_bytes = ap (λ (b : Bor (List ℕ)). b.now) c.give.ensures.1 ∙ s;
      leads = rw (c.give.ensures.2, s, left) (sym (place-onward _ _ _ (omega arith)) ∙ c.loop.invariant.leads);
    }

pub returns : goal.returns
returns c =
    let s = c.loop.invariant.same_bytes in
    let here = c.give-field.ensures.0 ∙ ap (λ (l : List ℕ). field_at l c.loop.viewer.place) s in
    let come = place-come (c.args.n - c.loop.counter) c.args.file.now c.loop.viewer.place (omega arith) in
    viewing-here _ _ _ _ here (sym come ∙ c.loop.invariant.leads)
