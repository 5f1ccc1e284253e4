-- `laying::fill` meets its contract: rows and weights of a run that stands in the words are filled with its images. Assumes nothing.
use Rattle.std.proofs.Common.{ap, sym, ◌∙◌, ◌≡◌, ℕ, ◌*◌, List, length, take, take_all, length-take, length-take-le, arith}
use Rattle.rules.specs.Joint.{Entry, weight_at}
use Rattle.out_images.specs.Rows.{Held}
use Rattle.rules.specs.Calls.{weights_image}
use Rattle.laying.proofs.fill.Goals as goal

-- the first n rows hold what the rows held
held_first : (t n : ℕ) (es : List Entry) (rows : List ℕ) → length es ≡ n → Held t es rows → Held t es (take (n * 2) rows)
held_first t n es rows k h =
    record { words = ap (λ (i : ℕ). take (i * 2) (take (n * 2) rows)) k ∙ take_all _ _ (omega (arith, length-take (n * 2) rows)) ∙ ap (λ (i : ℕ). take (i * 2) rows) (sym k) ∙ h.words; small = h.small }

pub returns : goal.returns
unfolding weights_image
returns c =
    λ u n held weighed. (
      c.put_rows.ensures.out_after_2 u.state.list
          (n ∙ (let l = length-take-le (c.args.n * 2) c.args.list.now (omega arith) in omega (arith, l)))
          (held_first c.args.trains c.args.n u.state.list c.args.list.now n held),
      c.put_weights.ensures.by_index (weight_at u.of u.state.arrived) weighed,
    )
