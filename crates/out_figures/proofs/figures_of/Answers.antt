-- `out_figures::figures_of` meets its contract: each figure is its callee's, and the figures from the words are those of the case.
-- On time and late together are what has arrived, so every part is at most the whole. Assumes nothing.
use Rattle.std.proofs.Common.{◌≡◌, ap, ◌∙◌, List, ℕ, ◌+◌, ◌-◌, ◌≤◌, arith, rules}
use lib.Dec.{leb, ltb}
use Rattle.std.specs.Int.{from_bool}
use Rattle.out_figures.specs.declared.Punctuality.{Punctuality}
use Rattle.out_figures.specs.declared.Shares.{Shares}
use Rattle.out_figures.specs.declared.Figures.{Figures}
use Rattle.out_figures.specs.Sums.{on_time_weight, late_weight, lateness, judgement, shares_in, figures_in, Weighed}
use Rattle.out_figures.specs.Answers.{punctuality_answer, shares_answer, figures_answer}
use Rattle.out_figures.specs.Laws.{on_time-late, on_time-times, late-times, lateness-times, figures_in-figures}
use Rattle.out_figures.proofs.figures_of.Goals as goal

-- the figures put together from the parts
together : (ws : List ℕ) (k plan last total limit on after late : ℕ) (p : Punctuality) (s : Shares)
    → on ≡ on_time_weight ws k last (plan + limit)
    → after ≡ late_weight ws k last (plan + limit)
    → late ≡ lateness ws k last plan
    → p ≡ punctuality_answer (judgement on total)
    → s ≡ shares_answer (shares_in on after total)
    → ◌≡◌ {A = Figures} (record { punctuality = p; shares = s; sum = late; weight = on + after }) (figures_answer (figures_in ws k plan last total limit))
unfolding figures_in
together ws k plan last total limit on after late p s e f g h i =
    simp (h, i, g, e, f, on_time-late ws k last (plan + limit))

-- on time is at most the whole, and so is what has arrived
module _ (ws : List ℕ) (k last total end on after : ℕ) (h : Weighed ws k last total) (e : on ≡ on_time_weight ws k last end) where
  on-most : (on ≤ 100000000000000) × (total ≤ 100000000000000)
  on-most = (omega (arith, on_time-late ws k last end), omega arith)

  arrived-most : after ≡ late_weight ws k last end → (on + after ≤ total) × (total ≤ 100000000000000)
  arrived-most f = (omega (arith, on_time-late ws k last end), omega arith)

pub judged-requires : goal.judged-requires
judged-requires c =
    let a = c.args in
    on-most a.weights.now a.k a.last a.total (a.plan + c.from.result) c.sum_of-on.result c.sum_of-after.result c.requires.0
    (c.sum_of-on.ensures (λ t. from_bool (leb t (a.plan + c.from.result))) (λ t n h p. search rules) ∙ on_time-times a.weights.now a.k a.last (a.plan + c.from.result))

pub shares_of-requires : goal.shares_of-requires
shares_of-requires c =
    let a = c.args in
    arrived-most a.weights.now a.k a.last a.total (a.plan + c.from.result) c.sum_of-on.result c.sum_of-after.result c.requires.0
    (c.sum_of-on.ensures (λ t. from_bool (leb t (a.plan + c.from.result))) (λ t n h p. search rules) ∙ on_time-times a.weights.now a.k a.last (a.plan + c.from.result))
    (c.sum_of-after.ensures (λ t. from_bool (ltb (a.plan + c.from.result) t)) (λ t n h p. search rules) ∙ late-times a.weights.now a.k a.last (a.plan + c.from.result))

pub overflow_add-result : goal.overflow_add-result
overflow_add-result c =
    let a = c.args in
    let most = arrived-most a.weights.now a.k a.last a.total (a.plan + c.from.result) c.sum_of-on.result c.sum_of-after.result c.requires.0
    (c.sum_of-on.ensures (λ t. from_bool (leb t (a.plan + c.from.result))) (λ t n h p. search rules) ∙ on_time-times a.weights.now a.k a.last (a.plan + c.from.result))
    (c.sum_of-after.ensures (λ t. from_bool (ltb (a.plan + c.from.result) t)) (λ t n h p. search rules) ∙ late-times a.weights.now a.k a.last (a.plan + c.from.result)) in
    omega (arith, most.0, most.1)

pub returns-clause-words : goal.returns-clause-words
returns-clause-words c =
    let a = c.args in
    let limit = ap (λ (L : ℕ). a.plan + L) c.from.ensures in
    together a.weights.now a.k a.plan a.last a.total a.limit _ _ _ _ _
    (c.sum_of-on.ensures (λ t. from_bool (leb t (a.plan + c.from.result))) (λ t n h p. search rules) ∙ on_time-times a.weights.now a.k a.last (a.plan + c.from.result) ∙ ap (on_time_weight a.weights.now a.k a.last) limit)
    (c.sum_of-after.ensures (λ t. from_bool (ltb (a.plan + c.from.result) t)) (λ t n h p. search rules) ∙ late-times a.weights.now a.k a.last (a.plan + c.from.result) ∙ ap (late_weight a.weights.now a.k a.last) limit)
    (c.sum_of.ensures (λ t. t - a.plan) (λ t n h p. search rules) ∙ lateness-times a.weights.now a.k a.last a.plan)
    c.judged.ensures
    c.shares_of.ensures

pub returns-clause-case : goal.returns-clause-case
returns-clause-case c =
    let a = c.args in
    λ C arrived h. returns-clause-words c ∙ ap figures_answer (figures_in-figures C arrived a.weights.now a.k a.plan a.last a.total h a.limit)
