-- `telling::refused_figures` meets its contract: the figures beside the refusal are those of a refused call. Assumes nothing.
use mathlib.Core.Path.{ap, ◌∙◌}
use Rattle.telling.specs.Answers.{train_figures}
use Rattle.telling.proofs.refused_figures.Goals as goal

pub returns : goal.returns
returns c = c.train_figures.ensures ∙ ap (train_figures c.args.a) c.refused.ensures
