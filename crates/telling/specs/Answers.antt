-- What the figures answer: the C struct of the figures of 01, field by field. Assumes nothing: these are definitions.
use Rattle.std.specs.Prelude.{[], ◌∷◌}
use Rattle.rules.specs.Refusals.{Result}
use Rattle.rules.specs.Figures as rules
use Rattle.rules.specs.Answers as answers
use Rattle.out_figures.specs.declared.Figures.{Figures}
use Rattle.out_figures.specs.Answers.{case_of}
use Rattle.laying.specs.declared.Answer.{Answer}
use Rattle.telling.specs.declared.TrainFigures.{TrainFigures}

-- the struct of the figures' answer; two fields of it are always 0
abbrev pub figures_struct : answers.FiguresAnswer → TrainFigures
figures_struct a = record {
  refusal = a.refusal;
  file = a.file;
  place = a.place;
  punctuality = a.punctuality;
  zero = 0;
  share = a.share;
  on_time = a.on_time_of;
  late = a.late;
  not_arrived = a.not_arrived_of;
  lateness = a.lateness;
  arrived = a.arrived;
  kept = 0 ∷ 0 ∷ 0 ∷ 0 ∷ [];
}

-- all 0 but the refusal, or the figures
abbrev pub figures_of : Result rules.Figures → TrainFigures
figures_of r = figures_struct (answers.figures_answer r)

-- the program's figures beside the refusal of an answer
abbrev pub train_figures : Answer → Figures → TrainFigures
train_figures a f = figures_struct (record {
  refusal = a.refusal;
  file = a.file;
  place = a.place;
  punctuality = answers.punctuality_number (case_of f.punctuality);
  share = answers.punctuality_value (case_of f.punctuality);
  on_time_of = f.shares.on_time;
  late = f.shares.late;
  not_arrived_of = f.shares.not_arrived;
  lateness = f.sum;
  arrived = f.weight;
})
