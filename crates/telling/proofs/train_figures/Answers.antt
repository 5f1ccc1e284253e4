-- `telling::train_figures` meets its contract: each field is the answer's, the figures' or 0. Assumes nothing.
use Rattle.telling.proofs.train_figures.Goals as goal

pub returns : goal.returns
returns c = rw c.number_and_share-punctuality.ensures
