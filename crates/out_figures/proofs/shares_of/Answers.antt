use Rattle.out_figures.specs.Sums.{shares_in}
use Rattle.out_figures.proofs.shares_of.Goals as goal

pub returns : goal.returns
unfolding shares_in
returns c = simp (c.share-3.ensures, c.share-2.ensures, c.share.ensures)
