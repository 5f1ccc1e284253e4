-- `out_listing::whole_weight` meets its contract: the weight of eight trains fits. Assumes nothing.
use Rattle.std.proofs.Common.{arith}
use Rattle.out_listing.proofs.Laws.{whole-few}
use Rattle.out_listing.proofs.whole_weight.Goals as goal

pub pow-requires : goal.pow-requires
pow-requires c = omega (arith, whole-few c.args.n c.requires)
