-- `rows::append` meets its contract: two words, one after the other. Assumes nothing.
use Rattle.theory_lists.specs.Writes.{put_join, put_fits}
use Rattle.rows.proofs.append.Goals as goal

pub put-requires : goal.put-requires
put-requires c = put_fits c.put-next.ensures

pub returns : goal.returns
returns c = put_join c.put-next.ensures c.put.ensures
