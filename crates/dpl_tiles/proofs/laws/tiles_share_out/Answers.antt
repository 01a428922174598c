use Rattle.dpl_tiles.proofs.BoundLemmas.{bounded}
use Rattle.dpl_tiles.proofs.UnionLemmas.{shares_out}
use Rattle.dpl_tiles.proofs.laws.tiles_share_out.Goals as goal

pub returns : goal.returns
returns c = λ tiles a. shares_out _ tiles (bounded c.args.layout.now.prims) a
