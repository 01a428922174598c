use Rattle.dpl_cell.proofs.OrderLemmas.{tiles_same}
use Rattle.dpl_cell.proofs.laws.tiles_are_one.Goals as goal

pub returns : goal.returns
returns c cells one other s t = tiles_same cells one other s t
