use Rattle.dpl_cell.proofs.ImageLemmas.{moved_tiles, moved_shape}
use Rattle.dpl_cell.proofs.laws.cells_may_be_moved.Goals as goal

pub returns-clause-tiles : goal.returns-clause-tiles
returns-clause-tiles c = moved_tiles

pub returns-clause-shapes : goal.returns-clause-shapes
returns-clause-shapes c = moved_shape
