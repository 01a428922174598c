use Rattle.dpl_cell.proofs.ImageLemmas.{mirrored_tiles, mirrored_shape}
use Rattle.dpl_cell.proofs.laws.cells_may_be_mirrored.Goals as goal

pub returns-clause-tiles : goal.returns-clause-tiles
returns-clause-tiles c = mirrored_tiles

pub returns-clause-shapes : goal.returns-clause-shapes
returns-clause-shapes c = mirrored_shape
