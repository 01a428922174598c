use Rattle.dpl_cell.proofs.ImageLemmas.{transposed_gap, transposed_close, transposed_edge, transposed_level, transposed_upright, transposed_corner}
use Rattle.dpl_cell.proofs.laws.rectangles_may_be_transposed.Goals as goal

pub returns-clause-gap : goal.returns-clause-gap
returns-clause-gap c = transposed_gap

pub returns-clause-close : goal.returns-clause-close
returns-clause-close c = transposed_close

pub returns-clause-edge : goal.returns-clause-edge
returns-clause-edge c = transposed_edge

pub returns-clause-level : goal.returns-clause-level
returns-clause-level c = transposed_level

pub returns-clause-upright : goal.returns-clause-upright
returns-clause-upright c = transposed_upright

pub returns-clause-corner : goal.returns-clause-corner
returns-clause-corner c = transposed_corner
