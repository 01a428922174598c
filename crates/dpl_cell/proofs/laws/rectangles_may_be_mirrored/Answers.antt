use Rattle.dpl_cell.specs.Images.{mirrored}
use Rattle.dpl_cell.proofs.ImageLemmas.{flip, same, flips, stays, mirrors}
use Rattle.dpl_cell.proofs.ImageLemmas.{gap_image, close_image, edge_image, mirrored_level, mirrored_upright, mirrored_corner}
use Rattle.dpl_cell.proofs.laws.rectangles_may_be_mirrored.Goals as goal

pub returns-clause-gap : goal.returns-clause-gap
returns-clause-gap c = λ a b n. gap_image flip flip same same a b (mirrored a) (mirrored b) n flips stays (mirrors a) (mirrors b)

pub returns-clause-close : goal.returns-clause-close
returns-clause-close c = λ a b reach. close_image flip flip same same a b (mirrored a) (mirrored b) reach flips stays (mirrors a) (mirrors b)

pub returns-clause-edge : goal.returns-clause-edge
returns-clause-edge c = λ a b. edge_image flip flip same same a b (mirrored a) (mirrored b) flips stays (mirrors a) (mirrors b)

pub returns-clause-level : goal.returns-clause-level
returns-clause-level c = mirrored_level

pub returns-clause-upright : goal.returns-clause-upright
returns-clause-upright c = mirrored_upright

pub returns-clause-corner : goal.returns-clause-corner
returns-clause-corner c = mirrored_corner
