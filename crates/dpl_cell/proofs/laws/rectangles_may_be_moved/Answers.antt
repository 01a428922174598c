use Rattle.dpl_cell.specs.Images.{moved}
use Rattle.dpl_cell.proofs.ImageLemmas.{shift, unshift, shifts, moves, gap_image, close_image, edge_image, moved_level, moved_upright, moved_corner}
use Rattle.dpl_cell.proofs.laws.rectangles_may_be_moved.Goals as goal

pub returns-clause-gap : goal.returns-clause-gap
returns-clause-gap c = λ right up a b n. gap_image (shift right) (unshift right) (shift up) (unshift up) a b (moved right up a)
    (moved right up b) n (shifts right) (shifts up) (moves right up a) (moves right up b)

pub returns-clause-close : goal.returns-clause-close
returns-clause-close c = λ right up a b reach. close_image (shift right) (unshift right) (shift up) (unshift up) a b (moved right up a)
    (moved right up b) reach (shifts right) (shifts up) (moves right up a) (moves right up b)

pub returns-clause-edge : goal.returns-clause-edge
returns-clause-edge c = λ right up a b. edge_image (shift right) (unshift right) (shift up) (unshift up) a b (moved right up a)
    (moved right up b) (shifts right) (shifts up) (moves right up a) (moves right up b)

pub returns-clause-level : goal.returns-clause-level
returns-clause-level c = moved_level

pub returns-clause-upright : goal.returns-clause-upright
returns-clause-upright c = moved_upright

pub returns-clause-corner : goal.returns-clause-corner
returns-clause-corner c = moved_corner
