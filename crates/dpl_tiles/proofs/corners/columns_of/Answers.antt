use Rattle.std.proofs.Common.{arith}
use Rattle.std.proofs.lemmas.Int.{ints, to_z-of_z}
use Rattle.dpl_tiles.proofs.corners.columns_of.Goals as goal

pub returns-clause-right : goal.returns-clause-right
returns-clause-right c = search (arith, ints, to_z-of_z, c.greater-right.ensures)

pub returns-clause-some : goal.returns-clause-some
returns-clause-some c = search (arith, ints, to_z-of_z, c.greater-right.ensures)
