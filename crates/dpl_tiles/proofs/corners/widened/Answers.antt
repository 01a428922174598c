use Rattle.std.proofs.Common.{arith}
use Rattle.std.proofs.lemmas.Int.{ints, to_z-of_z}
use Rattle.dpl_tiles.proofs.corners.widened.Goals as goal

pub returns-clause-right : goal.returns-clause-right
returns-clause-right c = search (arith, ints, to_z-of_z, c.greater-right.ensures)

pub returns-clause-own : goal.returns-clause-own
returns-clause-own c = search (arith, ints, to_z-of_z, c.greater-right.ensures)
