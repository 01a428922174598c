use Rattle.std.proofs.Common.{arith}
use Rattle.std.proofs.lemmas.Int.{ints, to_z-of_z}
use Rattle.dpl_tiles.proofs.sweeping.with_stack.Goals as goal

pub returns-clause-left : goal.returns-clause-left
returns-clause-left c = search (arith, ints, to_z-of_z, c.lesser-left.ensures)

pub returns-clause-own_left : goal.returns-clause-own_left
returns-clause-own_left c = search (arith, ints, to_z-of_z, c.lesser-left.ensures)

pub returns-clause-right : goal.returns-clause-right
returns-clause-right c = search (arith, ints, to_z-of_z, c.greater-right.ensures)

pub returns-clause-own_right : goal.returns-clause-own_right
returns-clause-own_right c = search (arith, ints, to_z-of_z, c.greater-right.ensures)
