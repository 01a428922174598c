use Rattle.std.proofs.Common.{arith}
use Rattle.std.proofs.lemmas.Int.{to_z-of_z}
use Rattle.dpl_list.proofs.Integers.{signed}
use Rattle.dpl_cell.proofs.seams.common_part.Goals as goal

pub returns-clause-left : goal.returns-clause-left
returns-clause-left c = grind (arith, to_z-of_z)

pub returns-clause-right : goal.returns-clause-right
returns-clause-right c = omega signed

pub returns-clause-low : goal.returns-clause-low
returns-clause-low c = search (signed, to_z-of_z)

pub returns-clause-high : goal.returns-clause-high
returns-clause-high c = omega signed
