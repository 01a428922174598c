use Rattle.std.proofs.Common.{arith}
use Rattle.std.proofs.lemmas.Int.{to_z-of_z}
use Rattle.dpl_cell.proofs.held.is_left.Goals as goal

pub returns-then-p-x : goal.returns-then-p-x
returns-then-p-x c = grind (arith, to_z-of_z)
