use Rattle.std.proofs.Common.{arith, pos, ◌-ℤ◌}
use Rattle.std.proofs.lemmas.Int.{ints, clamps}
use Rattle.std.specs.Int.{int_max}
use Rattle.dpl_cell.proofs.gaps.apart.Goals as goal

pub returns-then-a2-b1-clause-attained : goal.returns-then-a2-b1-clause-attained
returns-then-a2-b1-clause-attained c = (
  c.args.a2 -ℤ pos 1,
  c.args.b1,
  record { from = omega (arith, ints); to = omega (arith, ints) },
  record { from = omega (arith, ints); to = omega (arith, ints) },
  omega (arith, ints),
)

pub returns-then-b2-a1-clause-attained : goal.returns-then-b2-a1-clause-attained
returns-then-b2-a1-clause-attained c = (
  c.args.a1,
  c.args.b2 -ℤ pos 1,
  record { from = omega (arith, ints); to = omega (arith, ints) },
  record { from = omega (arith, ints); to = omega (arith, ints) },
  omega (arith, ints),
)

pub returns-else-b2-a1-clause-attained : goal.returns-else-b2-a1-clause-attained
returns-else-b2-a1-clause-attained c = (
  int_max c.args.a1 c.args.b1,
  int_max c.args.a1 c.args.b1,
  record { from = omega (arith, ints, clamps); to = omega (arith, ints, clamps) },
  record { from = omega (arith, ints, clamps); to = omega (arith, ints, clamps) },
  omega (arith, ints, clamps),
)
