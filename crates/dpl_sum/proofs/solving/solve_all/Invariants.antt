use Rattle.std.proofs.Common.{◌≡◌, ◌++◌}
use Rattle.dpl_sum.specs.Solving.{AreSolvedTo}
use Rattle.dpl_sum.proofs.solving.solve_all.Given as goal

abbrev pub invariant-loop-part : goal.invariant-loop-part
invariant-loop-part l = (l.yielded ++ l.part-iterator.rest.items ≡ l.fn.parts.items) × AreSolvedTo l.yielded l.solved.items
