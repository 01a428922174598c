use Rattle.std.proofs.Common.{◌≡◌}
use Rattle.dpl_stay.specs.Marks.{without_ends}
use Rattle.dpl_stay.proofs.marking.take_ends.Given as goal

abbrev pub invariant-loop-e : goal.invariant-loop-e
invariant-loop-e l = l.fine ≡ without_ends l.edges l.twins l.fn.fine l.e
