use Rattle.std.proofs.Common.{◌≡◌}
use Rattle.dpl_stay.specs.Marks.{without_spoiled}
use Rattle.dpl_stay.proofs.marking.take_components.Given as goal

abbrev pub invariant-loop-v : goal.invariant-loop-v
invariant-loop-v l = l.whole ≡ without_spoiled l.fine l.number l.fn.whole l.v
