use Rattle.std.proofs.Common.{◌≡◌}
use Rattle.dpl_stay.specs.Marks.{without_partners}
use Rattle.dpl_stay.proofs.marking.take_partners.Given as goal

abbrev pub invariant-loop-e : goal.invariant-loop-e
invariant-loop-e l = l.fine ≡ without_partners l.edges l.twins l.partners l.fn.fine l.e
