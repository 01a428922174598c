use Rattle.dpl_groups.specs.Walk.{view, IsWalk, StaySeen, work}
use Rattle.dpl_groups.proofs.finding.finish.Given as goal

abbrev pub invariant-steps : goal.invariant-steps
invariant-steps l =
    record {
      kept : IsWalk l.edges (view l.walk);
      seen : StaySeen (view l.fn.walk) (view l.walk);
    }

abbrev pub decreases-steps : goal.decreases-steps
decreases-steps l = work l.walk
