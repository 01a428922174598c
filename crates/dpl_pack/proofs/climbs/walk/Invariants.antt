use Rattle.dpl_laminar.specs.Storing.{sets_of}
use Rattle.dpl_pack.specs.Climbs.{weight_in}
use Rattle.dpl_pack.proofs.OutLemmas.{IsWalking}
use Rattle.dpl_pack.proofs.climbs.walk.Given as goal

abbrev pub invariant-loop-step : goal.invariant-loop-step
invariant-loop-step l = IsWalking (sets_of l.tree.family.now) (weight_in (sets_of l.tree.family.now) l.first l.second l.skips)
    l.first.0 l._step l.set l.inside l.sum
