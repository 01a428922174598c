use Rattle.dpl_laminar.specs.Storing.{sets_of}
use Rattle.dpl_pack.proofs.OutLemmas.{IsWalking}
use Rattle.dpl_pack.proofs.climbs.total.Given as goal

abbrev pub invariant-loop-step : goal.invariant-loop-step
invariant-loop-step l = IsWalking (sets_of l.family) (sets_of l.family).value l.member l._step l.set l.inside l.inside
