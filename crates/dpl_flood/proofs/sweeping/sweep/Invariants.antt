use Rattle.dpl_flood.specs.Seas.{faces_left}
use Rattle.dpl_flood.specs.States.{sea_of}
use Rattle.dpl_flood.specs.Sweeps.{IsSweeping}
use Rattle.dpl_flood.proofs.sweeping.sweep.Given as goal

abbrev pub invariant-faces : goal.invariant-faces
invariant-faces g l = IsSweeping l.dual l.fn.state l.state l.queue

abbrev pub decreases-faces : goal.decreases-faces
decreases-faces g l = faces_left l.dual (sea_of l.state)
