use Rattle.dpl_flood.specs.Steps.{AreListed}
use Rattle.dpl_flood.proofs.ways.steps_at.Given as goal

abbrev pub invariant-loop-i : goal.invariant-loop-i
invariant-loop-i l = AreListed l.faces l.ways l.i l.keys.items l.steps.items
