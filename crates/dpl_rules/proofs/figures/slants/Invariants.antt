use Rattle.std.proofs.Common.{◌≡◌, drop}
use Rattle.dpl_rules.specs.Figures.{slants, slants_from}
use Rattle.dpl_rules.proofs.figures.slants.Given as goal

abbrev pub invariant-loop-spot : goal.invariant-loop-spot
invariant-loop-spot l = slants_from l.before (drop l.spot-index l.rest) ≡ slants l.path
