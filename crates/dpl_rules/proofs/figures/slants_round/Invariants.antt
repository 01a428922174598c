use Rattle.std.proofs.Common.{◌≡◌, drop, ◌||◌}
use Rattle.dpl_rules.specs.Figures.{slants_round, slants_from, is_slanted, last_spot}
use Rattle.dpl_rules.proofs.figures.slants_round.Given as goal

abbrev pub invariant-loop-spot : goal.invariant-loop-spot
invariant-loop-spot l = (slants_from l.before (drop l.spot-index l.rest) || is_slanted
    (last_spot l.before (drop l.spot-index l.rest)) l.first) ≡ slants_round l.path
