use Rattle.dpl_links.proofs.CrowdLemmas.{HasTurns}
use Rattle.dpl_links.proofs.turning.turns_of.Given as goal

abbrev pub invariant-back : goal.invariant-back
invariant-back l = HasTurns l.crowd l.crowded l.k l.from l.turns.items

abbrev pub decreases-back : goal.decreases-back
decreases-back l = l.k
