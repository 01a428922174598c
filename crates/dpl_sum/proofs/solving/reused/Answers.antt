use Rattle.dpl_sum.specs.Laying.{solved_part}
use Rattle.dpl_sum.proofs.SameLemmas.{solved_stays}
use Rattle.dpl_sum.proofs.solving.reused.Goals as goal

pub returns-clause-solved : goal.returns-clause-solved
returns-clause-solved c = solved_stays (solved_part c.args.old.now)
    (solved_part (record { part = c.args.part; solution = c.in_ok-solution.solution })) c.requires.same
    c.in_ok-solution.ensures.colours c.in_ok-solution.ensures.cycles c.requires.solved
