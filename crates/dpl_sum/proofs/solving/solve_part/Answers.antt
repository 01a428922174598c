use Rattle.dpl_sum.specs.Laying.{solved_part}
use Rattle.dpl_sum.proofs.SolutionLemmas.{as_solved}
use Rattle.dpl_sum.proofs.solving.solve_part.Goals as goal

pub returns-clause-solved : goal.returns-clause-solved
returns-clause-solved c = as_solved (solved_part (record { part = c.args.part; solution = c.in_ok-solution.solution })) _ _ _ _ c.in_ok-solution.ensures
