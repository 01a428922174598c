use Rattle.dpl_parts.proofs.Shared.{broken_sum}
use Rattle.dpl_sum.proofs.OddLemmas.{in_one}
use Rattle.dpl_sum.proofs.SolutionLemmas.{solution_sum, aside_sum, odd_faces_sum}
use Rattle.dpl_sum.proofs.SameLemmas.{solution_stays}
use Rattle.dpl_sum.proofs.laws.solutions_add_up.Goals as goal

pub returns-clause-solved : goal.returns-clause-solved
returns-clause-solved c = solution_sum

pub returns-clause-kept : goal.returns-clause-kept
returns-clause-kept c = broken_sum

pub returns-clause-aside : goal.returns-clause-aside
returns-clause-aside c = aside_sum

pub returns-clause-odd : goal.returns-clause-odd
returns-clause-odd c = odd_faces_sum

pub returns-clause-in_one : goal.returns-clause-in_one
returns-clause-in_one c = in_one

pub returns-clause-stays : goal.returns-clause-stays
returns-clause-stays c = solution_stays
