use Rattle.dpl_cell.proofs.GapLemmas.{close_by_gap, gap_by_close}
use Rattle.dpl_cell.proofs.laws.close_is_by_the_gap.Goals as goal

pub returns : goal.returns
returns c gap reach g = ((λ h. gap_by_close _ _ gap reach g h), (λ h. close_by_gap _ _ gap reach g h))
