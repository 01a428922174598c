use Rattle.dpl_list.proofs.Integers.{signed}
use Rattle.dpl_cell.proofs.SeamLemmas.{upright_seam, level_seam, no_edge}
use Rattle.dpl_cell.proofs.seams.seam.Goals as goal
use Rattle.dpl_cell.proofs.seams.seam.Goals.{then-c+else-c-2, else-c}

pub returns-then-c-2 : goal.returns-then-c-2
returns-then-c-2 c = upright_seam _ _ _ _ _ (search signed) (search signed) (omega signed) (omega signed) (omega signed) (omega signed) (omega signed)

pub returns-then-c-4 : goal.returns-then-c-4
returns-then-c-4 c = level_seam _ _ _ _ _ (search signed) (search signed) (omega signed) (omega signed) (omega signed) (omega signed) (omega signed)

pub returns-else-c-4 : goal.returns-else-c-4
returns-else-c-4 c = no_edge _ _ c.requires (λ e h. omega signed) (λ e h. omega signed)

pub returns-else-c-3 : goal.returns-else-c-3
returns-else-c-3 c = no_edge _ _ c.requires (λ e h. elim c.if-c.branch [ then-c+else-c-2 w ↦ omega signed | else-c w ↦ omega signed ]) (λ e h. omega signed)
