use Rattle.dpl_edit.proofs.MaskLemmas.{kept_by_sight, kept_unchanged}
use Rattle.dpl_edit.proofs.laws.masks_are_kept.Goals as goal

pub returns-clause-components : goal.returns-clause-components
returns-clause-components c before after = kept_by_sight before after

pub returns-clause-unchanged : goal.returns-clause-unchanged
returns-clause-unchanged c o before after known f n = kept_unchanged o before after known f n
