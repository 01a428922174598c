use Rattle.std.proofs.Common.{◌∙◌}
use Rattle.dpl_laminar.proofs.Rows.{is_found}
use Rattle.dpl_laminar.proofs.members.is_among.Goals as goal

pub returns : goal.returns
returns c = c.is_ok.ensures.value ∙ is_found _ _ _ c.requires c.binary_search.ensures.position
