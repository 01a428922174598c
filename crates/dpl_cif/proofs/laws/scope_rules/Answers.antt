use Rattle.std.proofs.Common.{refl}
use Rattle.dpl_cif.proofs.ScopeLemmas.{restores, scaled_throughout, begins_outside, stays_outside, names_layer, draws}
use Rattle.dpl_cif.proofs.laws.scope_rules.Goals as goal

pub returns-clause-restore : goal.returns-clause-restore
returns-clause-restore c = restores

pub returns-clause-scale : goal.returns-clause-scale
returns-clause-scale c = λ chosen s n scale. (refl, scaled_throughout chosen s n scale)

pub returns-clause-outside : goal.returns-clause-outside
returns-clause-outside c = (begins_outside, stays_outside)

pub returns-clause-layers : goal.returns-clause-layers
returns-clause-layers c = names_layer

pub returns-clause-figures : goal.returns-clause-figures
returns-clause-figures c = draws
