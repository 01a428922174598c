use Rattle.dpl_cycle.proofs.LabelLemmas.{labels_exist}
use Rattle.dpl_cycle.proofs.laws.even_sums_have_labels.Goals as goal

pub returns : goal.returns
returns c = λ next back weight p even. labels_exist _ _ _ p _ even
