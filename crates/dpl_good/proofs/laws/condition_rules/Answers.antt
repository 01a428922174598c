use Rattle.dpl_good.proofs.ConditionLaws.{options_are_told, counts_are_told, bonds_are_told, cuts_are_told}
use Rattle.dpl_good.proofs.ConditionLaws.{clashes_are_told, cost_is_told, aside_is_told, walks_are_told}
use Rattle.dpl_good.proofs.ConditionLaws.{packing_is_told, masks_are_told}
use Rattle.dpl_good.proofs.laws.condition_rules.Goals as goal

pub returns : goal.returns
returns c = record {
  options = options_are_told;
  counts = counts_are_told;
  bonds = bonds_are_told;
  cuts = cuts_are_told;
  clashes = clashes_are_told;
  cost = cost_is_told;
  aside = aside_is_told;
  walks = walks_are_told;
  packing = packing_is_told;
  masks = masks_are_told;
}
