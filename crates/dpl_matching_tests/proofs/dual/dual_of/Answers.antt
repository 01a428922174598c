use Rattle.std.proofs.Common.{ap}
use Rattle.dpl_sign.specs.declared.nets.Net.{Net}
use Rattle.dpl_matching_tests.proofs.dual.dual_of.Goals as goal

pub dual-requires : goal.dual-requires
dual-requires c = ap (λ (z : Net). z.graph) c.in_ok-map.ensures
