use Rattle.std.proofs.Common.{◌^◌, sym, subst}
use Rattle.dpl_flood.specs.Flips.{AreOverChains}
use Rattle.dpl_flood.proofs.tests.pairing.pairs_with_tail.Goals as goal

pub pair_faces-requires-clause-near : goal.pair_faces-requires-clause-near
pair_faces-requires-clause-near g c =
    subst (λ z. AreOverChains c.in_ok-dual.dual.crosses z (λ s t. 2 ^ 51)) (sym c.as_slice-2.ensures) c.in_ok-dual.ensures.near
