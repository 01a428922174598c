use Rattle.std.proofs.Common.{◌^◌, sym, subst}
use Rattle.dpl_flood.specs.Flips.{AreOverChains}
use Rattle.dpl_flood.proofs.pairing.grow_all.Goals as goal

pub run-requires-clause-near : goal.run-requires-clause-near
run-requires-clause-near g c =
    subst (λ z. AreOverChains c.args.dual.now.crosses z (λ s t. 2 ^ 51)) (sym c.in_ok-state.ensures.seats) c.requires.near
