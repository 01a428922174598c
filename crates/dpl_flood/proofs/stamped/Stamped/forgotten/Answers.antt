use Rattle.std.proofs.Common.{arith}
use Rattle.dpl_flood.proofs.StampedLemmas.{all_forgotten}
use Rattle.dpl_flood.proofs.stamped.Stamped.forgotten.Goals as goal

pub returns : goal.returns
returns c = all_forgotten c.in-Some.stamp c.args.places c.self.inside.entries.items (omega (arith, c.len.ensures, c.if-len-places.false))
    (λ i d h. omega (arith, c.self.invariant.0 i d h, c.in-Some.ensures.1))
