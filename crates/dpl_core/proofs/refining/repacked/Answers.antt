use Rattle.std.proofs.Common.{arith}
use Rattle.dpl_sign.proofs.WalkLemmas.{bound_small}
use Rattle.dpl_core.proofs.refining.repacked.Goals as goal

pub bound-bound-requires : goal.bound-bound-requires
bound-bound-requires c =
    let p = c.in_ok-cycles.ensures.packing in
    let b = bound_small c.args.net.now.graph c.in_ok-cycles.cycles p.odd p.within in
    rw c.as_slice-2.ensures (omega (arith, b))
