use Rattle.std.proofs.Common.{arith}
use Rattle.dpl_laminar.specs.Storing.{sets_of}
use Rattle.dpl_pack.proofs.OutLemmas.{apart_walked}
use Rattle.dpl_pack.proofs.climbs.apart.Goals as goal

pub returns : goal.returns
returns c = omega (
  arith,
  c.walk.ensures.sum,
  c.walk-2.ensures.sum,
  apart_walked (sets_of c.args.tree.now.family.now) c.args.first c.args.second,
)
