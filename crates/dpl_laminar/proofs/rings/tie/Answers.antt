use Rattle.std.proofs.Common.{arith, ◌-◌}
use Rattle.dpl_laminar.proofs.Walks.{tied_more, tied_all}
use Rattle.dpl_laminar.proofs.rings.tie.Goals as goal

pub loop-i-preserved : goal.loop-i-preserved
loop-i-preserved c = record {
  tied = rw c.splice.ensures.value (tied_more _ _ _ c.loop-i.i (c.loop-i.i - 1) (omega (arith, c.loop-i.invariant.some))
      c.loop-i-test.true c.requires.distinct c.requires.below c.loop-i.invariant.tied);
  some = omega arith;
  most = λ _. omega (arith, c.loop-i-test.true);
}

pub returns-clause-circle : goal.returns-clause-circle
returns-clause-circle c = tied_all _ _ _ c.loop-i.i c.loop-i.invariant.tied (omega (arith, c.loop-i-test.false)) c.loop-i.invariant.most
