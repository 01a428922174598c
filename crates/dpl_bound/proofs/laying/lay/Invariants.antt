use Rattle.std.proofs.Common.{take}
use Rattle.dpl_bound.specs.Packed.{AreWithin, HaveRisen}
use Rattle.dpl_bound.proofs.LayLemmas.{laid_of}
use Rattle.dpl_bound.proofs.laying.lay.Given as goal

abbrev pub invariant-loop-k : goal.invariant-loop-k
invariant-loop-k l = record {
  within : AreWithin l.graph l.loads;
  risen : HaveRisen l.graph l.fn.loads (laid_of l.half (take l.k l.walk)) l.loads;
}
