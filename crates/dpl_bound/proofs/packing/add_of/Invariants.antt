use Rattle.dpl_bound.specs.Packed.{AreLaid}
use Rattle.dpl_bound.proofs.packing.add_of.Given as goal

abbrev pub invariant-loop-k : goal.invariant-loop-k
invariant-loop-k l = AreLaid l.graph l.found.items l.loads
