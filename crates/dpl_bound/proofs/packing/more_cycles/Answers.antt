use Rattle.dpl_bound.proofs.LayLemmas.{bound_fits}
use Rattle.dpl_bound.proofs.packing.more_cycles.Goals as goal

pub bound-requires : goal.bound-requires
bound-requires c = bound_fits c.args.graph.now c.args.cycles _ c.requires.packing c.as_slice-4.ensures

pub bound-requires-2 : goal.bound-requires-2
bound-requires-2 c = bound_fits c.args.graph.now c.in_ok-found.found.items _ c.in_ok-found.ensures c.as_slice-5.ensures.value
