use Rattle.std.proofs.Common.{◌≡◌, map, take}
use Rattle.std.specs.Prelude.{slice_index_or}
use Rattle.dpl_sum.proofs.combining.renumbered_edges.Given as goal

abbrev pub invariant-loop-edge : goal.invariant-loop-edge
invariant-loop-edge l = l.found.items ≡ map (λ e. slice_index_or l.numbers e 0) (take l.edge-index l.edges)
