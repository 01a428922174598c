use Rattle.std.proofs.Common.{◌≡◌, ℕ, ◌<◌, length, get_or}
use Rattle.dpl_sign.specs.Drawings.{is_in as in_set}
use Rattle.dpl_sign.specs.Components.{names_below}
use Rattle.dpl_plain.proofs.components.add_edges.Given as goal

abbrev pub invariant-loop-number : goal.invariant-loop-number
invariant-loop-number l = (length l.names ≡ l.graph.nodes) × ((k : ℕ) → k < l.graph.nodes → get_or l.names k 0 ≡ names_below l.graph (in_set l.set) l.number k)
