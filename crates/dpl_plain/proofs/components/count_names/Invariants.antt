use Rattle.std.proofs.Common.{◌≡◌, ◌≤◌}
use Rattle.std.specs.Prelude.{slice_index}
use Rattle.dpl_cycle.specs.Names.{name_count}
use Rattle.dpl_plain.proofs.components.count_names.Given as goal

abbrev pub invariant-loop-node : goal.invariant-loop-node
invariant-loop-node l = (l.count ≡ name_count (slice_index l.names) l.node) × (l.count ≤ l.node)
