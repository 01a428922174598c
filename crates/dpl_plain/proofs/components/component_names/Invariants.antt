use Rattle.std.proofs.Common.{◌≡◌, ℕ, ◌<◌, length, get_or}
use Rattle.dpl_plain.proofs.components.component_names.Given as goal

abbrev pub invariant-loop-node : goal.invariant-loop-node
invariant-loop-node l = (length l.names.items ≡ l.node) × ((k : ℕ) → k < l.node → get_or l.names.items k 0 ≡ k)
