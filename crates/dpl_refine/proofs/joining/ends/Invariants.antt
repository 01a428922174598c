use Rattle.std.proofs.Common.{◌≡◌, take}
use Rattle.dpl_refine.specs.Components.{ends_of}
use Rattle.dpl_refine.proofs.joining.ends.Given as goal

abbrev pub invariant-loop-edge : goal.invariant-loop-edge
invariant-loop-edge l = l.found.items ≡ ends_of (take l.edge-index l.edges)
