use Rattle.std.proofs.Common.{◌≡◌, take}
use Rattle.dpl_refine.specs.Pieces.{bonds_of}
use Rattle.dpl_refine.proofs.joining.bonds.Given as goal

abbrev pub invariant-loop-edge : goal.invariant-loop-edge
invariant-loop-edge l = l.found.items ≡ bonds_of (take l.edge-index l.edges)
