use Rattle.std.proofs.Common.{◌≡◌, map, take}
use Rattle.dpl_sign.specs.declared.edges.Edge.{Edge}
use Rattle.dpl_parts.proofs.joining.ends.Given as goal

abbrev pub invariant-loop-edge : goal.invariant-loop-edge
invariant-loop-edge l = l.ends.items ≡ map (λ (e : Edge). (e.a, e.b)) (take l.edge-index l.edges)
