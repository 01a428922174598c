use Rattle.std.proofs.Common.{◌≡◌}
use Rattle.dpl_sign.specs.Excess.{aside_before}
use Rattle.dpl_plain.proofs.aside.aside_edges.Given as goal

abbrev pub invariant-loop-edge : goal.invariant-loop-edge
invariant-loop-edge l = l.aside.items ≡ aside_before l.net l.edge
