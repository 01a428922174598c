use Rattle.std.proofs.Common.{◌≡◌}
use Rattle.dpl_sign.specs.Excess.{kept_before}
use Rattle.dpl_plain.proofs.aside.kept_edges.Given as goal

abbrev pub invariant-loop-edge : goal.invariant-loop-edge
invariant-loop-edge l = l.kept.items ≡ kept_before l.net l.edge
