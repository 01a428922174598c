use Rattle.std.proofs.Common.{◌≡◌}
use Rattle.dpl_balance.specs.Parts.{parts_below}
use Rattle.dpl_balance.proofs.turning.parts_of.Given as goal

abbrev pub invariant-loop-k : goal.invariant-loop-k
invariant-loop-k l = l.parts.items ≡ parts_below l.on_a l.on_b l.k
