use Rattle.std.proofs.Common.{◌≡◌}
use Rattle.dpl_sign.specs.Drawings.{is_in as in_set, is_met_below}
use Rattle.dpl_plain.proofs.faces.is_bare.Given as goal

abbrev pub invariant-loop-number : goal.invariant-loop-number
invariant-loop-number l = l.met ≡ is_met_below l.graph (in_set l.set) l.number l.node
