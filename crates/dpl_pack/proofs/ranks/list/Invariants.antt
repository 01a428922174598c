use Rattle.dpl_pack.specs.Ranks.{AreListed}
use Rattle.dpl_pack.proofs.ranks.list.Given as goal

abbrev pub invariant-loop-i : goal.invariant-loop-i
invariant-loop-i l = AreListed l.faces l.depths l.i l.order.items
