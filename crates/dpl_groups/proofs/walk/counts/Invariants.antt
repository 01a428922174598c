use Rattle.std.proofs.Common.{◌≡◌, length, map, take}
use Rattle.dpl_groups.proofs.walk.counts.Given as goal

abbrev pub invariant-loop-list : goal.invariant-loop-list
invariant-loop-list l = l.counts.items ≡ map (λ e. length e) (take l.list-index l.edges)
