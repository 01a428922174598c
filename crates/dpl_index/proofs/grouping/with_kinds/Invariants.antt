use Rattle.dpl_index.proofs.GroupLemmas.{Rekeyed}
use Rattle.dpl_index.proofs.grouping.with_kinds.Given as goal

abbrev pub invariant-loop-place : goal.invariant-loop-place
invariant-loop-place l = Rekeyed l.places l.place-index l.groups.items
