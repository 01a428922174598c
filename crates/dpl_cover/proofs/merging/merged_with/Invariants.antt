use Rattle.dpl_cover.proofs.MergeLemmas.{Merging}
use Rattle.dpl_cover.proofs.merging.merged_with.Given as goal

abbrev pub invariant-loop-part : goal.invariant-loop-part
invariant-loop-part l = Merging l.fn.first l.rest l.part-index l.merged.items l.last
