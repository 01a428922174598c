use Rattle.dpl_list.proofs.OrderLemmas.{ascends_head, ascends_tail}
use Rattle.dpl_cover.proofs.merging.merged.Goals as goal

pub merged_with-requires-clause-first : goal.merged_with-requires-clause-first
merged_with-requires-clause-first c = ascends_head (λ s. s.from) _ _ _ c.in-Some.ensures.cases.0 c.requires

pub merged_with-requires-clause-sorted : goal.merged_with-requires-clause-sorted
merged_with-requires-clause-sorted c = ascends_tail (λ s. s.from) _ _ _ c.in-Some.ensures.cases.0 c.requires
