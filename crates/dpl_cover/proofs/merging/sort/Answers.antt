use Rattle.std.proofs.Common.{rules, sym}
use Rattle.std.proofs.lemmas.List.Sorted.{answers_always, list_any-IsPermutation}
use Rattle.dpl_cell.specs.declared.stretch.Stretch.{Stretch}
use Rattle.dpl_cell.specs.Layers.{is_within}
use Rattle.dpl_list.proofs.OrderLemmas.{ascends_from_sorted}
use Rattle.dpl_cover.proofs.merging.sort.Goals as goal

pub returns-clause-same : goal.returns-clause-same
returns-clause-same c = λ x. sym (list_any-IsPermutation (λ (s : Stretch). is_within s.from s.to x) _ _ c.sort_unstable_by_key.ensures.permutation)

pub returns-clause-sorted : goal.returns-clause-sorted
returns-clause-sorted c = ascends_from_sorted (λ (s : Stretch). s.from) _
    (c.sort_unstable_by_key.ensures.sorted (λ (s : Stretch). s.from) (answers_always _ _ _ (λ f a r g k. search rules)))
