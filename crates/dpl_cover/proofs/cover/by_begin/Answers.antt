use Rattle.std.proofs.Common.{rules}
use Rattle.std.proofs.lemmas.List.Sorted.{answers_always}
use Rattle.dpl_cell.specs.declared.rect.Rect.{Rect}
use Rattle.dpl_list.proofs.OrderLemmas.{ascends_from_sorted}
use Rattle.dpl_cover.proofs.cover.by_begin.Goals as goal

pub returns-clause-order : goal.returns-clause-order
returns-clause-order c = ascends_from_sorted (λ (r : Rect). r.y1) _ (c.sort_unstable_by_key.ensures.sorted (λ (r : Rect). r.y1)
    (answers_always _ _ _ (λ f a r g k. search rules)))
