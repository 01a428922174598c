use Rattle.std.proofs.Common.{rules}
use Rattle.std.proofs.lemmas.List.Sorted.{answers_always}
use Rattle.dpl_near.specs.declared.borders.Border.{Border}
use Rattle.dpl_near.proofs.BorderLemmas.{sorted_in_order}
use Rattle.dpl_near.proofs.borders.put_in_order.Goals as goal

pub returns-clause-order : goal.returns-clause-order
returns-clause-order c = sorted_in_order _ _ c.requires.long c.requires.apart c.sort_unstable_by_key.ensures.permutation
    (c.sort_unstable_by_key.ensures.sorted (λ (b : Border). (b.line, b.from)) (answers_always _ _ _ (λ f a r g k. search rules)))
