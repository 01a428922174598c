use Rattle.std.proofs.Common.{rules}
use Rattle.std.proofs.lemmas.List.Sorted.{answers_always}
use Rattle.dpl_cell.specs.declared.rect.Rect.{Rect}
use Rattle.dpl_cell.specs.Places.{corners_of}
use Rattle.dpl_cell.proofs.SortLemmas.{not_after}
use Rattle.dpl_tiles.proofs.tiling.sort.Goals as goal

pub returns-clause-sorted : goal.returns-clause-sorted
returns-clause-sorted c = not_after corners_of _ (c.sort_unstable_by_key.ensures.sorted (λ (r : Rect). (r.y1, r.x1))
    (answers_always _ _ _ (λ f a r g k. search rules)))
