use Rattle.std.proofs.Common.{rules}
use Rattle.std.proofs.lemmas.List.Sorted.{answers_always}
use Rattle.dpl_cell.specs.Places.{Corners}
use Rattle.dpl_cell.proofs.SortLemmas.{not_after}
use Rattle.dpl_tiles.specs.declared.end.End.{End}
use Rattle.dpl_tiles.proofs.cancelling.sort.Goals as goal

-- the end as a corner whose ordinate is its column
abbrev at : End → Corners
at e = record { x1 = e.row; y1 = e.column; x2 = e.row; y2 = e.column }

pub returns-clause-sorted : goal.returns-clause-sorted
returns-clause-sorted c = not_after at _ (c.sort_unstable_by_key.ensures.sorted (λ (e : End). (e.column, e.row))
    (answers_always _ _ _ (λ f a r g k. search rules)))
