use Rattle.std.proofs.Common.{ℤ, w64, SFits}
use Rattle.std.specs.List.Sorted.{IsPermutation}
use Rattle.std.proofs.lemmas.Int.{to_z-of_z}
use Rattle.std.proofs.lemmas.List.Sorted.{All-permutation, length_permutation}
use Rattle.std.proofs.lemmas.Result.{IfOk-weaker}
use Rattle.dpl_cell.specs.Ranges.{IsInRange}
use Rattle.dpl_tiles.specs.Sides.{AreCrossingsWithin}
use Rattle.dpl_list.proofs.OrderLemmas.{ascends_from_sorted}
use Rattle.dpl_tiles.proofs.CrossingLemmas.{even_within, polygon_within}
use Rattle.dpl_tiles.proofs.crossing.push_polygon.Goals as goal

pub push_pairs-requires-clause-sorted : goal.push_pairs-requires-clause-sorted
push_pairs-requires-clause-sorted c = rw c.as_slice.ensures.value (ascends_from_sorted (λ (z : ℤ). z) _ c.sort_unstable.ensures.sorted)

pub push_pairs-requires-clause-even : goal.push_pairs-requires-clause-even
push_pairs-requires-clause-even c =
    let f : SFits w64 c.args.y = c.ranges.y in
    let k : AreCrossingsWithin c.args.sides.now c.args.y c.args.window.now.left c.args.window.now.right
    c.in_ok-columns.columns.items = simp to_z-of_z at c.in_ok-columns.ensures in
    rw (c.as_slice.ensures.value, length_permutation _ _ c.sort_unstable.ensures.permutation) (even_within _ c.args.y _ _ _ c.requires k)

pub push_pairs-requires-clause-range : goal.push_pairs-requires-clause-range
push_pairs-requires-clause-range c = rw c.as_slice.ensures.value
    (All-permutation IsInRange _ _ c.sort_unstable.ensures.permutation c.in_ok-columns.ensures.range)

pub returns : goal.returns
returns c =
    let f : SFits w64 c.args.y = c.ranges.y in
    let p : IsPermutation c.in_ok-columns.columns.items c.as_slice.result.now = rw c.as_slice.ensures.value c.sort_unstable.ensures.permutation in
    let k : AreCrossingsWithin c.args.sides.now c.args.y c.args.window.now.left c.args.window.now.right
    c.in_ok-columns.columns.items = simp to_z-of_z at c.in_ok-columns.ensures in
    IfOk-weaker c.push_pairs.result _ _ (λ _ a. polygon_within _ c.args.y _ _ _ c.requires k c.as_slice.result.now _ _ p a) c.push_pairs.ensures
