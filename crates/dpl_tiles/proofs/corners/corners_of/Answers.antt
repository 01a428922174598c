use Rattle.std.proofs.Common.{rules, ◌++◌}
use Rattle.std.specs.List.Sorted.{IsPermutation}
use Rattle.std.proofs.lemmas.List.Sorted.{answers_always}
use Rattle.dpl_tiles.specs.declared.corners.Corner.{Corner}
use Rattle.dpl_tiles.proofs.CornerLemmas.{corners_moved, in_order, range_moved}
use Rattle.dpl_tiles.proofs.corners.corners_of.Goals as goal

pub returns : goal.returns
returns c =
    let joined : IsPermutation (c.sort.new.corners.items ++ c.sort-2.new.corners.items) c.sort_by_key.new.self.items = search rules in
    record {
      ordered = in_order _ (c.in_ok-sort_by_key.ensures.sorted (λ (c : Corner). (c.y, c.left)) (answers_always _ _ _ (λ f a r g k. search rules)));
      all = corners_moved c.args.prims.now _ _ _ _ _ c.sort.ensures c.sort-2.ensures joined c.in_ok-push_all.ensures.has;
      range = range_moved _ _ _ _ _ c.sort.ensures c.sort-2.ensures joined c.in_ok-push_all.ensures.range;
    }
