use Rattle.std.proofs.Common.{rules, ◌≡◌, ◌∙◌, ap, sym, ℤ, List, map, ◌&&◌, not, Bool}
use Rattle.std.proofs.lemmas.List.Sorted.{answers_always, list_any-IsPermutation}
use Rattle.dpl_cell.specs.Places.{Corners, corners_of}
use Rattle.dpl_cell.specs.Layers.{is_within}
use Rattle.dpl_cell.specs.declared.stretch.Stretch.{Stretch}
use Rattle.dpl_cell.specs.Stretches.{is_in_stretches}
use Rattle.dpl_list.proofs.OrderLemmas.{ascends_from_sorted}
use Rattle.dpl_cuts.specs.Blocks.{AddsShut}
use Rattle.dpl_cuts.specs.Positions.{first_of, last_of, rect_at}
use Rattle.dpl_cuts.proofs.BlockLemmas.{rect_is}
use Rattle.dpl_cuts.proofs.ShutLemmas.{AreLeft, adds_all, back_so_far, separate_ascends}
use Rattle.dpl_cuts.proofs.crowding.shut_within.Goals as goal

pub free_stretches-requires : goal.free_stretches-requires
free_stretches-requires c = rw c.as_slice.ensures.value
    (ascends_from_sorted (λ (s : Stretch). s.from) _ (c.sort_unstable_by_key.ensures.sorted (λ (s : Stretch). s.from)
    (answers_always _ _ _ (λ f a r g k. search rules))))

pub free_stretches-requires-2 : goal.free_stretches-requires-2
free_stretches-requires-2 c = rw c.as_slice-2.ensures.value (separate_ascends _ c.in_ok-free.ensures.separate)

pub push_beside-requires-clause-shut : goal.push_beside-requires-clause-shut
push_beside-requires-clause-shut c =
    let rects : List Corners = map corners_of c.args.tiling.now.tiles.now in
    let tile : corners_of c.index-tiles-i.result ≡ rect_at rects c.args.i =
    rect_is c.args.tiling.now.tiles.now c.args.i c.index-tiles-i.result c.requires.within c.index-tiles-i.is in
    let moved : (p : ℤ) → is_in_stretches c.as_slice.result.now p ≡ is_in_stretches c.args.shut.items p =
    λ p. ap (λ (l : List Stretch). is_in_stretches l p) c.as_slice.ensures.value ∙
    sym (list_any-IsPermutation (λ (s : Stretch). is_within s.from s.to p) _ _
    c.sort_unstable_by_key.ensures.permutation) in
    let left : AreLeft c.lane_of-lane.result c.args.shut.items c.in_ok-free.free.items c.in_ok-wider.wider.items = record {
      rest = λ p. c.in_ok-free.ensures.same p ∙
          ap (λ (b : Bool). is_within c.lane_of-lane.result.from c.lane_of-lane.result.to p && not b) (moved p);
      back = λ p. c.in_ok-wider.ensures.same p ∙
          ap (λ (l : List Stretch). is_within c.lane_of-lane.result.from c.lane_of-lane.result.to p && not (is_in_stretches l p))
          c.as_slice-2.ensures.value;
    } in
    back_so_far rects c.args.tiling.now.label.now c.args.tiling.now.space c.args.i c.lane_of-lane.result _ _ _
    (c.lane_of-lane.ensures.from ∙ ap first_of tile) (c.lane_of-lane.ensures.to ∙ ap last_of tile) left c.requires.shut

pub push_beside-requires-clause-separate : goal.push_beside-requires-clause-separate
push_beside-requires-clause-separate c = rw c.as_slice-3.ensures.value c.in_ok-free.ensures.separate

pub returns-clause-shut : goal.returns-clause-shut
returns-clause-shut c = c.in_ok-push_beside.ensures.so_far

pub returns-clause-all : goal.returns-clause-all
returns-clause-all c = λ e.
    let rects : List Corners = map corners_of c.args.tiling.now.tiles.now in
    let tile : corners_of c.index-tiles-i.result ≡ rect_at rects c.args.i =
    rect_is c.args.tiling.now.tiles.now c.args.i c.index-tiles-i.result c.requires.within c.index-tiles-i.is in
    let moved : (p : ℤ) → is_in_stretches c.as_slice.result.now p ≡ is_in_stretches c.args.shut.items p =
    λ p. ap (λ (l : List Stretch). is_in_stretches l p) c.as_slice.ensures.value ∙
    sym (list_any-IsPermutation (λ (s : Stretch). is_within s.from s.to p) _ _
    c.sort_unstable_by_key.ensures.permutation) in
    let left : AreLeft c.lane_of-lane.result c.args.shut.items c.in_ok-free.free.items c.in_ok-wider.wider.items = record {
      rest = λ p. c.in_ok-free.ensures.same p ∙
          ap (λ (b : Bool). is_within c.lane_of-lane.result.from c.lane_of-lane.result.to p && not b) (moved p);
      back = λ p. c.in_ok-wider.ensures.same p ∙
          ap (λ (l : List Stretch). is_within c.lane_of-lane.result.from c.lane_of-lane.result.to p && not (is_in_stretches l p))
          c.as_slice-2.ensures.value;
    } in
    let adds : AddsShut rects c.args.tiling.now.label.now c.args.tiling.now.space c.args.i c.args.tiling.now.space
    c.in_ok-free.free.items c.in_ok-wider.wider.items c.push_beside.new.shut.items =
    rw (e, c.as_slice-3.ensures.value) at c.in_ok-push_beside.ensures in
    adds_all rects c.args.tiling.now.label.now c.args.tiling.now.space c.args.i c.lane_of-lane.result _ _ _ _
    (c.lane_of-lane.ensures.from ∙ ap first_of tile) (c.lane_of-lane.ensures.to ∙ ap last_of tile) left adds
