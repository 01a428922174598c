use Rattle.std.proofs.Common.{arith, map, sym, ◌≤◌, length}
use Rattle.std.proofs.lemmas.List.{length-map}
use Rattle.dpl_cell.specs.Places.{corners_of}
use Rattle.dpl_near.specs.Around.{Shaped}
use Rattle.dpl_near.proofs.PairLemmas.{order_of_rects, rows_of_pairs}
use Rattle.dpl_near.proofs.pairing.all_around.Goals as goal

pub returns : goal.returns
returns c =
    let rects = c.args.rects.now in
    let order = c.args.index.now.order in
    let s : Shaped = record { rects = map corners_of rects; shape = c.args.shape.now; reach = c.args.reach } in
    let count = c.places-place-end.ensures.count in
    let whole : length order ≤ c.loop-place.place = omega (arith, count, c.loop-place-test.false) in
    rw (c.in_ok-rows.ensures, c.as_slice-keys.ensures.value, c.as_slice-others.ensures.value)
    (rows_of_pairs s order c.loop-place.place (length rects) _ _ (sym (length-map rects corners_of))
    (order_of_rects rects c.args.shape.now c.args.index.now.kinded order c.requires.index c.places-place-end.ensures.order) whole c.loop-place.invariant)
