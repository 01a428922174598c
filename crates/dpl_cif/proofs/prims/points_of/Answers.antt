use Rattle.std.proofs.Common.{◌≡◌, ◌∙◌, ◌≤◌, ℤ, List, take, map, length, ap, sym, subst, true}
use Rattle.std.proofs.lemmas.List.{take_all}
use Rattle.dpl_calls.specs.declared.figure.Corner.{Corner}
use Rattle.dpl_cell.specs.Places as places
use Rattle.dpl_cell.specs.Ranges.{has_straight_sides}
use Rattle.dpl_cif.specs.Drawn.{corner_place}
use Rattle.dpl_cif.proofs.Fits.{place_low, sides_straight, not_chosen}
use Rattle.dpl_cif.proofs.prims.points_of.Goals as goal

pub point_of-requires : goal.point_of-requires
point_of-requires c = place_low c.args.corners.now c.loop-corner.corner-index _ _ c.loop-corner-test.true c.requires.near

pub unreachable-requires : goal.unreachable-requires
unreachable-requires c =
    let whole : map places.place_of c.loop-corner.points.items ≡ map corner_place c.args.corners.now =
    c.loop-corner.invariant ∙ ap (λ (cs : List Corner). map corner_place cs)
    (take_all c.loop-corner.corner-index c.args.corners.now c.loop-corner-test.false) in
    let straight : has_straight_sides (map places.place_of c.loop-corner.points.items) ≡ true = rw whole (sides_straight c.args.corners.now c.requires.sound) in
    not_chosen c.new.result (has_straight_sides (map places.place_of c.loop-corner.points.items)) c.loop-corner.points.items c.in-None.is c.new.ensures straight
