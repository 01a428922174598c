use Rattle.std.proofs.Common.{length, map}
use Rattle.std.proofs.lemmas.List.{length-map}
use Rattle.dpl_cell.specs.Places.{corners_of}
use Rattle.dpl_classes.specs.Classes.{AreClasses}
use Rattle.dpl_near.proofs.ShapeLemmas.{are_shapes}
use Rattle.dpl_near.proofs.shaping.shapes.Goals as goal

pub returns-clause-shapes : goal.returns-clause-shapes
returns-clause-shapes c =
    let r : AreClasses c.in_ok-joins.joins.items (length (map corners_of c.args.rects.now)) c.in_ok-label.label.items
    c.in_ok-label.count = rw (← c.as_slice.ensures.value, length-map c.args.rects.now corners_of)
    c.in_ok-label.ensures in
    rw c.new-2.ensures (are_shapes _ c.in_ok-joins.joins.items _ _ c.requires.apart c.in_ok-joins.ensures r)
