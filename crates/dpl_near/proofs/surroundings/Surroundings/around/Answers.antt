use Rattle.std.proofs.Common.{◌<◌, length, map}
use Rattle.dpl_cell.specs.Places.{corners_of}
use Rattle.dpl_near.specs.Around.{Shaped}
use Rattle.dpl_near.specs.Pairs.{AreRows}
use Rattle.dpl_near.proofs.surroundings.Surroundings.around.Goals as goal

pub returns-in_ok-row-in-Some : goal.returns-in_ok-row-in-Some
returns-in_ok-row-in-Some c =
    let s : Shaped = record { rects = map corners_of c.self.inside.rects.now; shape = c.self.inside.shape.now; reach = c.self.inside.reach } in
    let rows : AreRows s c.in-Some.rows = rw c.in-Some.is at c.self.invariant.rows in
    let within : c.args.i < length s.rects = rw (← c.self.view_is) at c.requires in
    rw (c.in_ok-row-in-Some.ensures.items, c.row.ensures, ← c.self.view_is) (rows.each c.args.i within)
