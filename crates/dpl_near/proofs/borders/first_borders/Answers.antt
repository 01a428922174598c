use Rattle.std.proofs.Common.{◌≤◌, length, map}
use Rattle.std.proofs.lemmas.List.{length-map}
use Rattle.dpl_cell.specs.Places.{corners_of}
use Rattle.dpl_cell.proofs.BoxLemmas.{rects_have}
use Rattle.dpl_near.proofs.BorderLemmas.{first_longs, first_aparts, first_all}
use Rattle.dpl_near.proofs.borders.first_borders.Goals as goal

pub put_in_order-requires-clause-long : goal.put_in_order-requires-clause-long
put_in_order-requires-clause-long c =
    let short : c.loop-i.i ≤ length (map corners_of c.args.rects.now) = rw (length-map c.args.rects.now corners_of) c.loop-i.auto.i-end in
    first_longs c.args.upright (map corners_of c.args.rects.now) c.loop-i.i _ short (rects_have c.args.rects.now) c.loop-i.invariant

pub put_in_order-requires-clause-apart : goal.put_in_order-requires-clause-apart
put_in_order-requires-clause-apart c =
    let short : c.loop-i.i ≤ length (map corners_of c.args.rects.now) = rw (length-map c.args.rects.now corners_of) c.loop-i.auto.i-end in
    first_aparts c.args.upright (map corners_of c.args.rects.now) c.loop-i.i _ short (rects_have c.args.rects.now) c.requires.apart
    c.loop-i.invariant

pub returns-clause-borders : goal.returns-clause-borders
returns-clause-borders c =
    let short : c.loop-i.i ≤ length (map corners_of c.args.rects.now) = rw (length-map c.args.rects.now corners_of) c.loop-i.auto.i-end in
    let whole : length (map corners_of c.args.rects.now) ≤ c.loop-i.i = rw (length-map c.args.rects.now corners_of) c.loop-i-test.false in
    first_all c.args.upright (map corners_of c.args.rects.now) c.loop-i.i c.loop-i.borders.items _ short whole c.loop-i.invariant
    c.put_in_order.ensures.same
