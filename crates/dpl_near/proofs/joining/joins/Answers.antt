use Rattle.std.proofs.Common.{◌≤◌, length, map}
use Rattle.std.proofs.lemmas.List.{length-map}
use Rattle.dpl_cell.specs.Places.{corners_of}
use Rattle.dpl_cell.proofs.BoxLemmas.{rects_have}
use Rattle.dpl_near.proofs.JoinLemmas.{joins_all}
use Rattle.dpl_near.proofs.joining.joins.Goals as goal

pub returns : goal.returns
returns c =
    let whole : length (map corners_of c.args.rects.now) ≤ c.loop-i.i = rw (length-map c.args.rects.now corners_of) c.loop-i-test.false in
    joins_all (map corners_of c.args.rects.now) c.loop-i.i c.loop-i.joins.items _ (rects_have c.args.rects.now) c.requires.apart whole
    c.loop-i.invariant c.put_in_order.ensures.ordered c.put_in_order.ensures.same
