use Rattle.std.proofs.Common.{◌<◌, length, map}
use Rattle.std.proofs.lemmas.List.{length-map}
use Rattle.dpl_cell.specs.Places.{corners_of}
use Rattle.dpl_cell.proofs.BoxLemmas.{rects_have}
use Rattle.dpl_near.proofs.JoinLemmas.{corners_at, joins_more}
use Rattle.dpl_near.proofs.joining.push_joins.Goals as goal

pub returns : goal.returns
returns c =
    let within : c.args.i < length (map corners_of c.args.rects.now) = rw (length-map c.args.rects.now corners_of) c.requires.within in
    joins_more (map corners_of c.args.rects.now) c.args.i (corners_of c.index-rects-i.result) c.args.left.now c.args.lower.now _ _ _
    (rects_have c.args.rects.now) within (corners_at c.args.rects.now c.args.i c.index-rects-i.result c.requires.within c.index-rects-i.is)
    c.requires.left c.requires.lower (rw c.last_border-right.ensures at c.in_ok-push_along.ensures)
    (rw c.last_border-upper.ensures at c.in_ok-push_along-2.ensures) c.requires.joins
