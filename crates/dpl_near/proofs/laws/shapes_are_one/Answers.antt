use Rattle.std.proofs.Common.{map}
use Rattle.dpl_cell.specs.Places.{corners_of}
use Rattle.dpl_near.proofs.LawLemmas.{labels_same, counts_same}
use Rattle.dpl_cell.proofs.BoxLemmas.{rects_have}
use Rattle.dpl_near.proofs.laws.shapes_are_one.Goals as goal

pub returns : goal.returns
returns c one other m n s t =
    let full = rects_have c.args.rects.now in
    (labels_same (map corners_of c.args.rects.now) one other m n full s t, counts_same (map corners_of c.args.rects.now) one other m n full s t)
