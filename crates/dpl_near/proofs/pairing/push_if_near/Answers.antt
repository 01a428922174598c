use Rattle.std.proofs.Common.{rules, inr, ◌<◌, length, map, refl}
use Rattle.std.proofs.lemmas.List.{length-map}
use Rattle.dpl_cell.specs.Places.{corners_of}
use Rattle.dpl_cell.proofs.BoxLemmas.{not_by_test}
use Rattle.dpl_near.proofs.JoinLemmas.{corners_at}
use Rattle.dpl_near.proofs.NearLemmas.{near_no, near_itself}
use Rattle.dpl_near.proofs.pairing.push_if_near.Goals as goal
use Rattle.dpl_near.proofs.pairing.push_if_near.Goals.{else-j-i-via-then-j-i+else-are_close, else-j-i-via-else-j-i}

pub returns-else-j-i : goal.returns-else-j-i
returns-else-j-i c =
    let first : c.args.i < length (map corners_of c.args.rects.now) = rw (length-map c.args.rects.now corners_of) c.requires.within in
    let second : c.args.j < length (map corners_of c.args.rects.now) = rw (length-map c.args.rects.now corners_of) c.requires.other in
    elim c.else-j-i.branch [
      | else-j-i-via-then-j-i+else-are_close v ↦ inr (
        near_no _ c.args.i c.args.j _ _ first second
            (corners_at c.args.rects.now c.args.i v.index-rects-i.result c.requires.within v.index-rects-i.is)
            (corners_at c.args.rects.now c.args.j v.index-rects-j.result c.requires.other v.index-rects-j.is)
            (not_by_test _ v.if-are_close.false v.are_close.ensures.1),
        refl,
        refl,
      )
      | else-j-i-via-else-j-i v ↦ inr (near_itself _ c.args.i c.args.j (search rules), refl, refl)
    ]
