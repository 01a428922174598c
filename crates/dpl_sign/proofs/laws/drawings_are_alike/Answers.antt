use Rattle.dpl_sign.proofs.RedrawnNets.{next_alike, faces_alike}
use Rattle.dpl_sign.proofs.OppositeNets.{kept_by_faces, drawn_alike_faces}
use Rattle.dpl_sign.proofs.laws.drawings_are_alike.Goals as goal

pub returns : goal.returns
returns c =
    let one = c.args.one.now in
    let other = c.args.other.now in
    let same = kept_by_faces one other (drawn_alike_faces one other c.requires) in
    record {
      next = next_alike one other c.requires;
      faces = faces_alike one other c.requires;
      excess = same.excesses;
      kept = same.kept;
      aside = same.aside;
    }
