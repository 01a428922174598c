use Rattle.dpl_sign.proofs.OppositeNets.{walk_back, faces_opposite, odd_opposite, kept_by_faces, opposite_faces}
use Rattle.dpl_sign.proofs.OddCounts.{odd_counts}
use Rattle.dpl_sign.proofs.laws.drawings_are_opposite.Goals as goal

pub returns : goal.returns
returns c =
    let one = c.args.one.now in
    let other = c.args.other.now in
    let same = kept_by_faces one other (opposite_faces one other c.requires) in
    record {
      walks = walk_back one other c.requires;
      faces = faces_opposite one other c.requires;
      odd = odd_opposite one other c.requires;
      count = odd_counts one other c.requires;
      excess = same.excesses;
      kept = same.kept;
      aside = same.aside;
    }
