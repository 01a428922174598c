use Rattle.std.proofs.Common.{rules, SFits, w64}
use Rattle.std.proofs.lemmas.Int.{to_z-of_z}
use Rattle.dpl_cuts.proofs.crowding.part_between.Goals as goal

pub returns : goal.returns
returns c =
    let from : SFits w64 c.args.first.now.from = search rules in
    let to : SFits w64 c.args.last.now.to = search rules in
    simp to_z-of_z at c.clipped.ensures
