use Rattle.std.proofs.Common.{refl, sym, subst}
use Rattle.dpl_sum.specs.declared.combining.SolvedPart.{SolvedPart}
use Rattle.dpl_sum.specs.Laying.{solved_part}
use Rattle.dpl_sum.specs.Solved.{IsSolved, AreSameNets}
use Rattle.dpl_sum.proofs.solving.reuse_or_solve.Goals as goal

pub reused-requires : goal.reused-requires
reused-requires c =
    let s = c.index-known-place.result in
    let low = c.if-not-is_known.ensures.below refl in record {
      solved = subst (λ (z : SolvedPart). IsSolved (solved_part z)) (sym c.index-known-place.is) (c.requires.known c.args.place s low);
      same = subst (λ (z : SolvedPart). AreSameNets z.part.net c.args.part.net) (sym c.index-known-place.is) (c.if-not-is_known.ensures.same refl s);
    }
