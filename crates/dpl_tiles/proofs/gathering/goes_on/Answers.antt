use Rattle.std.proofs.Common.{rules, SFits, w64}
use Rattle.std.proofs.lemmas.Int.{to_z-of_z}
use Rattle.dpl_tiles.proofs.gathering.goes_on.Goals as goal

pub returns-in-Some-clause-none : goal.returns-in-Some-clause-none
returns-in-Some-clause-none c = λ t d l.
    let f : SFits w64 c.in-Some.corner.now.left = search rules in
    rw (← c.in-Some.ensures.lookup.3.1 d) (simp to_z-of_z at (c.are_from.ensures.some t))
