use Rattle.dpl_cell.specs.Places.{corners_of}
use Rattle.dpl_links.proofs.FacedLemmas.{port_says, port_is}
use Rattle.dpl_links.proofs.laws.ports_are_by_facing.Goals as goal

pub returns : goal.returns
returns c =
    let a = c.args.a.now in
    let b = c.args.b.now in
    λ p. (
      port_says (corners_of a) (corners_of b) p (a.wide, a.high) (b.wide, b.high),
      port_is (corners_of a) (corners_of b) p (a.wide, a.high) (b.wide, b.high),
    )
