use Rattle.std.proofs.Common.{rules, ◌≡◌, length, refl}
use Rattle.dpl_sign.specs.Drawings.{dart_count}
use Rattle.dpl_drawing.proofs.DrawnLemmas.{drawn_empty}
use Rattle.dpl_drawing.proofs.planes.Plane.new.Goals as goal

pub returns-clause-drawn : goal.returns-clause-drawn
returns-clause-drawn c =
    let darts : length c.in_ok-faces.faces.nexts ≡ dart_count c.args.net.now = search rules in
    drawn_empty _ _ _ _ darts c.in_ok-parts.ensures.length refl c.in_ok-faces.ensures.alone c.in_ok-parts.ensures.alone
