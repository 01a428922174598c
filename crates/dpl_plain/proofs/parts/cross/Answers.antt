use Rattle.std.proofs.Common.{arith, ◌+◌, ◌*◌}
use Rattle.dpl_sign.specs.Drawings.{is_in}
use Rattle.dpl_sign.proofs.Rotation.{face_below}
use Rattle.dpl_plain.proofs.parts.cross.Goals as goal

pub bounds-names-there : goal.bounds-names-there
bounds-names-there c =
    let below = face_below c.args.net.now (is_in c.args.set.now) (2 * c.args.edge) (omega (arith, c.requires.edge)) in
    omega (arith, c.in_ok-there.ensures, below, c.requires.faces)

pub bounds-names-back : goal.bounds-names-back
bounds-names-back c =
    let below = face_below c.args.net.now (is_in c.args.set.now) (2 * c.args.edge + 1) (omega (arith, c.requires.edge)) in
    omega (arith, c.in_ok-back.ensures, below, c.requires.faces)
