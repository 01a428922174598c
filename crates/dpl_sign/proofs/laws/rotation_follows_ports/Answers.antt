use Rattle.dpl_sign.specs.Drawings.{is_in}
use Rattle.dpl_sign.proofs.RotationLaw.{comes_next}
use Rattle.dpl_sign.proofs.laws.rotation_follows_ports.Goals as goal

pub returns : goal.returns
returns c = λ v d h. comes_next c.args.net.now (is_in c.args.set.now) v d h
