use Rattle.dpl_sign.proofs.AsideLaw.{none_aside}
use Rattle.dpl_sign.proofs.laws.nothing_is_aside_where_plane.Goals as goal

pub returns : goal.returns
returns c = none_aside c.args.net.now
