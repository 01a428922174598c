use Rattle.dpl_sign.proofs.AsideLemmas.{aside_raises}
use Rattle.dpl_sign.proofs.laws.edges_aside_raise_the_excess.Goals as goal

pub returns : goal.returns
returns c = aside_raises c.args.net.now c.args.edge c.requires
