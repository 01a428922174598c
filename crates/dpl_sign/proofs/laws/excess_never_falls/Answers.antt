use Rattle.dpl_sign.specs.Drawings.{is_in}
use Rattle.dpl_sign.proofs.MonotoneLemmas.{excess_rises}
use Rattle.dpl_sign.proofs.laws.excess_never_falls.Goals as goal

pub returns : goal.returns
returns c = excess_rises c.args.net.now (is_in c.args.set.now) (is_in c.args.more.now) c.requires
