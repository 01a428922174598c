use Rattle.dpl_euler.proofs.FirstLemmas.{listed_first}
use Rattle.dpl_euler.proofs.laws.first_aside_is_listed_first.Goals as goal

pub returns : goal.returns
returns c e = listed_first c.args.net.now e
