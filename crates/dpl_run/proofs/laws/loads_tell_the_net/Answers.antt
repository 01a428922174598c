use Rattle.dpl_run.proofs.OrderLemmas.{net_told}
use Rattle.dpl_run.proofs.laws.loads_tell_the_net.Goals as goal

pub returns : goal.returns
returns c = net_told
