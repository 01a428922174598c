use Rattle.dpl_links.proofs.SameLemmas.{net_same}
use Rattle.dpl_links.proofs.laws.nets_are_the_same.Goals as goal

pub returns : goal.returns
returns c = λ weights space one other s t. net_same c.args.fragments.now weights space one other s t
