use Rattle.dpl_links.proofs.WeightLemmas.{edges_weigh}
use Rattle.dpl_links.proofs.laws.edges_have_weights.Goals as goal

pub returns : goal.returns
returns c = λ weights space net n. edges_weigh c.args.fragments.now weights space net n
