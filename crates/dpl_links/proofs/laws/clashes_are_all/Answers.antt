use Rattle.dpl_links.proofs.LawLemmas.{net_clashes}
use Rattle.dpl_links.proofs.laws.clashes_are_all.Goals as goal

pub returns : goal.returns
returns c = λ keep tiles label count' weights net s a n. net_clashes keep c.args.space c.args.overlap tiles label count'
    c.args.fragments.now weights net c.requires s a n
