use Rattle.dpl_links.proofs.SameLemmas.{no_more_edges}
use Rattle.dpl_links.proofs.laws.edges_are_all.Goals as goal

pub returns : goal.returns
returns c = λ weights space n net s few. no_more_edges c.args.fragments.now weights space net n s few
