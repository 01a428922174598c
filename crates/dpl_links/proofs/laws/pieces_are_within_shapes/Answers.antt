use Rattle.dpl_links.proofs.LawLemmas.{net_within_shapes}
use Rattle.dpl_links.proofs.laws.pieces_are_within_shapes.Goals as goal

pub returns : goal.returns
returns c = λ keep tiles label count' weights net s a n. net_within_shapes keep c.args.space c.args.overlap tiles label
    count' c.args.fragments.now weights net c.requires s a n
