use Rattle.dpl_cuts.proofs.SameLemmas.{no_more_fragments}
use Rattle.dpl_cuts.proofs.laws.fragments_are_all.Goals as goal

pub returns : goal.returns
returns c = λ space over n keep tiles label a few. no_more_fragments keep space over tiles label c.args.fragments.now n a few
