use Rattle.dpl_cuts.proofs.SameLemmas.{fragments_same}
use Rattle.dpl_cuts.proofs.laws.fragments_are_the_same.Goals as goal

pub returns : goal.returns
returns c = λ space over keep tiles label a b. fragments_same keep space over tiles label c.args.one.now c.args.other.now a b
