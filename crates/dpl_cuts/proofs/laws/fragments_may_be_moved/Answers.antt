use Rattle.dpl_cuts.proofs.MovedLemmas.{fragments_moved}
use Rattle.dpl_cuts.proofs.laws.fragments_may_be_moved.Goals as goal

pub returns : goal.returns
returns c = λ right up space over keep tiles label i a. fragments_moved right up keep space over tiles label c.args.fragments.now
    c.args.others.now i a
