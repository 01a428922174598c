use Rattle.dpl_good.proofs.LetterLemmas.{broken_stitches, broken_clashes}
use Rattle.dpl_good.proofs.laws.letters_break_edges.Goals as goal

pub returns-clause-stitches : goal.returns-clause-stitches
returns-clause-stitches c = broken_stitches

pub returns-clause-clashes : goal.returns-clause-clashes
returns-clause-clashes c = broken_clashes
