use Rattle.dpl_sign.proofs.AsideLemmas.{kept_by_excess, aside_by_excess}
use Rattle.dpl_sign.proofs.laws.aside_is_by_the_excess.Goals as goal

pub returns-clause-kept : goal.returns-clause-kept
returns-clause-kept c = kept_by_excess c.args.one.now c.args.other.now c.requires.edges c.requires.excess

pub returns-clause-aside : goal.returns-clause-aside
returns-clause-aside c = aside_by_excess c.args.one.now c.args.other.now c.requires.edges c.requires.excess
