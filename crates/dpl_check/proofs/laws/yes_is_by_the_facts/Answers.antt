use Rattle.dpl_check.proofs.YesLemmas.{yes_by_facts}
use Rattle.dpl_check.proofs.laws.yes_is_by_the_facts.Goals as goal

pub returns : goal.returns
returns c = λ text report cost bound. yes_by_facts c.args.options.now text report cost bound c.in_range.ensures
