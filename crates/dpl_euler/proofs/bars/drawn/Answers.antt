use Rattle.dpl_euler.proofs.BarLemmas.{excess_two}
use Rattle.dpl_euler.proofs.bars.drawn.Goals as goal

pub returns-clause-two : goal.returns-clause-two
returns-clause-two c = excess_two c.args.net.now _ c.in_ok-found.ensures.least.inside c.in_ok-found.ensures.least.aside
