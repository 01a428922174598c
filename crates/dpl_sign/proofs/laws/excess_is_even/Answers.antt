use Rattle.dpl_sign.specs.Drawings.{is_in}
use Rattle.dpl_sign.proofs.ExcessLemmas.{excess_even, excess_euler}
use Rattle.dpl_sign.proofs.laws.excess_is_even.Goals as goal

pub returns-clause-even : goal.returns-clause-even
returns-clause-even c = excess_even c.args.net.now (is_in c.args.set.now)

pub returns-clause-euler : goal.returns-clause-euler
returns-clause-euler c = excess_euler c.args.net.now (is_in c.args.set.now)
