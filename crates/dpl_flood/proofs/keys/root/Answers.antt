use Rattle.dpl_flood.proofs.KeyLemmas.{root_first}
use Rattle.dpl_flood.proofs.keys.root.Goals as goal

pub returns : goal.returns
returns c = root_first c.args.count c.args.least.now c.requires.heap c.requires.some
