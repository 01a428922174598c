use Rattle.std.proofs.Common.{arith}
use Rattle.dpl_links.proofs.CrowdLemmas.{turns_all}
use Rattle.dpl_links.proofs.turning.turns_of.Goals as goal

pub returns : goal.returns
returns c = turns_all c.args.crowd.now c.args.crowded.now c.back.k c.back.from c.back.turns.items c.requires.crowd (omega arith) c.back.invariant
