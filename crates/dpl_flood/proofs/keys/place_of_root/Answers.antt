use Rattle.std.proofs.Common.{arith}
use Rattle.dpl_flood.proofs.KeyLemmas.{place_first}
use Rattle.dpl_flood.proofs.keys.place_of_root.Goals as goal

pub returns-clause-first : goal.returns-clause-first
returns-clause-first c = place_first c.args.count c.loop-here.here c.args.least.now c.requires.heap c.requires.some
    (omega (arith, c.loop-here-test.false)) c.loop-here.invariant.inside c.loop-here.invariant.least
