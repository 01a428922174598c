use Rattle.std.proofs.Common.{arith}
use Rattle.dpl_flood.proofs.KeyLemmas.{stopped, went_up, at_root}
use Rattle.dpl_flood.proofs.keys.write.Goals as goal

pub returns-then-least-here-clause-heap : goal.returns-then-least-here-clause-heap
returns-then-least-here-clause-heap c = stopped c.args.count c.args.place c.args.key c.loop-here.here c.args.least.now c.loop-here.least
    c.loop-here.invariant (omega (arith, c.loop-here-test.true)) (omega (arith, c.if-least-here.true, c.min-lesser.ensures))

pub loop-here-preserved : goal.loop-here-preserved
loop-here-preserved c = went_up c.args.count c.args.place c.args.key c.loop-here.here c.min-lesser.result c.args.least.now c.loop-here.least
    c.loop-here.invariant (omega (arith, c.loop-here-test.true)) (omega (arith, c.min-lesser.ensures))

pub returns-clause-heap : goal.returns-clause-heap
returns-clause-heap c = at_root c.args.count c.args.place c.args.key c.loop-here.here c.args.least.now c.loop-here.least
    c.loop-here.invariant (omega (arith, c.loop-here-test.false))
