use Rattle.std.proofs.Common.{arith, ◌-◌}
use Rattle.dpl_pack.proofs.RoundLemmas.{run_begins, run_more}
use Rattle.dpl_pack.proofs.rounds.run_end.Goals as goal

pub loop-i-init : goal.loop-i-init
loop-i-init c = run_begins c.args.levels.now c.args.from c.requires

pub loop-i-preserved : goal.loop-i-preserved
loop-i-preserved c = run_more c.args.levels.now c.args.from c.loop-i.i (c.loop-i.i - 1) c.loop-i-test.true
    (omega (arith, c.loop-i.invariant.more)) c.if-levels-i.false c.if-levels-i-2.false c.loop-i.invariant
