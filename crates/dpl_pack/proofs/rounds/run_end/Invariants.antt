use Rattle.dpl_pack.specs.Rounds.{IsRun}
use Rattle.dpl_pack.proofs.rounds.run_end.Given as goal

abbrev pub invariant-loop-i : goal.invariant-loop-i
invariant-loop-i l = IsRun l.levels l.from l.i
