use Rattle.dpl_plain.proofs.PlainLemmas.{IsOnWay}
use Rattle.dpl_plain.proofs.cycles.least.Given as goal

abbrev pub invariant-loop-top : goal.invariant-loop-top
invariant-loop-top l = IsOnWay l.fn.nexts l.nexts l.number l.here l.top
